use Rattle.std.proofs.Common.{◌≡◌, ◌∙◌, ◌<◌, IfOk, length, subst, sym, ap, arith}
use Rattle.std.specs.List.{All}
use Rattle.smk_base.specs.Places.{Lists, inverted, composed, has, list_at, pairs_of}
use Rattle.smk_model.proofs.Composed.{length_lists}
use Rattle.smk_model.specs.Locals.{singles}
use Rattle.smk_skip.specs.Parts.{ranked}
use Rattle.smk_skip.proofs.Orders.{owners_few, owners_turned}
use Rattle.smk_skip.proofs.order.places_in.Goals as goal

pub compose-requires : goal.compose-requires
compose-requires c =
    let m = c.args.map.now in
    omega (arith, ap (λ (z : Lists). z.bound) c.of_rids.ensures, ap (λ (z : Lists). length z.lists) c.in_ok-marks.ensures, length_lists (λ r i. has (list_at m i) r) m.bound (length m.lists), c.requires.bound, c.bound.ensures)

pub returns-in-Ok : goal.returns-in-Ok
returns-in-Ok c =
    let order = c.in_ok-order.order.items in
    let m = c.args.map.now in
    let made : c.in-Ok.made ≡ composed (singles order m.bound) (inverted m) = c.in-Ok.ensures.made ∙ ap (λ o. composed o c.in_ok-marks.marks) (c.of_rids.ensures ∙ ap (singles order) (c.bound.ensures ∙ sym c.requires.bound)) ∙ ap (composed (singles order m.bound)) c.in_ok-marks.ensures in
    let low : All (λ r. r < m.bound) order = rw c.requires.bound c.in_ok-order.ensures.below in
    subst (λ (z : Lists). IfOk c.invert-in-Ok.result (λ t. t ≡ z)) (ap inverted made ∙ owners_turned order m low ∙ ap (λ o. ranked o m) c.in_ok-order.ensures.rids) c.invert-in-Ok.ensures

pub unreachable-requires : goal.unreachable-requires
unreachable-requires c =
    let order = c.in_ok-order.order.items in
    let m = c.args.map.now in
    let same : composed c.of_rids.result c.in_ok-marks.marks ≡ composed (singles order m.bound) (inverted m) = ap (λ o. composed o c.in_ok-marks.marks) (c.of_rids.ensures ∙ ap (singles order) (c.bound.ensures ∙ sym c.requires.bound)) ∙ ap (composed (singles order m.bound)) c.in_ok-marks.ensures in
    let low : All (λ r. r < m.bound) order = rw c.requires.bound c.in_ok-order.ensures.below in
    let big : 16777216 < pairs_of (composed c.of_rids.result c.in_ok-marks.marks).lists = c.in-Err-Pairs.ensures.many c.in-Err-Pairs.field-0-is in
    omega (arith, big, ap (λ (z : Lists). pairs_of z.lists) same, owners_few order m low, ap (λ o. pairs_of (ranked o m).lists) c.in_ok-order.ensures.rids, c.requires.pairs)
