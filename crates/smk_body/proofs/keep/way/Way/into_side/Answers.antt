use Rattle.std.proofs.Common.{◌≡◌, ◌∙◌, ap, sym}
use Rattle.smk_base.specs.Places.{inverted}
use Rattle.smk_model.specs.Locals.{singles}
use Rattle.smk_body.specs.{Bounds.way_of, Locals.wanted}
use Rattle.smk_body.proofs.Siding.{by_targets}
use Rattle.smk_body.proofs.keep.way.Way.into_side.Goals as goal

pub returns-in_ok-back-in-Targets : goal.returns-in_ok-back-in-Targets
returns-in_ok-back-in-Targets c =
    let it = c.in-Targets in
    let slice : c.as_slice-in-Targets.result.now ≡ it.of.items = cc (c.as_slice-in-Targets.ensures.value, it.of-is) in
    let back : c.in_ok-back-in-Targets.back ≡ wanted c.args.want.back (inverted (singles c.as_slice-in-Targets.result.now it.outputs)) = cc (c.in_ok-back-in-Targets.ensures, it.outputs-is) in
    let fwd : c.given_lists_if-fwd.result ≡ wanted c.args.want.fwd (singles it.of.items it.outputs) = cc (c.given_lists_if-fwd.ensures, it.of-is, it.outputs-is) in
    by_targets c.args.want c.args.self it.of.items c.as_slice-in-Targets.result.now it.outputs c.in_ok-back-in-Targets.back c.given_lists_if-fwd.result (sym c.self.view_is ∙ ap way_of it.is) slice back fwd

pub returns-in-Stretch : goal.returns-in-Stretch
returns-in-Stretch c = rw (← c.self.view_is, c.in-Stretch.is) c.side_of_stretch.ensures
