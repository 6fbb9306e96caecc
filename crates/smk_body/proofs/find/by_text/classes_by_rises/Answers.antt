use Rattle.std.proofs.{Common.{◌≡◌, ◌∙◌, ◌<◌, ◌+◌, ℕ, List, length, get_or, ap, subst, arith}, lemmas.List.get_or_default}
use Rattle.std.specs.List.{All}
use Rattle.smk_base.specs.{Rels.{AreCodesOf, column_texts, column_values}, TextColumns.text_firsts}
use Rattle.smk_keys.specs.{Classes.ClassesImage, Orders.IsInOrder}
use Rattle.smk_jobs.specs.Cuts.{cut_at}
use Rattle.smk_body.specs.Rises.{codes_of}
use Rattle.smk_jobs.proofs.Cutting.{cut_end, cut_within}
use Rattle.smk_body.proofs.{Rising.{long, part_rises, rise_known, rise_new, text_classes-are}, find.by_text.classes_by_rises.Goals.{then-codes-place+in_ok-push, else-codes-place}}
use Rattle.smk_body.proofs.find.by_text.classes_by_rises.Goals as goal

pub loop-place-preserved : goal.loop-place-preserved
loop-place-preserved c =
    let L = c.args.rel.now.rows in
    let codes = codes_of L c.args.c in
    let p = c.loop-p.p in
    let rises = c.as_slice-rises.result.now in
    let found = c.loop-place.firsts.items in
    let k = c.loop-place.place-index in
    let to = cut_at c.args.workers (length L) (p + 1) in
    let below : p < c.args.workers = omega (arith, c.loop-p-test.true, c.requires.parts.0) in
    let so = part_rises (λ v. v.items) codes (length L) c.args.workers p c.args.parts.now c.index-parts-p.result rises below c.requires.parts c.index-parts-p.is c.as_slice-rises.ensures.value in
    let here : k < length rises = c.loop-place-test.true in
    let g = get_or rises k 0 in
    let next = get_or rises (k + 1) to in
    let low : g < length codes = omega (arith, so.below k here, cut_within c.args.workers (length L) (p + 1) (omega (arith, below)), long L c.args.c) in
    let known : IsInOrder codes found g = subst (IsInOrder codes found) (get_or_default rises k to 0 here) c.loop-place.invariant in
    let code = ap (λ (l : List ℕ). get_or l g 0) c.codes-codes.ensures.codes in
    elim c.if-codes-place.branch [
      | then-codes-place+in_ok-push w ↦ rw (w.firsts-is, w.in_ok-push.ensures.items) (rise_new L c.args.c found g next known low (so.grows k here) (λ i h q. so.greatest k i here h q) (omega (arith, w.if-codes-place.true, c.len.ensures, code)))
      | else-codes-place w ↦ rw w.firsts-is (rise_known L c.args.c found g next known low (so.grows k here) (λ i h q. so.greatest k i here h q) (λ e. w.if-codes-place.false (omega (arith, e, c.len.ensures, code))))
    ]

pub returns : goal.returns
returns c =
    let L = c.args.rel.now.rows in
    let codes = codes_of L c.args.c in
    let same = c.codes-codes.ensures.codes in
    let count = length (text_firsts (column_texts c.args.c L)) in
    let all : c.loop-p.p ≡ c.args.workers = omega (arith, c.loop-p.auto.p-end, c.loop-p-test.false, c.requires.parts.0) in
    text_classes-are L c.args.c count c.loop-p.firsts.items c.of_parts.result
    (ap (λ (m : ClassesImage). m.of) c.of_parts.ensures ∙ c.in_ok-of.ensures.items ∙ same)
    (ap (λ (m : ClassesImage). m.firsts) c.of_parts.ensures)
    (subst (IsInOrder codes c.loop-p.firsts.items) (cut_end c.args.workers (length L) c.loop-p.p c.requires.some all) c.loop-p.invariant)
    (subst (AreCodesOf (column_values c.args.c L)) same c.codes-codes.ensures.equal)
    (subst (All (λ code. code < count)) same c.codes-codes.ensures.within)
