use Rattle.std.proofs.{Common.{◌≡◌, ◌∙◌, ◌-◌, ℕ, All, filter, ap, refl, subst, sym, length, ◌<◌}, lemmas.Iterator.{YieldsList-from_range, items_from_collect}, lemmas.Result.IfOk-at_ok}
use Rattle.std.specs.List.{range_with_len}
use Rattle.smk_base.specs.PlanImage.{formula_of}
use Rattle.smk_model.specs.{Values.meets, Lineage.row_at}
use Rattle.smk_body.proofs.Comparing.{kept_behind, range_within}
use Rattle.smk_body.proofs.find.passing.selected_places.Goals as goal

pub keep_meeting-requires-clause-within : goal.keep_meeting-requires-clause-within
keep_meeting-requires-clause-within c =
    let from = c.args.from in
    let to = c.args.to in
    let made : c.in_ok-places.places.items ≡ range_with_len from (to - from) = IfOk-at_ok (λ w. w.items ≡ range_with_len from (to - from)) c.in_ok-places.was (items_from_collect c.collect.result c.collect.ensures.ran (YieldsList-from_range from to (to - from) refl refl)) in
    subst (All (λ i. i < length c.args.rel.now.rows)) (sym made) (range_within from to (length c.args.rel.now.rows) c.requires.within)

pub returns : goal.returns
returns c =
    let rows = c.args.rel.now.rows in
    let from = c.args.from in
    let to = c.args.to in
    let f = λ (i : ℕ). meets (formula_of c.args.pred.now) (row_at rows i) in
    let made : c.in_ok-places.places.items ≡ range_with_len from (to - from) = IfOk-at_ok (λ w. w.items ≡ range_with_len from (to - from)) c.in_ok-places.was (items_from_collect c.collect.result c.collect.ensures.ran (YieldsList-from_range from to (to - from) refl refl)) in
    kept_behind f from to c.shrink_to_fit.new.self.items c.requires.order (c.shrink_to_fit.ensures.items ∙ c.in_ok-keep_meeting.ensures.kept ∙ ap (filter f) made)
