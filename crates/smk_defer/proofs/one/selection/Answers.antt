use Rattle.std.proofs.Common.{◌≡◌, ◌∙◌, length, ap}
use Rattle.smk_base.specs.PlanImage.{formula_of}
use Rattle.smk_base.proofs.Places.{places_are}
use Rattle.smk_model.specs.{Lineage.{meeting, row_at}, Values.meets}
use Rattle.smk_body.specs.Halves.{meeting_below}
use Rattle.smk_body.proofs.Standing.{places_stand}
use Rattle.smk_defer.proofs.one.selection.Goals as goal

pub marked_lists_if-requires-clause-set : goal.marked_lists_if-requires-clause-set
marked_lists_if-requires-clause-set c =
    let formula = formula_of c.args.pred.now in
    let rows = c.args.input.now.rows in
    let is : c.in_ok-places.places.items ≡ meeting formula rows = c.in_ok-places.ensures ∙ ap (meeting_below formula rows) c.len-rows.ensures.count in
    rw (c.as_slice.ensures.value, is, c.len-rows.ensures.count) (places_are (λ i. meets formula (row_at rows i)) (length rows))

pub marked_lists_if-requires-clause-few : goal.marked_lists_if-requires-clause-few
marked_lists_if-requires-clause-few c =
    let formula = formula_of c.args.pred.now in
    let rows = c.args.input.now.rows in
    let is : c.in_ok-places.places.items ≡ meeting formula rows = c.in_ok-places.ensures ∙ ap (meeting_below formula rows) c.len-rows.ensures.count in
    rw c.as_slice.ensures.value (places_stand formula rows _ is c.len-rows.ensures.keeps.few_rows).few

pub sources-requires-clause-below : goal.sources-requires-clause-below
sources-requires-clause-below c =
    let formula = formula_of c.args.pred.now in
    let rows = c.args.input.now.rows in
    let is : c.in_ok-places.places.items ≡ meeting formula rows = c.in_ok-places.ensures ∙ ap (meeting_below formula rows) c.len-rows.ensures.count in
    rw c.len-rows.ensures.count (places_stand formula rows _ is c.len-rows.ensures.keeps.few_rows)
