use Rattle.std.proofs.Common.{◌≡◌, ◌∙◌, ◌∷◌, ◌++◌, [], ℕ, Some, List, length, map, get_or, ap, sym, rules, arith}
use Rattle.smk_base.specs.{declared.book.plan.Agg.Agg, declared.book.plan.Agg.TheVariants.Count, Aggregates.{moved_to, read_by}, Rels.{kind_in, picked}}
use Rattle.smk_body.proofs.Besides.{relation}
use Rattle.smk_model.proofs.Aggregates.{column_there}
use Rattle.smk_push.proofs.{Read.{AreRead-all, IsRead-column, IsRead-count}, input.read_columns.Goals.{in-Some+in_ok-push-2, in_default}}
use Rattle.smk_push.proofs.input.read_columns.Goals as goal

pub loop-agg-preserved : goal.loop-agg-preserved
loop-agg-preserved c =
    let width = length c.args.all.now.kinds in
    let aggs = c.args.aggs.now in
    let i = c.loop-agg.agg-index in
    let cols = c.loop-agg.cols.items in
    let so = c.loop-agg.invariant in
    let agg : Agg = get_or aggs i Count in
    let fits = c.requires.fits i Count c.loop-agg-test.true in
    let made : c.over.result ≡ moved_to (length cols) agg = search rules in
    let over : c.push.new.self ≡ c.loop-agg.over ++ moved_to (length cols) agg ∷ [] = c.in_ok-push.ensures.pushed ∙ ap (λ (z : Agg). c.loop-agg.over ++ z ∷ []) made in
    elim c.match-column.branch [
      | in-Some+in_ok-push-2 w ↦ (
          let some : read_by agg ≡ Some w.in-Some.c = sym c.column.ensures ∙ w.in-Some.is in
          rw (over, w.cols-is, w.in_ok-push-2.ensures.items) (IsRead-column width aggs i c.loop-agg.over cols w.in-Some.c so some (column_there agg c.args.all.now.kinds w.in-Some.c fits some)))
      | in_default w ↦ rw (over, w.cols-is) (IsRead-count width aggs i c.loop-agg.over cols so (sym c.column.ensures ∙ w.in_default.is))
    ]

pub returns : goal.returns
returns c =
    let all = c.args.all.now in
    AreRead-all all c.in_ok-rows.rows c.args.aggs.now c.loop-agg.over c.loop-agg.cols.items c.loop-agg.agg-index (omega (arith, c.loop-agg-test.false, c.loop-agg.auto.agg-index-end)) c.requires.fits c.loop-agg.invariant
    (c.in_ok-rows.ensures ∙ ap (λ (cols : List ℕ). relation (map (kind_in all.kinds) cols) (map (picked cols) all.rows)) c.as_slice.ensures.value)
