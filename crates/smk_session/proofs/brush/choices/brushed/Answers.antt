use Rattle.std.proofs.Common.{◌≡◌, ◌∙◌, ◌<◌, ℕ, true, List, length, ap, sym, subst, Option, Some}
use Rattle.smk_base.specs.{CatalogImage.catalog_image, Picks.IsAscending, declared.brush.BrushOn.BrushOn}
use Rattle.smk_session.specs.Answers.{counts, narrowed_by}
use Rattle.smk_session.proofs.{Selected.{chosen_more, chosen_same, narrowed_ascends, on_table}, brush.choices.brushed.Goals.{then-counts+in_ok-narrowed, else-counts}}
use Rattle.smk_session.proofs.brush.choices.brushed.Goals as goal

pub loop-brush-preserved : goal.loop-brush-preserved
loop-brush-preserved c =
    let brushes = c.args.brushes.now in
    let i = c.loop-brush.brush-index in
    let brush = c.brush-item.result in
    let test = counts (catalog_image c.args.catalog.now) c.args.view c.args.t in
    let low : i < length brushes = c.loop-brush-test.true in
    let rises : IsAscending brush.rids = subst (λ (b : BrushOn). IsAscending b.rids) (sym c.brush-item.is) (c.requires i brush low) in
    elim c.if-counts.branch [
      | then-counts+in_ok-narrowed w ↦
          let on : test brush ≡ true = sym c.counts.ensures ∙ w.if-counts.true in
          record {
            ascending = rw w.chosen-is (rw w.in_ok-narrowed.ensures (narrowed_ascends c.loop-brush.chosen brush.rids c.loop-brush.invariant.ascending rises));
            chosen = λ n are.
                rw w.chosen-is (ap Some w.in_ok-narrowed.ensures ∙ ap (λ (o : Option (List ℕ)). Some (narrowed_by o brush.rids)) (c.loop-brush.invariant.chosen n are)
                ∙ chosen_more test brushes i n brush low c.brush-item.is on (on_table (catalog_image c.args.catalog.now) c.args.view c.args.t i n brushes brush low c.brush-item.is are on));
          }
      | else-counts w ↦
          record {
            ascending = rw w.chosen-is c.loop-brush.invariant.ascending;
            chosen = λ n are. rw w.chosen-is (c.loop-brush.invariant.chosen n are ∙ chosen_same test brushes i n brush low c.brush-item.is (sym c.counts.ensures ∙ w.if-counts.false));
          }
    ]
