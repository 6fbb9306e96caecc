use Rattle.std.proofs.Common.{◌∙◌, ◌<◌, ℕ, length, ap, sym, arith, get_or, cond, set, Vec, Global}
use Rattle.smk_model.specs.{Values.value_at, Lineage.row_at}
use Rattle.smk_base.proofs.Places.{map_upto}
use Rattle.smk_model.proofs.Directions.{length_each}
use Rattle.smk_body.specs.Halves.{best_place, class_places}
use Rattle.smk_body.proofs.{Folding.{best_step, best_there, bests_below, class_known, kept}, make.aggregates.best_cells.Goals.{then-improves, else-improves}}
use Rattle.smk_body.proofs.make.aggregates.best_cells.Goals as goal

pub loop-i-init : goal.loop-i-init
loop-i-init c = c.in_ok-best.ensures.items ∙ c.firsts.ensures ∙ sym (map_upto c.args.classes.now.firsts 0)

pub improves-requires-clause-other : goal.improves-requires-clause-other
improves-requires-clause-other c =
    let of = c.args.classes.now.of in
    let V = λ (i : ℕ). value_at (row_at c.args.rel.now.rows i) c.args.c in
    rw (best_there c.args.greatest V c.args.classes.now (length c.args.rel.now.rows) c.loop-i.i c.loop-i.best.items c.index.result.now c.of-of.result.now c.requires.classes (omega arith) c.loop-i.invariant c.of-of.ensures c.index.ensures).0
    (best_there c.args.greatest V c.args.classes.now (length c.args.rel.now.rows) c.loop-i.i c.loop-i.best.items c.index.result.now c.of-of.result.now c.requires.classes (omega arith) c.loop-i.invariant c.of-of.ensures c.index.ensures).1

pub loop-i-preserved : goal.loop-i-preserved
loop-i-preserved c =
    let rows = c.args.rel.now.rows in
    let classes = c.args.classes.now in
    let V = λ (i : ℕ). value_at (row_at rows i) c.args.c in
    let S = c.loop-i.best.items in
    let i = c.loop-i.i in
    let p = get_or c.of-of.result.now i 0 in
    let b = c.index.result.now in
    let next = best_step c.args.greatest V classes (length rows) i S b c.of-of.result.now c.requires.classes (omega arith) c.loop-i.invariant c.of-of.ensures c.index.ensures in
    let low : p < length S = omega (arith, ap length c.loop-i.invariant, length_each (λ p. best_place c.args.greatest V (get_or classes.firsts p 0) (class_places classes.of i p)) (length classes.firsts), class_known c.args.rel.now.rows classes i c.of-of.result.now c.requires.classes (omega arith) c.of-of.ensures) in
    elim c.if-improves.branch [
      | then-improves w ↦ ap (λ (v : Vec ℕ Global). v.items) w.best-is ∙ sym (ap (λ t. set S p (cond t i b)) (sym c.improves.ensures ∙ w.if-improves.true)) ∙ next
      | else-improves w ↦ ap (λ (v : Vec ℕ Global). v.items) w.best-is ∙ sym (ap (λ t. set S p (cond t i b)) (sym c.improves.ensures ∙ w.if-improves.false) ∙ kept S p b low c.index.ensures) ∙ next
    ]

pub returns-clause-within : goal.returns-clause-within
returns-clause-within c = rw c.loop-i.invariant (bests_below c.args.greatest (λ i. value_at (row_at c.args.rel.now.rows i) c.args.c) c.args.classes.now (length c.args.rel.now.rows) c.loop-i.i c.requires.classes (omega arith))
