use Rattle.std.proofs.Common.{◌≡◌, ◌∙◌, ◌<◌, ℕ, length, ap, sym, arith, pos, get_or, cond, set, Vec, Global, rules, to_z, of_z, w64}
use Rattle.smk_base.specs.declared.value.Value.TheVariants as values
use Rattle.smk_base.proofs.Places.{map_upto}
use Rattle.smk_model.proofs.Directions.{length_each}
use Rattle.smk_body.specs.Halves.{best_place, class_places, improves_on}
use Rattle.smk_body.proofs.{Folding.{best_step, best_there, bests_below, kept}, make.aggregates.best_small.Goals.{then-beats, else-beats}}
use Rattle.smk_body.proofs.make.aggregates.best_small.Goals as goal

pub loop-i-init : goal.loop-i-init
loop-i-init c = c.in_ok-best.ensures.items ∙ c.firsts.ensures ∙ sym (map_upto c.args.classes.now.firsts 0)

pub bounds-numbers-index : goal.bounds-numbers-index
bounds-numbers-index c =
    let V = λ (i : ℕ). values.Int (get_or c.args.numbers.now i (pos 0)) in
    let there = best_there c.args.greatest V c.args.classes.now (length c.args.numbers.now) c.loop-i.i c.loop-i.best.items c.index.result.now c.of-of.result.now c.requires.classes c.loop-i-test.true c.loop-i.invariant c.of-of.ensures c.index.ensures in
    rw there.0 there.1

pub loop-i-preserved : goal.loop-i-preserved
loop-i-preserved c =
    let numbers = c.args.numbers.now in
    let classes = c.args.classes.now in
    let V = λ (i : ℕ). values.Int (get_or numbers i (pos 0)) in
    let S = c.loop-i.best.items in
    let i = c.loop-i.i in
    let p = get_or c.of-of.result.now i 0 in
    let b = c.index.result.now in
    let next = best_step c.args.greatest V classes (length numbers) i S b c.of-of.result.now c.requires.classes c.loop-i-test.true c.loop-i.invariant c.of-of.ensures c.index.ensures in
    let known : get_or classes.of i 0 < length classes.firsts = c.requires.classes.below i 0 (omega (arith, c.requires.classes.long, c.loop-i-test.true)) in
    let low : p < length S = omega (arith, ap (λ of. get_or of i 0) c.of-of.ensures, ap length c.loop-i.invariant, length_each (λ p. best_place c.args.greatest V (get_or classes.firsts p 0) (class_places classes.of i p)) (length classes.firsts), known) in
    let same : to_z w64 (of_z w64 (get_or numbers i (pos 0))) ≡ get_or numbers i (pos 0) = search rules in
    let other : to_z w64 (of_z w64 (get_or numbers b (pos 0))) ≡ get_or numbers b (pos 0) = search rules in
    let told : c.beats.result ≡ improves_on c.args.greatest (V i) (V b) =
    c.beats.ensures ∙ ap (λ n. improves_on c.args.greatest (values.Int n) (values.Int (to_z w64 (of_z w64 (get_or numbers b (pos 0)))))) same ∙ ap (λ n. improves_on c.args.greatest (V i) (values.Int n)) other in
    elim c.if-beats.branch [
      | then-beats w ↦ ap (λ (v : Vec ℕ Global). v.items) w.best-is ∙ sym (ap (λ t. set S p (cond t i b)) (sym told ∙ w.if-beats.true)) ∙ next
      | else-beats w ↦ ap (λ (v : Vec ℕ Global). v.items) w.best-is ∙ sym (ap (λ t. set S p (cond t i b)) (sym told ∙ w.if-beats.false) ∙ kept S p b low c.index.ensures) ∙ next
    ]

pub returns-clause-within : goal.returns-clause-within
returns-clause-within c = rw c.loop-i.invariant (bests_below c.args.greatest (λ i. values.Int (get_or c.args.numbers.now i (pos 0))) c.args.classes.now (length c.args.numbers.now) c.loop-i.i c.requires.classes (omega arith))
