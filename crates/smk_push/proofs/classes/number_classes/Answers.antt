use Rattle.std.proofs.{Common.{◌≡◌, ◌∙◌, ◌<◌, ℕ, List, length, get_or, refl, sym, subst, arith, rules}, lemmas.Bool.false≢true}
use Rattle.smk_push.proofs.{Found.{IsFound-none, IsFound-again, IsFound-anew, IsFound-all, firsts_below}, classes.number_classes.Goals.{then-is_class, else-is_class+in_ok-push}}
use Rattle.smk_push.proofs.classes.number_classes.Goals as goal

pub loop-i-init : goal.loop-i-init
loop-i-init c = (rw (c.in_ok-of.ensures.items, c.new-firsts.ensures.items) (IsFound-none c.args.numbers.now (length c.args.table.now) c.args.table.now refl), c.in_ok-of.ensures.capacity)

pub push_reserved-requires : goal.push_reserved-requires
push_reserved-requires c = omega (arith, c.loop-i.invariant.0.numbered.coded.long, c.loop-i.invariant.1, c.loop-i-test.true)

pub push_reserved-requires-else-is_class : goal.push_reserved-requires-else-is_class
push_reserved-requires-else-is_class c = omega (arith, c.loop-i.invariant.0.numbered.coded.long, c.loop-i.invariant.1, c.loop-i-test.true)

pub is_class-requires : goal.is_class-requires
is_class-requires c = rw c.as_slice.ensures.value (firsts_below c.args.numbers.now (length c.args.table.now) c.loop-i.i c.loop-i.of.items c.loop-i.firsts.items c.loop-i.table c.loop-i.invariant.0 (omega (arith, c.loop-i-test.true)))

pub loop-i-preserved : goal.loop-i-preserved
loop-i-preserved c =
    let items = c.args.numbers.now in
    let count = length c.args.table.now in
    let i = c.loop-i.i in
    let firsts = c.loop-i.firsts.items in
    let known = get_or c.loop-i.table (get_or items i 0) 0 in
    let so = c.loop-i.invariant.0 in
    let slice : c.as_slice.result.now ≡ firsts = c.as_slice.ensures.value in
    elim c.if-is_class.branch [
      | then-is_class w ↦ (
          let low : known < length firsts = subst (λ (z : List ℕ). known < length z) slice w.if-is_class.ensures.inside in
          let at : get_or items (get_or firsts known 0) 0 ≡ get_or items i 0 = subst (λ (z : List ℕ). get_or items (get_or z known 0) 0 ≡ get_or items i 0) slice w.if-is_class.ensures.same in (
            rw (w.of-is, w.firsts-is, w.table-is, w.push_reserved.ensures.items) (IsFound-again items count i c.loop-i.of.items firsts c.loop-i.table so low at),
            rw (w.of-is, w.push_reserved.ensures.capacity) c.loop-i.invariant.1,
          ))
      | else-is_class+in_ok-push w ↦ (
          let class : w.len-class.result ≡ length firsts = search rules in
          let below : get_or items i 0 < count = c.requires.below i 0 c.loop-i-test.true in
          let none : known < length firsts → get_or items (get_or firsts known 0) 0 ≡ get_or items i 0 → ⊥ = λ low at. absurd (false≢true (sym w.if-is_class.false ∙ c.is_class.ensures.found (rw slice low) (rw slice at))) in (
            rw (w.of-is, w.firsts-is, w.table-is, w.push_reserved-else-is_class.ensures.items, w.in_ok-push.ensures.items, class) (IsFound-anew items count i c.loop-i.of.items firsts c.loop-i.table so below none),
            rw (w.of-is, w.push_reserved-else-is_class.ensures.capacity) c.loop-i.invariant.1,
          ))
    ]

pub returns-clause-classes : goal.returns-clause-classes
returns-clause-classes c =
    let is = c.of_parts.ensures in
    IsFound-all c.args.numbers.now (length c.args.table.now) c.loop-i.i c.loop-i.of.items c.loop-i.firsts.items c.loop-i.table c.of_parts.result c.loop-i.invariant.0 (omega (arith, c.loop-i.invariant.0.numbered.coded.long, c.loop-i-test.false)) (λ t. (is t).of) (λ t. (is t).firsts)
