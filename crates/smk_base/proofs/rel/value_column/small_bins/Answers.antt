use Rattle.std.proofs.Common.{ℤ, pos, rules, to_z, of_z, w64, ◌∙◌, ◌+◌, ℕ, ap}
use Rattle.std.specs.Int.{int_div_euclid}
use Rattle.smk_base.proofs.Loops.{mapped_next}
use Rattle.smk_base.proofs.rel.value_column.small_bins.Goals as goal

pub loop-number-preserved : goal.loop-number-preserved
loop-number-preserved c =
    record {
      made = rw c.push_reserved.ensures.items (mapped_next (λ (n : ℤ). int_div_euclid n (to_z w64 (of_z w64 c.args.width))) c.args.ints.now c.loop-number.made.items c.loop-number.number-index _ (pos 0) c.loop-number-test.true (search rules) c.loop-number.invariant.made);
      len = c.push_reserved.ensures.len ∙ ap (λ (n : ℕ). n + 1) c.loop-number.invariant.len;
      room = rw c.push_reserved.ensures.capacity c.loop-number.invariant.room;
    }
