use Rattle.std.proofs.Common.{◌≡◌, ◌≤◌, ℕ, Bool, length, sym, ap, arith, filter}
use Rattle.std.specs.List.{concat}
use Rattle.smk_base.specs.Places.{places}
use Rattle.smk_skip.proofs.Orders.{order_few, ranked_few}
use Rattle.smk_skip.proofs.split.Split.of_rows.Goals as goal

pub places_in-requires-clause-few : goal.places_in-requires-clause-few
places_in-requires-clause-few c = omega (arith, order_few (concat c.in_ok-values.by_value.lists) (length c.args.rel.now.rows) c.in_ok-values.ensures.once, c.len-rows.ensures.keeps.few_rows)

pub places_in-requires-clause-pairs : goal.places_in-requires-clause-pairs
places_in-requires-clause-pairs c =
    let order = concat c.in_ok-values.by_value.lists in
    let m = c.args.map.now in
    let size : length c.args.rel.now.rows ≡ m.bound = sym c.requires.bound in
    let apart : (t : ℕ → Bool) → length (filter t order) ≤ length (places t m.bound) = λ t. omega (arith, c.in_ok-values.ensures.once t, ap (λ n. length (places t n)) size) in
    omega (arith, ranked_few order m apart c.pairs-pairs.ensures.keeps.sets, c.pairs-pairs.ensures.keeps.few)

pub invariant_of-result : goal.invariant_of-result
invariant_of-result c =
    let made = c.in_ok-values.ensures in
    rw (c.of.ensures, c.of-2.ensures) (record {
      bound = c.requires.bound;
      whole = made.whole;
      lists = made.lists;
      low = made.bound;
      few = omega (arith, order_few (concat c.in_ok-values.by_value.lists) (length c.args.rel.now.rows) made.once, c.len-rows.ensures.keeps.few_rows);
      ranked_are = c.in_ok-places.ensures;
    })
