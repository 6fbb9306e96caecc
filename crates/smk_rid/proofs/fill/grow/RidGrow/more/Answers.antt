use Rattle.std.proofs.{Common.{arith, ◌≡◌, ◌++◌, ◌∷◌, [], List, ℕ, length, ap}, lemmas.Grind.common_steps, lemmas.List.Sums.sum_by_push}
use Rattle.smk_base.specs.Places.{Lists}
use Rattle.smk_rid.proofs.Joins.{IsMap-more}
use Rattle.smk_rid.proofs.fill.grow.RidGrow.more.Goals as goal

pub invariant_of-self-2 : goal.invariant_of-self-2
invariant_of-self-2 c =
    let xs : List (List ℕ) = c.self.inside.lists.items in
    let lists : c.push.new.self.items ≡ xs ++ [] ∷ [] = grind (arith, common_steps) in
    let m : Lists = record { lists = xs; bound = c.self.inside.bound } in
    let short : length xs ≡ length c.args.self.now.lists = ap (λ (z : Lists). length z.lists) c.self.view_is in
    rw lists (record {
      map = IsMap-more m c.self.invariant.map (omega (arith, c.requires, short));
      counted = omega (arith, c.self.invariant.counted, sum_by_push (length {A = ℕ}) xs []);
    })
