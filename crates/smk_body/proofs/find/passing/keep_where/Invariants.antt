use Rattle.std.proofs.Common.{◌≡◌, ℕ, Bool, All, filter, ◌≤◌, length, take, drop}
use Rattle.smk_body.proofs.find.passing.keep_where.Given as goal

abbrev pub invariant-loop-k : goal.invariant-loop-k
invariant-loop-k g l = record {
  behind : l.count ≤ l.k;
  long : length l.items ≡ length l.initial.items;
  rest : drop l.k l.items ≡ drop l.k l.initial.items;
  front : (f : ℕ → Bool) → All (λ i. (told : Bool) → goal.F-post g l.test i told → told ≡ f i) l.initial.items → take l.count l.items ≡ filter f (take l.k l.initial.items);
}
