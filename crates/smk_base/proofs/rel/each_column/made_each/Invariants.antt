use Rattle.std.proofs.Common.{◌≡◌, ℕ, ◌<◌, ◌≤◌, length, Ok, get_or}
use Rattle.std.specs.Prelude.{vec_len, vec_capacity}
use Rattle.smk_base.proofs.rel.each_column.made_each.Given as goal

abbrev pub invariant-loop-k : goal.invariant-loop-k
invariant-loop-k g l = record {
  long : length l.made.items ≡ l.k;
  each : (j : ℕ) (d : g.row.T.Denot) → j < l.k → goal.F-post g l.make j (Ok (get_or l.made.items j d));
  len : vec_len l.made ≡ l.k;
  room : l.n ≤ vec_capacity l.made;
}
