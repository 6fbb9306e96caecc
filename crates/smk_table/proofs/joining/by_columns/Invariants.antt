use Rattle.std.proofs.Common.{◌≡◌, ◌<◌, ◌≤◌, ◌∷◌, [], ℕ, map, get_or}
use Rattle.std.specs.Prelude.{vec_len, vec_capacity}
use Rattle.smk_table.specs.Joined.{columns_of}
use Rattle.smk_table.proofs.joining.by_columns.Given as goal

abbrev pub invariant-loop-c : goal.invariant-loop-c
invariant-loop-c l = record {
  each : (k : ℕ) (d : _) → k < l.c → (get_or l.made.items k d).items ≡ map (columns_of (k ∷ [])) l.parts.items;
  len : vec_len l.made ≡ l.c;
  room : l.width ≤ vec_capacity l.made;
}
