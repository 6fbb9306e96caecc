use Rattle.std.proofs.Common.{◌≡◌, take, map, get_or, ◌≤◌, length}
use Rattle.std.specs.Prelude.{vec_len, vec_capacity}
use Rattle.smk_base.proofs.rel.value_column.items_at.Given as goal

abbrev pub invariant-loop-place : goal.invariant-loop-place
invariant-loop-place g l = record {
  made : (d : g.row.T.Denot) → l.made.items ≡ map (λ place. get_or l.items place d) (take l.place-index l.places);
  len : vec_len l.made ≡ l.place-index;
  room : length l.places ≤ vec_capacity l.made;
}
