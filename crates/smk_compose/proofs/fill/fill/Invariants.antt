use Rattle.std.proofs.Common.{◌≡◌, ◌<◌, ◌≤◌, ℕ, length, slice_index_or}
use Rattle.smk_model.specs.{Selection.each_rows, Composed.table_at}
use Rattle.smk_compose.specs.Through.{filled, map_at, no_need}
use Rattle.smk_compose.proofs.fill.fill.Given as goal

abbrev pub invariant-loop-i : goal.invariant-loop-i
invariant-loop-i l = record {
  count : length l.made.items ≡ l.i;
  long : length l.maps ≡ length l.fn.maps;
  done : (j : ℕ) → j < l.i → map_at l.made.items j ≡ filled (slice_index_or l.need j no_need).dir l.rows (length (table_at (each_rows l.tables) (slice_index_or l.need j no_need).table)) (map_at l.fn.maps j);
  rest : (j : ℕ) → l.i ≤ j → map_at l.maps j ≡ map_at l.fn.maps j;
}
