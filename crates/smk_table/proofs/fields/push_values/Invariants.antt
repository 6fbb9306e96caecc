use Rattle.std.proofs.Common.{◌≡◌, ◌++◌, drop, length, Ok}
use Rattle.csv.specs.Records.{fields_of}
use Rattle.smk_model.specs.{Names.◌>>=◌, Tables.{all_or_first, numbered, cell_value}}
use Rattle.smk_table.proofs.fields.push_values.Given as goal

abbrev pub invariant-loop-c : goal.invariant-loop-c
invariant-loop-c l = record {
  kinds : l.rel.kinds ≡ l.fn.rel.kinds;
  rows : l.rel.rows ≡ l.fn.rel.rows;
  long : length l.rel.begun ≡ l.c;
  whole : all_or_first (numbered (cell_value l.places l.nth (fields_of l.fields)) 0 l.cols)
      ≡ ◌>>=◌ (all_or_first (numbered (cell_value l.places l.nth (fields_of l.fields)) l.c (drop l.c l.cols))) (λ rest. Ok (l.rel.begun ++ rest));
}
