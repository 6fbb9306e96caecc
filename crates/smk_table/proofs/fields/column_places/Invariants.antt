use Rattle.std.proofs.Common.{◌≡◌, ◌++◌, drop, Ok, vec_len}
use Rattle.csv.specs.Records.{fields_of}
use Rattle.smk_model.specs.{Names.◌>>=◌, Tables.{all_or_first, numbered, header_place}}
use Rattle.smk_table.proofs.fields.column_places.Given as goal

abbrev pub invariant-loop-c : goal.invariant-loop-c
invariant-loop-c l = (vec_len l.places ≡ l.c)
    × (all_or_first (numbered (header_place (fields_of l.header)) 0 l.cols)
    ≡ ◌>>=◌ (all_or_first (numbered (header_place (fields_of l.header)) l.c (drop l.c l.cols))) (λ rest. Ok (l.places.items ++ rest)))
