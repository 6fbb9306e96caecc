use Rattle.std.proofs.Common.{◌≡◌, ◌++◌, drop}
use Rattle.std.specs.Option.{option_to_list}
use Rattle.csv.specs.Records.{fields_of}
use Rattle.smk_model.specs.Tables.{places_of}
use Rattle.smk_table.proofs.fields.place_of.Given as goal

abbrev pub invariant-loop-place : goal.invariant-loop-place
invariant-loop-place l = places_of l.decl.name 0 (fields_of l.header) ≡ option_to_list l.found ++ places_of l.decl.name l.place (drop l.place (fields_of l.header))
