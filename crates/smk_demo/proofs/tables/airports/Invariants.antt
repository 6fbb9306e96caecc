use Rattle.std.proofs.Common.{◌≡◌, ◌∷◌, map}
use Rattle.smk_base.specs.Places.{upto}
use Rattle.smk_model.specs.Demo.{table_text, airport_header, airport}
use Rattle.smk_demo.proofs.tables.airports.Given as goal

abbrev pub invariant-loop-i : goal.invariant-loop-i
invariant-loop-i l = l.text.items ≡ table_text (airport_header ∷ map airport (upto l.i))
