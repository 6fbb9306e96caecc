use Rattle.std.proofs.Common.{◌≡◌}
use Rattle.smk_model.specs.Demo.{flights}
use Rattle.smk_demo.proofs.tables.flights.Given as goal

abbrev pub invariant-loop-i : goal.invariant-loop-i
invariant-loop-i l = l.text.items ≡ flights l.i
