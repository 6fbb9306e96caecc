use Rattle.std.proofs.Common.{◌≡◌, drop}
use Rattle.smk_model.specs.Names.{is_taken}
use Rattle.smk_profile.proofs.profiling.is_among.Given as goal

abbrev pub invariant-loop-other : goal.invariant-loop-other
invariant-loop-other l = is_taken l.name l.names ≡ is_taken l.name (drop l.other-index l.other-items)
