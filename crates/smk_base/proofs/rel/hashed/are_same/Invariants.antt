use Rattle.std.proofs.Common.{◌≡◌, drop}
use Rattle.smk_base.specs.Dicts.{text_eq}
use Rattle.smk_base.proofs.rel.hashed.are_same.Given as goal

abbrev pub invariant-loop-i : goal.invariant-loop-i
invariant-loop-i l = text_eq (drop l.i l.a) (drop l.i l.b) ≡ text_eq l.a l.b
