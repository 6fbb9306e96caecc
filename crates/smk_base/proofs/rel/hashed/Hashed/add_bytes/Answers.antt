use Rattle.smk_base.proofs.Codes.{with_text-known}
use Rattle.smk_base.proofs.rel.hashed.Hashed.add_bytes.Goals as goal

pub returns-in-Some-clause-texts : goal.returns-in-Some-clause-texts
returns-in-Some-clause-texts c = with_text-known _ _ c.in-Some.code c.in-Some.ensures
