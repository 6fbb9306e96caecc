use Rattle.std.proofs.{Common.{length, sym, ap, subst}, lemmas.Bool.false≢true}
use Rattle.smk_base.specs.Places.{Lists}
use Rattle.smk_rid.specs.Maps.{IsSingle}
use Rattle.smk_rid.proofs.Arrays.{single-own}
use Rattle.smk_rid.proofs.map.RidMap.is_identity.Goals as goal

pub returns-in-None : goal.returns-in-None
returns-in-None c =
    (λ t. absurd (false≢true t), λ own. c.in-None.ensures.chosen (subst IsSingle (sym (ap (λ (m : Lists). m.lists) own)) (single-own (length c.args.self.now.lists))))
