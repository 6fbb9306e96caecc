use Rattle.std.proofs.Common.{◌≡◌, ◌∙◌, [], get_or, ap, subst}
use Rattle.smk_base.specs.Places.{Lists}
use Rattle.smk_rid.specs.Maps.{IsMap}
use Rattle.smk_rid.proofs.Sets.{is_below}
use Rattle.smk_rid.proofs.map.RidMap.at.Goals as goal

pub returns-clause-set : goal.returns-clause-set
returns-clause-set c =
    let kept : IsMap c.args.self.now = subst IsMap c.self.view_is c.self.invariant.map in
    let is : c.at.result.now ≡ get_or c.args.self.now.lists c.args.i [] = c.at.ensures ∙ ap (λ (m : Lists). get_or m.lists c.args.i []) c.self.view_is in
    rw is (kept.sets c.args.i [] c.requires)

pub returns-clause-below : goal.returns-clause-below
returns-clause-below c = is_below c.args.self.now.bound c.at.result.now (returns-clause-set c)
