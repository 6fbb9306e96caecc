use Rattle.std.proofs.Common.{arith, length, ap, subst}
use Rattle.smk_rid.specs.Packing.{IsPacking}
use Rattle.smk_rid.proofs.Packs.{length-concat}
use Rattle.smk_rid.proofs.hold.packed.Packed.pairs.Goals as goal

pub returns-clause-counted : goal.returns-clause-counted
returns-clause-counted c =
    let s = c.self.inside.starts.items in
    let r = c.self.inside.rids.items in
    let kept : IsPacking s r c.args.self.now = subst (IsPacking s r) c.self.view_is c.self.invariant in
    omega (arith, c.len.ensures, c.self.inside.rids.ok.0, ap length kept.all, length-concat c.args.self.now)
