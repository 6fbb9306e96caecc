use Rattle.std.proofs.Common.{◌≡◌, get_or, sym}
use Rattle.smk_compose.proofs.Wide.{leaf_width}
use Rattle.smk_compose.proofs.leaves.Leaves.width_at.Goals as goal

pub returns-clause-is : goal.returns-clause-is
returns-clause-is c = λ table.
    let at : get_or c.args.self.now c.args.k c.in-Some.leaf.now ≡ c.in-Some.leaf.now = rw (← c.self.view_is) (sym c.in-Some.ensures.lookup) in
    rw c.width.ensures.count (leaf_width table c.args.self.now c.args.k c.in-Some.leaf.now at c.requires c.width.ensures.keeps)
