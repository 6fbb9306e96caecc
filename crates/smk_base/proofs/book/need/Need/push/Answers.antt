use Rattle.std.proofs.Common.{◌<◌, List, All, sym, subst}
use Rattle.smk_base.specs.{Needs.IsNeed, declared.book.need.Needed.Needed}
use Rattle.smk_base.proofs.Ascents.{need_more}
use Rattle.smk_base.proofs.book.need.Need.push.Goals as goal

pub invariant_of-self-2 : goal.invariant_of-self-2
invariant_of-self-2 c =
    let before = c.self.inside.items.items in
    let above : All (λ (b : Needed). b.table < c.args.needed.table) before = subst (λ (l : List Needed). All (λ b. b.table < c.args.needed.table) l) (sym c.self.view_is) c.requires.above in
    subst IsNeed (sym c.in_ok-push.ensures.items) (need_more before c.args.needed c.self.invariant above c.requires.directed)
