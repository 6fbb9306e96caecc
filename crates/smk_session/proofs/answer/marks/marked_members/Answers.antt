use Rattle.std.proofs.Common.{◌≡◌, ◌<◌, ℕ, List, All, length, sym, subst}
use Rattle.smk_base.specs.declared.book.tree.Marks.{Marks}
use Rattle.smk_base.specs.declared.book.tree.Marks.TheVariants as markings
use Rattle.smk_session.specs.Answers.{within_asked}
use Rattle.smk_session.proofs.Marked.{passed, listed_low}
use Rattle.smk_session.proofs.answer.marks.marked_members.Goals as goal

pub join_up-requires : goal.join_up-requires
join_up-requires c =
    let n = length c.args.map.now.lists in
    let checked : within_asked c.args.marks.now n ≡ passed = subst (λ (k : ℕ). within_asked c.args.marks.now k ≡ passed) c.len.ensures c.in_ok-check_marks.ensures in
    let listed : within_asked (markings.Listed c.in-Listed.listed) n ≡ passed = subst (λ (m : Marks). within_asked m n ≡ passed) c.in-Listed.is checked in
    subst (λ (l : List ℕ). All (λ p. p < n) l) (sym c.as_slice.ensures) (listed_low c.in-Listed.listed n listed)
