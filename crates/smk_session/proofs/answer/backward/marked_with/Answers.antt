use Rattle.std.proofs.Common.{◌≡◌, ◌∙◌, ◌<◌, ℕ, List, All, length, ap, sym, subst}
use Rattle.smk_base.specs.{Places.upto, declared.book.tree.Marks.Marks}
use Rattle.smk_base.specs.declared.book.tree.Marks.TheVariants as markings
use Rattle.smk_base.proofs.Places.{upto_below}
use Rattle.smk_session.specs.Answers.{within_asked}
use Rattle.smk_session.proofs.Marked.{passed, listed_low}
use Rattle.smk_session.proofs.answer.backward.marked_with.Goals as goal

pub rows-requires : goal.rows-requires
rows-requires c =
    let n = length c.args.split.now.map.lists in
    let are : c.as_slice.result.now ≡ upto n = c.as_slice.ensures.value ∙ c.in_ok-places-in-All.ensures ∙ ap upto c.requires in
    subst (λ (l : List ℕ). All (λ p. p < n) l) (sym are) (upto_below n)

pub rows-requires-in-Listed : goal.rows-requires-in-Listed
rows-requires-in-Listed c =
    let n = length c.args.split.now.map.lists in
    let checked : within_asked c.args.marks.now n ≡ passed = subst (λ (k : ℕ). within_asked c.args.marks.now k ≡ passed) c.requires c.in_ok-check_marks.ensures in
    let listed : within_asked (markings.Listed c.in-Listed.listed) n ≡ passed = subst (λ (m : Marks). within_asked m n ≡ passed) c.in-Listed.is checked in
    subst (λ (l : List ℕ). All (λ p. p < n) l) (sym c.as_slice-in-Listed.ensures) (listed_low c.in-Listed.listed n listed)
