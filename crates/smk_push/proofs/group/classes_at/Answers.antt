use Rattle.std.proofs.Common.{◌≡◌, ◌∙◌, ℕ, List, map, ap, subst, nat_eq, get_or, IfOk}
use Rattle.smk_keys.specs.Classes.{ClassesImage, classing_of}
use Rattle.smk_push.proofs.Rows.{classes_there, numbers_are}
use Rattle.smk_push.proofs.group.classes_at.Goals as goal

pub number_classes-requires-clause-below : goal.number_classes-requires-clause-below
number_classes-requires-clause-below c =
    let input = c.args.input.now in
    let rids = c.args.rids.now in
    let numbers : c.as_slice.result.now ≡ map (λ r. get_or input.classes.of r 0) rids = c.as_slice.ensures.value ∙ c.in_ok-numbers.ensures ∙ ap (λ (of : List ℕ). map (λ r. get_or of r 0) rids) c.of.ensures in
    rw (numbers, c.requires.wide) (numbers_are input.keys.rows input.classes rids c.requires.is.classed c.requires.within).below

pub returns-clause-classes : goal.returns-clause-classes
returns-clause-classes c =
    let input = c.args.input.now in
    let rids = c.args.rids.now in
    let numbers : c.as_slice.result.now ≡ map (λ r. get_or input.classes.of r 0) rids = c.as_slice.ensures.value ∙ c.in_ok-numbers.ensures ∙ ap (λ (of : List ℕ). map (λ r. get_or of r 0) rids) c.of.ensures in
    subst (λ (z : ClassesImage). IfOk c.number_classes.result (λ made. made ≡ z)) (ap (classing_of nat_eq) numbers ∙ classes_there input.keys.rows input.classes rids c.requires.is.classed c.requires.within) c.number_classes.ensures.classes
