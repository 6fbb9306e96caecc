use Rattle.std.proofs.Common.{◌∙◌, ◌≤◌, ◌+◌, ap, subst, ℕ}
use Rattle.std.specs.List.{filter_map, sum_by}
use Rattle.smk_base.specs.declared.book.catalog.Back.{Back}
use Rattle.smk_session.specs.Making.{book_in}
use Rattle.smk_session.proofs.Declared.{cubes_whole, looks_whole, splits_whole}
use Rattle.smk_session.proofs.start.keep_beside.Goals as goal

pub returns-in_err-extras-clause-looks : goal.returns-in_err-extras-clause-looks
returns-in_err-extras-clause-looks g c =
    let opened = c.args.opened.now in
    subst (λ (f : Back → ℕ). c.make_extras.new.steps ≤ c.args.steps.now + sum_by f opened.book.now.backs) (looks_whole (book_in opened) opened.grown c.requires.whole) c.make_extras.ensures.looks

pub returns-clause-looks : goal.returns-clause-looks
returns-clause-looks g c =
    let opened = c.args.opened.now in
    subst (λ (f : Back → ℕ). c.make_extras.new.steps ≤ c.args.steps.now + sum_by f opened.book.now.backs) (looks_whole (book_in opened) opened.grown c.requires.whole) c.make_extras.ensures.looks

pub returns-clause-extras : goal.returns-clause-extras
returns-clause-extras g c =
    let opened = c.args.opened.now in
    record {
      splits_are = c.in_ok-extras.ensures.splits ∙ ap (λ f. filter_map f opened.book.now.backs) (splits_whole (book_in opened) opened.grown c.requires.whole);
      cubes_are = c.in_ok-extras.ensures.cubes ∙ ap (λ f. filter_map f opened.book.now.backs) (cubes_whole (book_in opened) opened.grown c.requires.whole);
    }
