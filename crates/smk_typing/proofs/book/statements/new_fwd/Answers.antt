use Rattle.std.proofs.Common.{◌∙◌, ap, sym, refl, Ok, List}
use Rattle.smk_base.specs.declared.book.catalog.Fwd.{Fwd}
use Rattle.smk_typing.specs.Drafts.{draft_image}
use Rattle.smk_typing.proofs.Keys.{any_fwd}
use Rattle.smk_typing.proofs.book.statements.new_fwd.Goals as goal

pub returns-then-has : goal.returns-then-has
returns-then-has c _ = rw (sym (any_fwd c.args.fwd c.args.draft.now.fwds) ∙ sym c.has.ensures.has ∙ c.if-has.true) refl

pub returns : goal.returns
returns c =
    rw (sym (any_fwd c.args.fwd c.args.draft.now.fwds) ∙ sym c.has.ensures.has ∙ c.if-has.false)
    (ap (λ (fwds : List Fwd). Ok (record (draft_image c.args.draft.now) { fwds = fwds })) (sym c.in_ok-push.ensures.put))
