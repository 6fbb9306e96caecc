use Rattle.std.proofs.Common.{◌∙◌, ap, sym, refl, Ok, List}
use Rattle.smk_base.specs.declared.book.catalog.Back.{Back}
use Rattle.smk_typing.specs.Drafts.{draft_image}
use Rattle.smk_typing.proofs.Keys.{any_back}
use Rattle.smk_typing.proofs.book.statements.new_back.Goals as goal

pub returns-then-has : goal.returns-then-has
returns-then-has c _ = rw (sym (any_back c.args.back c.of-form.result c.args.draft.now.backs c.of-form.ensures) ∙ sym c.has.ensures.has ∙ c.if-has.true) refl

pub returns : goal.returns
returns c =
    rw (sym (any_back c.args.back c.of-form.result c.args.draft.now.backs c.of-form.ensures) ∙ sym c.has.ensures.has ∙ c.if-has.false)
    (ap (λ (backs : List Back). Ok (record (draft_image c.args.draft.now) { backs = backs })) (sym c.in_ok-push.ensures.put))
