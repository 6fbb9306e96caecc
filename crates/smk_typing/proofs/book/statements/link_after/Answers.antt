use Rattle.std.proofs.Common.{◌∙◌, [], List, Ok, ap, sym}
use Rattle.smk_base.specs.declared.book.catalog.LinkInfo.{LinkInfo}
use Rattle.smk_model.specs.{Names.in_turn, Typing.to_after}
use Rattle.smk_typing.specs.Drafts.{draft_image}
use Rattle.smk_typing.proofs.Results.{made_of, ok_same}
use Rattle.smk_typing.proofs.book.statements.link_after.Goals as goal

pub returns-in-Ok : goal.returns-in-Ok
returns-in-Ok c =
    let after = rw c.replace-links.ensures.value at c.in-Ok.ensures in
    let first = made_of (in_turn (to_after (draft_image c.args.draft.now) c.in_ok-view.view c.in_ok-table.table) [] c.args.words.now) _ _ after in
    rw (c.in_ok-view.ensures, c.in_ok-table.ensures.table, first.1) (ap (λ (links : List LinkInfo). Ok (record (draft_image c.args.draft.now) { links = links })) (ok_same _ _ first.2 ∙ sym c.put.ensures))
