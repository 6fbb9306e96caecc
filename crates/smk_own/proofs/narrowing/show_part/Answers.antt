use Rattle.std.specs.Prelude.{IsSome, length}
use Rattle.std.proofs.{Common.{sym, ◌∙◌, ap, subst}, lemmas.Bool.false≢true}
use Rattle.smk_base.specs.{CatalogImage.catalog_image, declared.book.catalog.Catalog.Catalog, declared.reply.Reply.Reply}
use Rattle.smk_model.specs.{Replies.reply, Session.State, ReplyTexts.{names_of_view, view_named}}
use Rattle.smk_session.specs.Sessions.{state_of}
use Rattle.smk_own.proofs.Parts.{shown_fits}
use Rattle.smk_own.proofs.narrowing.show_part.Goals as goal

pub numbered_text-requires : goal.numbered_text-requires
numbered_text-requires g c =
    let catalog = catalog_image c.args.session.now.catalog in
    let state = state_of c.args.session.now in
    let shown = ap (λ line. (reply catalog state line).0) (sym c.requires) ∙ ap (λ (turn : Reply × State). turn.0) (sym c.in_ok-turn.ensures.reply) ∙ c.in-View.is in
    let found = c.in-Some.ensures ∙ ap (λ (book : Catalog). view_named (catalog_image book) c.args.view.now) c.catalog.ensures.book in
    ap (λ view. length (names_of_view view)) found ∙ (shown_fits catalog state c.args.view.now c.in-View.rel c.catalog.ensures.checked shown).named

pub unreachable-requires : goal.unreachable-requires
unreachable-requires g c =
    let catalog = catalog_image c.args.session.now.catalog in
    let state = state_of c.args.session.now in
    let shown = ap (λ line. (reply catalog state line).0) (sym c.requires) ∙ ap (λ (turn : Reply × State). turn.0) (sym c.in_ok-turn.ensures.reply) ∙ c.in-View.is in
    let found = c.in-None.ensures ∙ ap (λ (book : Catalog). view_named (catalog_image book) c.args.view.now) c.catalog.ensures.book in
    false≢true (subst (λ view. IsSome view) (sym found) (shown_fits catalog state c.args.view.now c.in-View.rel c.catalog.ensures.checked shown).known)
