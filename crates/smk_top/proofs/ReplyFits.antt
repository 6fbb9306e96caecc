-- A reply that is told with the next state is one to its line, and its text is that of the line.
use Rattle.std.proofs.Common.{◌≡◌, ◌∙◌, ap, sym, subst}
use Rattle.smk_base.specs.{CatalogImage.{CatalogImage, catalog_image}, declared.book.catalog.Catalog.Catalog, declared.book.tree.Line.Line, declared.reply.Reply.Reply}
use Rattle.smk_model.specs.{Catalogs.IsCatalog, ReplyTexts.{IsReplyTo, reply_text}, Reports.plain_answered, Session.State, Replies.reply}
use Rattle.smk_model.proofs.RepliesFit.{replies_fit}

pub told_fits : (catalog : CatalogImage) (state after : State) (asked : Line) (told : Reply) → IsCatalog catalog → ◌≡◌ {A = Reply × State} (told, after) (reply catalog state asked) → IsReplyTo catalog asked told
told_fits catalog state after asked told checked is = subst (λ (r : Reply × State). IsReplyTo catalog asked r.0) (sym is) (replies_fit catalog state asked checked)

pub told_text : (held catalog : Catalog) (state after : State) (asked : Line) (told : Reply) → held ≡ catalog → ◌≡◌ {A = Reply × State} (told, after) (reply (catalog_image catalog) state asked)
    → reply_text (catalog_image held) asked told ≡ (plain_answered (catalog_image catalog) state asked).text
told_text held catalog state after asked told same is =
    ap (λ (k : Catalog). reply_text (catalog_image k) asked told) same ∙ ap (λ (r : Reply × State). reply_text (catalog_image catalog) asked r.0) is
