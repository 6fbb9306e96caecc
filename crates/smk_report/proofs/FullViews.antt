-- What a refusal that a line can have keeps.
use Rattle.std.proofs.Common.{◌<◌, ℕ, length}
use Rattle.smk_base.specs.{CatalogImage.CatalogImage, declared.book.tree.Line.Line, declared.reply.Refusal.TheVariants.RowsLimit}
use Rattle.smk_base.specs.declared.book.tree.Line.TheVariants as lines
use Rattle.smk_model.specs.ReplyTexts.{IsRefusalOf}

-- a view with too many rows is one of the catalog
pub full_view : (catalog : CatalogImage) (asked : Line) (view node : ℕ) → IsRefusalOf catalog asked (RowsLimit view node) → view < length catalog.views
full_view catalog (lines.Brush name marks table) view node h = h
full_view catalog (lines.ClearOne name table) view node h = h
full_view catalog _ view node h = absurd h
