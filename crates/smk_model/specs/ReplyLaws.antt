-- Laws of what a session answers.
use Rattle.std.specs.Prelude.{◌≡◌, ℕ, true, List}
use Rattle.smk_base.specs.{CatalogImage.CatalogImage, declared.brush.BrushOn.BrushOn, declared.book.tree.Line.Line, declared.book.tree.Marks.Marks, declared.book.tree.Then.Then}
use Rattle.smk_base.specs.declared.book.tree.Line.TheVariants as lines
use Rattle.smk_model.specs.{Catalogs.IsCatalog, ReplyTexts.IsReplyTo, Session.{State, Workbook, first_state, first_content, content, under}, Replies.{reply, is_refused}}

-- where no brush is in force, the content of a view is its first content
abbrev pub FirstContents : Type 0
FirstContents = (book : Workbook) (v : ℕ) → content book.catalog (first_state book) v ≡ first_content book.catalog (first_state book) v

-- a refused line changes nothing
abbrev pub RefusedStay : Type 0
RefusedStay = (catalog : CatalogImage) (state : State) (asked : Line) → is_refused (reply catalog state asked).0 ≡ true → (reply catalog state asked).1 ≡ state

-- a mark is a place in the first content: backward and forward answers are the same under all brushes
pub record MarksStay : Type 0 where
  pub back : (catalog : CatalogImage) (state : State) (brushes : List BrushOn) (view : List ℕ) (marks : Marks) (table : List ℕ) (then : Then)
      → (reply catalog (under state brushes) (lines.Back view marks table then)).0 ≡ (reply catalog state (lines.Back view marks table then)).0
  pub fwd : (catalog : CatalogImage) (state : State) (brushes : List BrushOn) (table : List ℕ) (rows : Marks) (view : List ℕ)
      → (reply catalog (under state brushes) (lines.Fwd table rows view)).0 ≡ (reply catalog state (lines.Fwd table rows view)).0

-- over a checked book every reply fits its line
abbrev pub RepliesFit : Type 0
RepliesFit = (catalog : CatalogImage) (state : State) (asked : Line) → IsCatalog catalog → IsReplyTo catalog asked (reply catalog state asked).0
