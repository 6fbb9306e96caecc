-- The answers to the lines for the marks of a view.
use Rattle.std.specs.Prelude.{◌≡◌, ℕ, List, [], ◌∷◌}
use Rattle.smk_base.specs.{CatalogImage.CatalogImage, declared.reply.Reply.Reply, declared.reply.Reply.TheVariants.Back, declared.book.tree.Line.Line}
use Rattle.smk_base.specs.declared.book.tree.Line.TheVariants as lines
use Rattle.smk_base.specs.declared.book.tree.Marks.TheVariants as markings
use Rattle.smk_model.specs.{Profiles.mark_line, Replies.reply, Session.State}

-- whether a reply is rows with their rids
abbrev pub AreRows : Reply → Type 0
AreRows (Back rids rows) = Unit {0}
AreRows _ = ⊥

-- whether a line is answered by rows, and leaves the state as it is
pub record IsAnsweredByRows (catalog : CatalogImage) (state : State) (asked : Line) : Type 0 where
  pub rows : AreRows (reply catalog state asked).0
  pub stays : (reply catalog state asked).1 ≡ state

-- whether a line is a `back` line that lists its marks
abbrev pub HasMarks : Line → Type 0
HasMarks (lines.Back view (markings.Listed marks) table then) = Unit {0}
HasMarks _ = ⊥

-- such a line, with one mark in place of its marks
abbrev pub with_mark : Line → ℕ → Line
with_mark (lines.Back view (markings.Listed marks) table then) mark = lines.Back view (markings.Listed (mark ∷ [])) table then
with_mark line mark = line

-- whether a line is the `back` line for some mark of a view
abbrev pub IsMarkLine : List ℕ → List ℕ → Line → Type 0
IsMarkLine view table line = (mark : ℕ) × (line ≡ mark_line view table mark)
