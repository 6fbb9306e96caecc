-- What makes two declarations the same, and the limits of a book's tables.
use Rattle.std.specs.Prelude.{◌≤◌, ℕ, List, length, All}
use Rattle.smk_base.specs.{declared.book.catalog.TableInfo.TableInfo, declared.book.catalog.Back.Back, declared.book.catalog.Fwd.Fwd, declared.book.catalog.BackExtra.BackExtra, declared.book.limits.TheConstants.TABLE_LIMIT, declared.rel.TheConstants.COLUMN_LIMIT}
use Rattle.smk_base.specs.declared.book.catalog.BackExtra.TheVariants as extras
use Rattle.smk_model.specs.Typing.{Link}
use Rattle.smk_typing.specs.{declared.draft.form.Form.Form, declared.draft.form.Form.TheVariants.{Plain, By, Grouped}}

-- at most 16 tables, of at most 16 columns each
abbrev pub AreTables : List TableInfo → Type 0
AreTables tables = (length tables ≤ TABLE_LIMIT) × All (λ table. length table.cols ≤ COLUMN_LIMIT) tables

-- the form of a backward declaration
abbrev pub form_of : BackExtra → Form
form_of extras.Plain = Plain
form_of (extras.By column) = By column
form_of (extras.Grouped keys aggs names kinds) = Grouped

-- what makes two declarations the same
abbrev pub back_key : Back → ℕ × ℕ × Form
back_key back = (back.view, back.table, form_of back.extra)

abbrev pub fwd_key : Fwd → ℕ × ℕ
fwd_key fwd = (fwd.table, fwd.view)

abbrev pub link_key : Link → ℕ × ℕ × ℕ
link_key linked = (linked.view, linked.table, linked.to)
