-- How often a run looks at base rows: at most once at each row of each leaf of each view, once at each row of the table of each declared split or grouping, and for each line at the rows that it prints or its steps and views read.
use Rattle.std.specs.{Prelude.{ℕ, ◌+◌, length, Ok, Err}, List.sum_by}
use Rattle.smk_base.specs.{CatalogImage.{CatalogImage, ViewImage}, declared.brush.BrushOn.BrushOn, declared.book.catalog.Back.Back, declared.book.catalog.BackExtra.BackExtra, declared.reply.Reply.Reply, declared.book.tree.Line.Line}
use Rattle.smk_base.specs.declared.book.catalog.BackExtra.TheVariants as extras
use Rattle.smk_base.specs.declared.reply.Reply.TheVariants as replies
use Rattle.smk_base.specs.declared.book.tree.Line.TheVariants as lines
use Rattle.smk_model.specs.{Plain.{whole, table_at}, Selection.rows_in, Session.{Workbook, State, linked, leaves_now}, Replies.{Asked, reply, linked_pair, brush_of, brushed, cleared}}

-- the looks for the first content of a view, and for a split or a grouping that is declared
abbrev pub looks_of_view : Workbook → ViewImage → ℕ
looks_of_view book view = rows_in (whole view.plan book.tables)

abbrev pub looks_of_extra : BackExtra → ℕ → ℕ
looks_of_extra extras.Plain rows = 0
looks_of_extra _ rows = rows

abbrev pub looks_of_back : Workbook → Back → ℕ
looks_of_back book declared = looks_of_extra declared.extra (length (table_at book.tables declared.table))

-- the looks before the first line
abbrev pub start_looks : Workbook → ℕ
start_looks book = sum_by (looks_of_view book) book.catalog.views + sum_by (looks_of_back book) book.catalog.backs

-- one look for each row that is printed with its rid
abbrev pub looks_of_rows : Reply → ℕ
looks_of_rows (replies.Back rids rows) = length rids
looks_of_rows _ = 0

-- the looks to evaluate each linked view again, over the rows selected for it in the state that the line would leave
abbrev pub looks_of_linked : CatalogImage → State → ℕ → ℕ → ℕ
looks_of_linked catalog state v t = sum_by (λ w. rows_in (leaves_now catalog state w)) (linked catalog v t)

abbrev pub looks_of_brush : CatalogImage → State → Asked BrushOn → ℕ
looks_of_brush catalog state (Ok brush) = looks_of_linked catalog (brushed state brush) brush.view brush.table
looks_of_brush catalog state (Err refusal) = 0

abbrev pub looks_of_clear : CatalogImage → State → Asked (ℕ × ℕ) → ℕ
looks_of_clear catalog state (Ok p) = looks_of_linked catalog (cleared state p.0 p.1) p.0 p.1
looks_of_clear catalog state (Err refusal) = 0

-- the looks for a line
abbrev pub line_looks : CatalogImage → State → Line → ℕ
line_looks catalog state (lines.Back view marks table then) = looks_of_rows (reply catalog state (lines.Back view marks table then)).0
line_looks catalog state (lines.Brush view marks table) = looks_of_brush catalog state (brush_of catalog state view marks table)
line_looks catalog state (lines.ClearOne view table) = looks_of_clear catalog state (linked_pair catalog view table)
line_looks catalog state _ = 0
