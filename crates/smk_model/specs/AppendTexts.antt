-- The texts of answers to `append` lines.
use Rattle.std.specs.{Prelude.{◌<◌, ℕ, List, [], ◌∷◌, ◌++◌, length, All, codes, decimal}, List.flat_map}
use Rattle.smk_base.specs.{CatalogImage.CatalogImage, declared.reply.AppendReply.AppendReply, declared.reply.AppendReply.TheVariants.{Added, Refused}, declared.reply.AppendRefusal.AppendRefusal, declared.reply.AppendRefusal.TheVariants.{UnknownTable, TableRows, ViewRows, ViewPairs}}
use Rattle.smk_model.specs.{Session.{Workbook, view_at}, Texts.line, Typing.info_at, ViewTexts.text_of_view}

-- how many rows were appended, and the texts of these views over the longer table
abbrev pub added_text : Workbook → List ℕ → ℕ → List ℕ → List ℕ
added_text book table rows views =
    line (codes "append " ∷ table ∷ codes " " ∷ decimal rows ∷ []) ++ flat_map (λ v. text_of_view book (view_at book.catalog v)) views

-- why an `append` line is refused
abbrev pub append_refusal_text : CatalogImage → List ℕ → AppendRefusal → List ℕ
append_refusal_text catalog table UnknownTable = line (codes "refused unknown table " ∷ table ∷ [])
append_refusal_text catalog table TableRows = line (codes "refused too many rows in table " ∷ table ∷ [])
append_refusal_text catalog table (ViewRows view node) = line (codes "refused too many rows in " ∷ (view_at catalog view).name ∷ codes " at node " ∷ decimal node ∷ [])
append_refusal_text catalog table (ViewPairs view node to) =
    line (codes "refused too much lineage of " ∷ (view_at catalog view).name ∷ codes " at node " ∷ decimal node ∷ codes " to table " ∷ (info_at catalog.tables to).name ∷ [])

-- the text of an answer to an `append` line, over the tables as they are after it
abbrev pub append_text : Workbook → List ℕ → AppendReply → List ℕ
append_text book table (Added rows views) = added_text book table rows views
append_text book table (Refused refusal) = append_refusal_text book.catalog table refusal

-- the views and the table that an answer names by number are in the catalog
abbrev pub IsRefusalIn : CatalogImage → AppendRefusal → Type 0
IsRefusalIn catalog (ViewRows view node) = view < length catalog.views
IsRefusalIn catalog (ViewPairs view node to) = (view < length catalog.views) × (to < length catalog.tables)
IsRefusalIn catalog _ = Unit {0}

abbrev pub IsAppendReply : CatalogImage → AppendReply → Type 0
IsAppendReply catalog (Added rows views) = All (λ v. v < length catalog.views) views
IsAppendReply catalog (Refused refusal) = IsRefusalIn catalog refusal
