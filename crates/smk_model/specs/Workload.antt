-- The declared workload: which lineage queries a book declares, and which lineage each view needs for them.
use Rattle.std.specs.{Prelude.{ℕ, Bool, ◌&&◌, ◌||◌, nat_eq, List, length, map}, List.{list_any, filter}}
use Rattle.smk_base.specs.{Places.{upto, has}, Needs.is_needed, CatalogImage.CatalogImage, declared.book.catalog.Back.Back, declared.book.catalog.Fwd.Fwd, declared.book.catalog.LinkInfo.LinkInfo, declared.book.need.Needed.Needed}

-- whether the backward query of a view to a table is declared, by a backward declaration in any form or by a link of the view on the table
abbrev pub is_back : ℕ → ℕ → Back → Bool
is_back v t declared = nat_eq declared.view v && nat_eq declared.table t

abbrev pub is_link : ℕ → ℕ → LinkInfo → Bool
is_link v t link = nat_eq link.view v && nat_eq link.table t

abbrev pub declares_back : CatalogImage → ℕ → ℕ → Bool
declares_back catalog v t = list_any (is_back v t) catalog.backs || list_any (is_link v t) catalog.links

-- whether the forward query of a table to a view is declared, by a forward declaration or by a link on the table to the view
abbrev pub is_fwd : ℕ → ℕ → Fwd → Bool
is_fwd v t declared = nat_eq declared.view v && nat_eq declared.table t

abbrev pub is_linked : ℕ → ℕ → LinkInfo → Bool
is_linked v t link = has link.to v && nat_eq link.table t

abbrev pub declares_fwd : CatalogImage → ℕ → ℕ → Bool
declares_fwd catalog v t = list_any (is_fwd v t) catalog.fwds || list_any (is_linked v t) catalog.links

-- a table, with the directions of the declared queries between it and a view
abbrev pub needed_at : CatalogImage → ℕ → ℕ → Needed
needed_at catalog v t = record { table = t; dir = record { back = declares_back catalog v t; fwd = declares_fwd catalog v t } }

-- the tables that declared queries of a view name, in order, with exactly their directions
abbrev pub needs : CatalogImage → ℕ → List Needed
needs catalog v = filter is_needed (map (needed_at catalog v) (upto (length catalog.tables)))
