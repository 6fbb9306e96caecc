-- A draft as the definitions see it.
use Rattle.std.specs.Prelude.{ℕ, List, [], ◌∷◌, ◌++◌, map, Ok}
use Rattle.smk_base.specs.{declared.book.catalog.TableInfo.TableInfo, declared.book.catalog.ViewInfo.ViewInfo, declared.book.catalog.LinkInfo.LinkInfo, declared.book.tree.Word.Word, CatalogImage.{CatalogImage, ViewImage, view_image}, Trees.TreeImage}
use Rattle.smk_model.specs.{Names.{Typed, ◌>>=◌, in_turn}, Typing.{typed_plan, view_of, to_after}}
use Rattle.smk_typing.specs.declared.draft.Draft.{Draft}

-- the catalog of a draft
abbrev pub draft_image : Draft → CatalogImage
draft_image draft = record { tables = draft.tables; views = map view_image draft.views; backs = draft.backs; fwds = draft.fwds; links = draft.links }

-- a view of a plan over tables, under a name
abbrev pub typed_view : List TableInfo → Word → TreeImage → Typed ViewImage
typed_view tables name tree = do
  typed ← typed_plan tables tree
  Ok (view_of name typed)

-- a catalog of only these views and links, which is all that one more link needs
abbrev pub over : List ViewInfo → List LinkInfo → CatalogImage
over views links = record { tables = []; views = map view_image views; backs = []; fwds = []; links = links }

-- the links after one more of a view on a table to other views
abbrev pub links_after : List ViewInfo → List LinkInfo → ℕ → ℕ → List Word → Typed (List LinkInfo)
links_after views links view table words = do
  to ← in_turn (to_after (over views links) view table) [] words
  Ok (links ++ record { view = view; table = table; to = to } ∷ [])
