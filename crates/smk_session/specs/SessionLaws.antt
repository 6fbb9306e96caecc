-- Laws of what a session keeps.
use Rattle.std.specs.Prelude.{◌≡◌, List, [], length, map, None}
use Rattle.smk_base.specs.{CatalogImage.CatalogImage, Places.upto, Rels.Relation}
use Rattle.smk_session.specs.{Opened.state_over, Sessions.contents_kept}

-- with no brush in force, no view has a content besides its first one
abbrev pub NothingKept : Type 0
NothingKept = (catalog : CatalogImage) (tables : List Relation) → contents_kept catalog (state_over tables []) ≡ map (λ w. None) (upto (length catalog.views))
