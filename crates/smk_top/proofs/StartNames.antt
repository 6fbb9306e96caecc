-- The names that a fault of a start says.
use Rattle.std.proofs.Common.{◌≡◌, ◌∙◌, ℕ, suc, List, [], ◌∷◌, map, get_or, Option, Some, option_map, refl, ap, sym}
use Rattle.smk_base.specs.{CatalogImage.{catalog_image, view_image}, declared.book.catalog.Catalog.Catalog, declared.fault.Fault.TheVariants.{ViewRows, ViewPairs}}
use Rattle.smk_model.specs.{NodeFaults.{FullRows, FullPairs}, Opening.{ViewFault, fault_named}, Session.{view_at, no_view}, Typing.{info_at, no_table}}
use Rattle.smk_base.proofs.Places.{map_map}

-- what is made of the member at a place, or of the one that stands for none
mapped_at : {A B : Type 0} (f : A → B) (xs : List A) (i : ℕ) (d : A) → get_or (map f xs) i (f d) ≡ f (get_or xs i d)
mapped_at f (x ∷ xs) (suc i) d = mapped_at f xs i d
mapped_at f _ _ d = refl

view_name : (catalog : Catalog) (v : ℕ) → get_or (map (λ view. view.name) catalog.views) v [] ≡ (view_at (catalog_image catalog) v).name
view_name catalog v = ap (λ names. get_or names v []) (sym (map_map (λ view. view.name) view_image catalog.views)) ∙ mapped_at (λ view. view.name) (map view_image catalog.views) v no_view

table_name : (catalog : Catalog) (t : ℕ) → get_or (map (λ table. table.name) catalog.tables) t [] ≡ (info_at catalog.tables t).name
table_name catalog t = mapped_at (λ table. table.name) catalog.tables t no_table

pub rows_named : (catalog : Catalog) (found : Option ViewFault) (names : List (List ℕ)) (view : List ℕ) (v node : ℕ) → found ≡ Some (record { view = v; fault = FullRows node })
    → names ≡ map (λ view. view.name) catalog.views → view ≡ get_or names v []
    → option_map (fault_named (catalog_image catalog)) found ≡ Some (ViewRows view node)
rows_named catalog found names view v node is are e =
    ap (option_map (fault_named (catalog_image catalog))) is
    ∙ ap (λ n. Some (ViewRows n node)) (sym (e ∙ ap (λ l. get_or l v []) are ∙ view_name catalog v))

pub pairs_named : (catalog : Catalog) (found : Option ViewFault) (names tables : List (List ℕ)) (view table : List ℕ) (v node t : ℕ) → found ≡ Some (record { view = v; fault = FullPairs node t })
    → names ≡ map (λ view. view.name) catalog.views → tables ≡ map (λ table. table.name) catalog.tables → view ≡ get_or names v [] → table ≡ get_or tables t []
    → option_map (fault_named (catalog_image catalog)) found ≡ Some (ViewPairs view node table)
pairs_named catalog found names tables view table v node t is are these e f =
    ap (option_map (fault_named (catalog_image catalog))) is
    ∙ ap (λ n. Some (ViewPairs n node (info_at catalog.tables t).name)) (sym (e ∙ ap (λ l. get_or l v []) are ∙ view_name catalog v))
    ∙ ap (λ n. Some (ViewPairs view node n)) (sym (f ∙ ap (λ l. get_or l t []) these ∙ table_name catalog t))
