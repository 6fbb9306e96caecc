-- Every answer to an `fd` line is one over the catalog.
use Rattle.std.specs.{Prelude.{nat_eq, Option, Some, None, IfSome, All}, Cmp.unsigned_Decides, Cmp.Lexicographic.pointwise}
use Rattle.std.proofs.{Common.{◌≡◌, ℕ, suc, true, List, [], ◌∷◌, map, refl, sym, subst, arith, inl, inr}, lemmas.Bool.{cases_Bool, or_cases, false≢true}, lemmas.List.length-map, lemmas.List.Elements.{All-nil, All-cons}, lemmas.List.Quantifiers.position-Some, lemmas.Slice.Eq.slice_eq-Decides}
use Rattle.smk_base.specs.{CatalogImage.{CatalogImage, view_place}, declared.book.catalog.TableInfo.TableInfo, Dicts.text_eq}
use Rattle.smk_model.specs.{Dependencies.Violation, Names.is_taken, Profiles.{AreDependencies, ShowsDependency, shown_by, group_of, groups_of, profile_at, violations_of}, ProfileLaws.ProfilesFit, ProfileTexts.{AreFound, IsPlaced, IsProfileReply}, Lineage.row_at, Session.{State, rows_of_table}, Typing.{info_at, no_table}}

same_is : (a b : List ℕ) → pointwise nat_eq a b ≡ true → a ≡ b
same_is a b h = (slice_eq-Decides unsigned_Decides a b (pointwise nat_eq a b) refl).0 h

-- what holds of each of some names holds of one that is among them
pub taken_holds : (P : List ℕ → Type 0) (name : List ℕ) (names : List (List ℕ)) → All P names → is_taken name names ≡ true → P name
taken_holds P name [] all h = absurd (false≢true h)
taken_holds P name (other ∷ more) all h = elim (or_cases (pointwise nat_eq name other) _ h) [
  | inl e ↦ subst P (sym (same_is name other e)) (all 0 [] (omega arith))
  | inr r ↦ taken_holds P name more (λ k d l. all (suc k) d (omega (arith, l))) r
]

pub shown : (catalog : CatalogImage) (names : List (List ℕ)) (view : List ℕ) (v : ℕ) → AreDependencies catalog names → is_taken view names ≡ true → view_place catalog view ≡ Some v → ShowsDependency catalog v
shown catalog names view v all among placed = let here = taken_holds (λ name. IfSome (view_place catalog name) (ShowsDependency catalog)) view names all among in rw placed at here

groups_placed : (catalog : CatalogImage) (state : State) (t : ℕ) (found : List Violation) → All IsPlaced (map (group_of catalog state t) found)
groups_placed catalog state t [] = All-nil IsPlaced
groups_placed catalog state t (violation ∷ more) = All-cons IsPlaced (group_of catalog state t violation) (map (group_of catalog state t) more) (sym (length-map violation.rids (row_at (rows_of_table state t)))) (groups_placed catalog state t more)

found_fits : (catalog : CatalogImage) (state : State) (v : ℕ) → ShowsDependency catalog v → AreFound catalog (shown_by catalog v).table (groups_of catalog state (shown_by catalog v))
found_fits catalog state v shows =
    let t = (shown_by catalog v).table in
    let name = (info_at catalog.tables t).name in
    record {
      known = (position-Some (λ (table : TableInfo). text_eq table.name name) catalog.tables t no_table shows.named).0;
      placed = groups_placed catalog state t (violations_of state (shown_by catalog v));
    }

at_fits : (catalog : CatalogImage) (state : State) (names : List (List ℕ)) (view : List ℕ) (place : Option ℕ) → AreDependencies catalog names → view_place catalog view ≡ place → IsProfileReply catalog (profile_at catalog state names view place)
at_fits catalog state names view None all h = tt
at_fits catalog state names view (Some v) all h = elim (cases_Bool (is_taken view names)) [
  | inl among ↦ rw among (found_fits catalog state v (shown catalog names view v all among h))
  | inr other ↦ rw other tt
]

pub profiles_fit : ProfilesFit
profiles_fit catalog state names view all = at_fits catalog state names view (view_place catalog view) all refl
