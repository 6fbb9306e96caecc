-- The `back` lines of the marks of the view of a dependency are answered by the rows of the violations.
use Rattle.std.specs.Prelude.{None, nat_le}
use Rattle.std.proofs.{Common.{◌≡◌, ℕ, ◌<◌, false, [], ◌∷◌, length, refl, ap, ◌∙◌, arith}, lemmas.List.length-map}
use Rattle.smk_base.specs.CatalogImage.{CatalogImage}
use Rattle.smk_model.specs.{Plain.{eval, whole}, Annotated.back, Dependencies.{violation_at, violation_row}, Profiles.{ShowsDependency, shown_by, violations_of}, ProfileLaws.DependenciesAnswered, Replies.{rids_back, first_outside}, Session.{State, rows_of_table, first_content}}
use Rattle.smk_model.proofs.Dependencies.{dependencies_shown}

-- the rows of the view, and where one of them comes from
number_is : (catalog : CatalogImage) (state : State) (v : ℕ) → ShowsDependency catalog v → length (first_content catalog state v) ≡ length (violations_of state (shown_by catalog v))
number_is catalog state v shows =
    let shown = shown_by catalog v in
    let rows = rows_of_table state shown.table in
    ap (λ plan. length (eval plan (whole plan state.tables))) shows.plan
    ∙ ap length (dependencies_shown shown.table rows shown.keys shown.col).one_each
    ∙ length-map (violations_of state shown) (violation_row rows shown.keys shown.col)

rids_are : (catalog : CatalogImage) (state : State) (v mark : ℕ) → ShowsDependency catalog v → mark < length (violations_of state (shown_by catalog v))
    → rids_back catalog state v (shown_by catalog v).table (mark ∷ []) ≡ (violation_at (violations_of state (shown_by catalog v)) mark).rids
rids_are catalog state v mark shows low =
    let shown = shown_by catalog v in
    let rows = rows_of_table state shown.table in
    ap (λ plan. back plan (whole plan state.tables) (mark ∷ []) shown.table (length rows)) shows.plan
    ∙ (dependencies_shown shown.table rows shown.keys shown.col).comes_from mark low

-- a mark that is below n is not outside
none_outside : (mark n : ℕ) → mark < n → first_outside (mark ∷ []) n ≡ None
none_outside mark n low = let below : nat_le n mark ≡ false = grind (arith) in rw below refl

pub dependencies_answered : DependenciesAnswered
dependencies_answered catalog state view v placed shows =
    let shown = shown_by catalog v in
    let number = number_is catalog state v shows in
    record {
      number = number;
      back = λ mark low.
          let inside = none_outside mark (length (first_content catalog state v)) (rw number low) in
          rw (placed, shows.named, shows.declared, inside, rids_are catalog state v mark shows low) refl;
    }
