-- Chains of selections and projections over a scan, row by row.
use Rattle.std.proofs.{Common.{◌≡◌, ℕ, suc, ◌<◌, true, List, [], ◌∷◌, length, map, refl, ap, sym, ◌∙◌, arith, get_or, nat_eq, inl, inr, Option}, lemmas.List.{get_or-map, length-map, map-id}, lemmas.List.Elements.{All-get_or, filter_passes}, lemmas.Bool.{or_cases, and_parts, eqb-true, eq-eqb, false≢true, and_from}}
use Rattle.std.specs.List.{filter}
use Rattle.smk_base.specs.Plans.{Selection, Projection, Expr, Leaf, Apply}
use Rattle.smk_model.specs.{Values.{Row, meets}, Plain.{image, eval, leaves}, Lineage.{places, has, row_at, sub}, Composed.table_at, LineageLaws.selected_table, Selection.{selected, kept_rows}, Growth.is_chain}
use Rattle.smk_base.proofs.Places.{filter_filter, filter_map, map_map, has_places}
use Rattle.smk_model.proofs.{Anys.or_false, CuiWidom.{length_selected, selected_below, selected_row}, Selections.filter-true, Comes.{rows_in, comes}}
use Rattle.smk_marks.specs.{Marks.{made, passes}, MarkLaws.ChainPicks}

-- the rows of a chain

scans : (plan : Expr) → is_chain plan ≡ true → leaves plan ≡ selected_table plan ∷ []
scans (Leaf table) h = refl
scans (Apply (Selection formula) input) h = scans input h
scans (Apply (Projection items) input) h = scans input h
scans _ h = absurd (false≢true h)

picks : (plan : Expr) (L : List Row) → is_chain plan ≡ true → eval plan (L ∷ []) ≡ map (made plan) (filter (passes plan) L)
picks (Leaf table) L h = sym (map-id (filter (λ row. true) L) ∙ filter-true L)
picks (Apply (Selection formula) input) L h =
    ap (filter (meets formula)) (picks input L h) ∙ filter_map (meets formula) (made input) (filter (passes input) L)
    ∙ ap (map (made input)) (filter_filter (λ row. meets formula (made input row)) (passes input) L)
picks (Apply (Projection items) input) L h = ap (map (image items)) (picks input L h) ∙ map_map (image items) (made input) (filter (passes input) L)
picks _ L h = absurd (false≢true h)

pub chain_picks : ChainPicks
chain_picks = record {
  scans = scans;
  over_picked = λ plan tables chosen S h e. ap (map (selected tables chosen)) (scans plan h) ∙ ap (λ (o : Option (List ℕ)). kept_rows o (table_at tables (selected_table plan)) ∷ []) e;
  rows = picks;
  sub_rows = λ plan L S h. picks plan (sub L S) h ∙ ap (map (made plan)) (filter_map (passes plan) (row_at L) S);
}

-- each row of a chain comes from one row of its table, which passes, and is what the chain makes of it

pub record IsMade (plan : Expr) (tables : List (List Row)) (o r : ℕ) : Type 0 where
  pub pass : passes plan (row_at (table_at tables (selected_table plan)) r) ≡ true
  pub is : row_at (rows_in plan tables) o ≡ made plan (row_at (table_at tables (selected_table plan)) r)

pub made_from : (plan : Expr) (tables : List (List Row)) (o r : ℕ) → is_chain plan ≡ true → o < length (rows_in plan tables) → comes plan tables (selected_table plan) o r ≡ true → IsMade plan tables o r
made_from (Leaf table) tables o r h low c = record { pass = refl; is = ap (row_at (table_at tables table)) (eqb-true o r (and_parts (nat_eq table table) (nat_eq o r) c).1) }
made_from (Apply (Selection formula) input) tables o r h low c =
    let X = rows_in input tables in
    let i = get_or (places (λ i. meets formula (row_at X i)) (length X)) o 0 in
    let below = made_from input tables i r h (selected_below (meets formula) X o low) (sym (or_false (comes input tables (selected_table input) i r)) ∙ c) in
    let same : row_at (filter (meets formula) X) o ≡ made input (row_at (table_at tables (selected_table input)) r) = sym (selected_row (meets formula) X o low) ∙ below.is in
    record {
      pass = and_from _ _ below.pass (ap (meets formula) (sym same) ∙ All-get_or (λ x. meets formula x ≡ true) (filter (meets formula) X) o [] low (filter_passes (meets formula) X));
      is = same;
    }
made_from (Apply (Projection items) input) tables o r h low c =
    let X = rows_in input tables in
    let small : o < length X = omega (arith, low, length-map X (image items)) in
    let below = made_from input tables o r h small (sym (or_false (comes input tables (selected_table input) o r)) ∙ c) in
    record { pass = below.pass; is = get_or-map (image items) X o [] [] small ∙ ap (image items) below.is }
made_from _ tables o r h low c = absurd (false≢true h)

-- and each row that passes reaches a row of the chain

pub record Reaches (plan : Expr) (tables : List (List Row)) (r : ℕ) : Type 0 where
  pub place : ℕ
  pub low : place < length (rows_in plan tables)
  pub there : comes plan tables (selected_table plan) place r ≡ true

pub record Stands (A : List ℕ) (i : ℕ) : Type 0 where
  pub place : ℕ
  pub low : place < length A
  pub at : get_or A place 0 ≡ i

stands : (A : List ℕ) (i : ℕ) → has A i ≡ true → Stands A i
stands [] i h = absurd (false≢true h)
stands (x ∷ xs) i h = elim (or_cases (nat_eq i x) _ h) [
  | inl e ↦ record { place = 0; low = omega arith; at = sym (eqb-true i x e) }
  | inr r ↦ (let s = stands xs i r in record { place = suc s.place; low = omega (arith, s.low); at = s.at })
]

pub reaches : (plan : Expr) (tables : List (List Row)) (r : ℕ) → is_chain plan ≡ true → r < length (table_at tables (selected_table plan)) → passes plan (row_at (table_at tables (selected_table plan)) r) ≡ true → Reaches plan tables r
reaches (Leaf table) tables r h low p = record { place = r; low = low; there = and_from _ _ (eq-eqb table table refl) (eq-eqb r r refl) }
reaches (Apply (Selection formula) input) tables r h low p =
    let X = rows_in input tables in
    let t = λ (i : ℕ). meets formula (row_at X i) in
    let both = and_parts (passes input (row_at (table_at tables (selected_table input)) r)) (meets formula (made input (row_at (table_at tables (selected_table input)) r))) p in
    let below = reaches input tables r h low both.0 in
    let from = made_from input tables below.place r h below.low below.there in
    let here = stands (places t (length X)) below.place (has_places t (length X) below.place below.low ∙ ap (meets formula) from.is ∙ both.1) in
    record {
      place = here.place;
      low = omega (arith, here.low, length_selected (meets formula) X);
      there = or_false (comes input tables (selected_table input) (get_or (places t (length X)) here.place 0) r) ∙ ap (λ i. comes input tables (selected_table input) i r) here.at ∙ below.there;
    }
reaches (Apply (Projection items) input) tables r h low p =
    let X = rows_in input tables in
    let below = reaches input tables r h low p in
    record { place = below.place; low = omega (arith, below.low, length-map X (image items)); there = or_false (comes input tables (selected_table input) below.place r) ∙ below.there }
reaches _ tables r h low p = absurd (false≢true h)
