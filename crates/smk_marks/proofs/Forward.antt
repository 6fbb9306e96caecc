-- The forward list of a row of the table.
use Rattle.std.proofs.{Common.{◌≡◌, ℕ, ◌<◌, Bool, true, false, cond, List, [], ◌∷◌, length, map, ap, sym, ◌∙◌, subst, arith, nat_eq, inl, inr}, lemmas.List.{get_or-map, length-map}, lemmas.Bool.{cases_Bool, or_cases, or_left, or_right, eqb-true, false≢true, false_from_ne_true}}
use Rattle.std.specs.List.{list_any}
use Rattle.smk_base.specs.{Places.list_at, declared.book.plan.Agg.Agg, Plans.{Grouping, Expr, Apply}}
use Rattle.smk_model.specs.{Values.Row, Plain.{row_eq, key_of, firsts, grouped}, Lineage.{upto, places, has, row_at}, Composed.table_at, LineageLaws.selected_table, Growth.is_chain}
use Rattle.smk_base.proofs.Places.{same_below, places_below, places_false, places_own, has_places, has_passes, has_below, some_member}
use Rattle.smk_model.proofs.{Firsts.{holds, holds_at, firsts_holds}, Locals.firsts_apart, Classes.{place_in, found_below, key_test}, Comes.{rows_in, comes}, Composed.{forwards_by, list_at_by}}
use Rattle.smk_marks.specs.{Marks.{made, passes}, MarkLaws.marks_of}
use Rattle.smk_marks.proofs.Chains.{made_from, reaches}

any_has : (f : ℕ → Bool) (A : List ℕ) (i : ℕ) → has A i ≡ true → f i ≡ true → list_any f A ≡ true
any_has f [] i h p = absurd (false≢true h)
any_has f (x ∷ xs) i h p = elim (or_cases (nat_eq i x) _ h) [
  | inl e ↦ or_left (f x) _ (ap f (sym (eqb-true i x e)) ∙ p)
  | inr r ↦ or_right (f x) _ (any_has f xs i r p)
]

module _ (keys : List ℕ) (aggs : List Agg) (input : Expr) (tables : List (List Row)) (c : is_chain input ≡ true) where
  -- the table's rows, the grouping's input over them, and the first keys
  abbrev pub rows : List Row
  rows = table_at tables (selected_table input)

  abbrev pub inputs : List Row
  inputs = rows_in input tables

  abbrev pub found : List Row
  found = firsts (map (key_of keys) inputs)

  -- the key of what is made of a row
  abbrev pub key : ℕ → Row
  key r = key_of keys (made input (row_at rows r))

  -- a row that passes has a key among the first ones
  pub key_known : (r : ℕ) → r < length rows → passes input (row_at rows r) ≡ true → holds found (key r) ≡ true
  key_known r low p =
      let s = reaches input tables r c low p in
      let is = made_from input tables s.place r c s.low s.there in
      let ks = map (key_of keys) inputs in
      let at : row_at ks s.place ≡ key r = get_or-map (key_of keys) inputs s.place [] [] s.low ∙ ap (key_of keys) is.is in
      firsts_holds ks (key r) (subst (λ (z : Row). holds ks z ≡ true) at (holds_at ks s.place (omega (arith, s.low, length-map inputs (key_of keys)))))

  -- whether an input row with the key of group p comes from row r
  abbrev joined : ℕ → ℕ → Bool
  joined r p = list_any (λ i. comes input tables (selected_table input) i r) (places (λ i. row_eq (row_at found p) (key_of keys (row_at inputs i))) (length inputs))

  -- then row r passes, and has that key
  joined_is : (r p : ℕ) → joined r p ≡ true → (passes input (row_at rows r) ≡ true) × (row_eq (row_at found p) (key r) ≡ true)
  joined_is r p h =
      let t = λ (i : ℕ). row_eq (row_at found p) (key_of keys (row_at inputs i)) in
      let s = some_member (λ i. comes input tables (selected_table input) i r) (places t (length inputs)) h in
      let is = made_from input tables s.0 r c (has_below (length inputs) (places t (length inputs)) (places_below t (length inputs)) s.0 s.1) s.2 in
      (is.pass, ap (λ (z : Row). row_eq (row_at found p) (key_of keys z)) (sym is.is) ∙ has_passes t (upto (length inputs)) s.0 s.1)

  is_joined : (r p : ℕ) → r < length rows → passes input (row_at rows r) ≡ true → joined r p ≡ row_eq (row_at found p) (key r)
  is_joined r p low pass = elim (cases_Bool (row_eq (row_at found p) (key r))) [
    | inl e ↦ (let t = λ (i : ℕ). row_eq (row_at found p) (key_of keys (row_at inputs i)) in
        let s = reaches input tables r c low pass in
        let is = made_from input tables s.place r c s.low s.there in
        any_has (λ i. comes input tables (selected_table input) i r) (places t (length inputs)) s.place
        (has_places t (length inputs) s.place s.low ∙ ap (λ (z : Row). row_eq (row_at found p) (key_of keys z)) is.is ∙ e) s.there ∙ sym e)
    | inr e ↦ false_from_ne_true (joined r p) (λ q. false≢true (sym e ∙ (joined_is r p q).1)) ∙ sym e
  ]

  -- the list of a row that passes is the place of its key alone, and that of another is empty
  pub list_is : (r : ℕ) → r < length rows → list_at (marks_of keys aggs input tables) r ≡ cond (passes input (row_at rows r)) (place_in found (key r) ∷ []) []
  list_is r low =
      let n = length (map (grouped keys aggs inputs) found) in
      ap (λ m. list_at m r) (forwards_by (Apply (Grouping keys aggs) input) tables (selected_table input))
      ∙ list_at_by (λ r p. joined r p) (length rows) n r low
      ∙ elim (cases_Bool (passes input (row_at rows r))) [
        | inl pass ↦ rw pass (let known = key_known r low pass in
            let long = length-map found (grouped keys aggs inputs) in
            same_below (joined r) (nat_eq (place_in found (key r))) n (λ p l. is_joined r p low pass ∙ key_test found (key r) p (firsts_apart (map (key_of keys) inputs)) known (omega (arith, l, long)))
            ∙ places_own (place_in found (key r)) n (omega (arith, long, found_below found (key r) known)))
        | inr pass ↦ rw pass (same_below (joined r) (λ p. false) n (λ p l. false_from_ne_true (joined r p) (λ q. false≢true (sym pass ∙ (joined_is r p q).0))) ∙ places_false n)
      ]
