-- One more at the end of an ascending list.
use Rattle.std.proofs.{Common.{◌≡◌, ◌∙◌, ◌<◌, ◌-◌, ℕ, List, [], ◌∷◌, ◌++◌, IsTrue, length, map, get_or, refl, sym, ap, subst, arith, inl, inr, All}, lemmas.Bool.cases_lt, lemmas.List.{length-append, length-map, map-append, get_or-map, get_or_append_left, get_or-append_right}, lemmas.List.Elements.All-push}
use Rattle.smk_base.specs.{Picks.IsAscending, Needs.{IsNeed, is_needed}, declared.book.need.Needed.Needed}

ascending_more : (A : List ℕ) (x : ℕ) → IsAscending A → ((i : ℕ) → i < length A → get_or A i 0 < x) → IsAscending (A ++ x ∷ [])
ascending_more A x rises above i j before low =
    let here : i < length A = omega (arith, low, before, length-append A (x ∷ [])) in
    let one : get_or (A ++ x ∷ []) i 0 ≡ get_or A i 0 = get_or_append_left A (x ∷ []) 0 i here in
    elim (cases_lt j (length A)) [
      | inl l ↦ (let two : get_or (A ++ x ∷ []) j 0 ≡ get_or A j 0 = get_or_append_left A (x ∷ []) 0 j l in omega (arith, one, two, rises i j before l))
      | inr g ↦ (
          let e : j - length A ≡ 0 = omega (arith, low, g, length-append A (x ∷ [])) in
          let two : get_or (A ++ x ∷ []) j 0 ≡ x = get_or-append_right A (x ∷ []) (length A) j 0 refl g ∙ ap (λ k. get_or (x ∷ []) k 0) e in
          omega (arith, one, two, above i here)
          )
    ]

-- one more table that is needed, behind all others
pub need_more : (need : List Needed) (more : Needed) → IsNeed need → All (λ before. before.table < more.table) need → IsTrue (is_needed more) → IsNeed (need ++ more ∷ [])
need_more need more is above some = record {
  by_table = subst IsAscending (sym (map-append (λ (n : Needed). n.table) need (more ∷ [])))
      (ascending_more (map (λ n. n.table) need) more.table is.by_table (λ i low.
      let inside : i < length need = omega (arith, low, length-map need (λ (n : Needed). n.table)) in
      subst (λ t. t < more.table) (sym (get_or-map (λ (n : Needed). n.table) need i more 0 inside)) (above i more inside)));
  directed = All-push (λ n. IsTrue (is_needed n)) need more is.directed some;
}
