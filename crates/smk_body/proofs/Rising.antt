-- The classes of a column of texts from the places where its codes rise.
use Rattle.std.proofs.{Common.{◌≡◌, ◌∙◌, ℕ, ◌<◌, ◌≤◌, ◌+◌, ◌-◌, List, [], ◌∷◌, ◌++◌, length, map, get_or, refl, sym, ap, subst, arith, true, true≢false, inl, inr}, lemmas.Bool.cases_lt, lemmas.List.{get_or_append_left, get_or_default, get_or_past, get_or_push, length_push, length-map}}
use Rattle.std.specs.List.{All}
use Rattle.smk_base.specs.{Dicts.{code_or_last, text_eq}, Rels.{AreCodesOf, column_texts, column_values, picked, text_of, value_in}, TextColumns.text_firsts, declared.value.Kind.Kind}
use Rattle.smk_base.proofs.Codes.{text_same}
use Rattle.smk_model.specs.{Values.Row, Plain.key_of}
use Rattle.smk_keys.specs.{Classes.{ClassesImage, classes_of, classing_of}, Orders.IsInOrder}
use Rattle.smk_keys.proofs.{Classing.AreClasses-classing, Firsts.AreClasses, Ordered.in_order-is, Rowed.{AreNumbers-one, classes-numbers}}
use Rattle.smk_jobs.specs.Cuts.{AreParts, cut_at}
use Rattle.smk_body.specs.Rises.{AreRises, codes_of, is_text_key}

-- keys that are one column are that column alone
pub one_key : (kinds : List Kind) (keys : List ℕ) → is_text_key kinds keys ≡ true → keys ≡ get_or keys 0 0 ∷ []
one_key kinds (c ∷ []) h = refl
one_key kinds _ h = absurd (true≢false (sym h))

-- a column has a code for each row
pub codes_long : (c : ℕ) (L : List Row) (codes : List ℕ) → AreCodesOf (column_values c L) codes → length codes ≡ length L
codes_long c L codes are = are.long ∙ length-map L (λ row. value_in row c)

-- the rises that a part has
pub part_rises : {X : Type 0} (rises_of : X → List ℕ) (codes : List ℕ) (n workers p : ℕ) (parts : List X) (part : X) (rises : List ℕ) → p < workers
    → AreParts (λ q one. AreRises codes (cut_at workers n q) (cut_at workers n (q + 1)) (rises_of one)) workers parts → part ≡ get_or parts p part → rises ≡ rises_of part
    → AreRises codes (cut_at workers n p) (cut_at workers n (p + 1)) rises
part_rises {X} rises_of codes n workers p parts part rises below are read e =
    subst (AreRises codes (cut_at workers n p) (cut_at workers n (p + 1))) (sym e)
    (subst (λ (one : X). AreRises codes (cut_at workers n p) (cut_at workers n (p + 1)) (rises_of one)) (sym read) (are.1 p part below))

-- rises up to a place, one place further
module _ (of R : List ℕ) (from place : ℕ) (so : AreRises of from place R) where
  inner : (k : ℕ) → k < length R → get_or R k (place + 1) ≡ get_or R k place
  inner k h = get_or_default R k (place + 1) place h

  old_next : (k i : ℕ) → i < get_or R (k + 1) (place + 1) → i < place → i < get_or R (k + 1) place
  old_next k i q h = elim (cases_lt (k + 1) (length R)) [
    | inl more ↦ omega (arith, q, inner (k + 1) more)
    | inr last ↦ omega (arith, h, get_or_past R (k + 1) place last)
  ]

  last_of : (k i : ℕ) → k < length R → place ≤ i → i < get_or R (k + 1) (place + 1) → length R ≤ k + 1
  last_of k i h p q = elim (cases_lt (k + 1) (length R)) [
    | inl more ↦ absurd (omega (arith, q, p, so.below (k + 1) more, get_or_default R (k + 1) (place + 1) 0 more))
    | inr last ↦ last
  ]

  -- a code that is no greater than the greatest
  pub rises_kept : 0 < length R → get_or of place 0 ≤ get_or of (get_or R (length R - 1) 0) 0 → AreRises of from (place + 1) R
  rises_kept some most = record {
    begins = inner 0 some ∙ so.begins;
    grows = λ k h. elim (cases_lt (k + 1) (length R)) [
      | inl more ↦ omega (arith, so.grows k h, inner (k + 1) more)
      | inr last ↦ omega (arith, so.below k h, get_or_past R (k + 1) (place + 1) last)
    ];
    below = λ k h. omega (arith, so.below k h);
    greater = so.greater;
    greatest = λ k i h p q. elim (cases_lt i place) [
      | inl before ↦ so.greatest k i h p (old_next k i q before)
      | inr here ↦ (
          let end : length R ≤ k + 1 = last_of k i h here q in
          let e : k ≡ length R - 1 = omega (arith, h, end) in
          let same : i ≡ place = omega (arith, here, q, get_or_past R (k + 1) (place + 1) end) in
          rw (e, same) most)
    ];
  }

  -- a greater code
  pub rises_more : (length R ≡ 0 → place ≡ from) → ((i : ℕ) → from ≤ i → i < place → get_or of i 0 < get_or of place 0) → AreRises of from (place + 1) (R ++ place ∷ [])
  rises_more first more_than =
      let long : length (R ++ place ∷ []) ≡ length R + 1 = length_push R place in
      let old : (k d : ℕ) → k < length R → get_or (R ++ place ∷ []) k d ≡ get_or R k d = λ k d h. get_or_append_left R (place ∷ []) d k h in
      let new : (k d : ℕ) → k ≡ length R → get_or (R ++ place ∷ []) k d ≡ place = λ k d h. get_or_push R place d k (sym h) in
      let end : (k d : ℕ) → length R ≤ k → get_or (R ++ place ∷ []) (k + 1) d ≡ d = λ k d h. get_or_past (R ++ place ∷ []) (k + 1) d (omega (arith, long, h)) in
      let next : (k : ℕ) → k < length R → get_or (R ++ place ∷ []) (k + 1) (place + 1) ≡ get_or R (k + 1) place = λ k h. elim (cases_lt (k + 1) (length R)) [
        | inl more ↦ old (k + 1) (place + 1) more ∙ inner (k + 1) more
        | inr last ↦ (let e : k + 1 ≡ length R = omega (arith, h, last) in new (k + 1) (place + 1) e ∙ sym (get_or_past R (k + 1) place last))
      ] in
      record {
        begins = elim (cases_lt 0 (length R)) [
          | inl some ↦ old 0 (place + 1) some ∙ inner 0 some ∙ so.begins
          | inr none ↦ (let e : length R ≡ 0 = omega (arith, none) in new 0 (place + 1) (sym e) ∙ first e)
        ];
        grows = λ k h. elim (cases_lt k (length R)) [
          | inl before ↦ omega (arith, so.grows k before, next k before, old k 0 before)
          | inr last ↦ omega (arith, new k 0 (omega (arith, long, h, last)), end k (place + 1) last)
        ];
        below = λ k h. elim (cases_lt k (length R)) [
          | inl before ↦ omega (arith, so.below k before, old k 0 before)
          | inr last ↦ omega (arith, new k 0 (omega (arith, long, h, last)))
        ];
        greater = λ k i h p q. elim (cases_lt k (length R)) [
          | inl before ↦ rw (old k 0 before) (so.greater k i before p (omega (arith, q, old k 0 before)))
          | inr last ↦ (
              let here : get_or (R ++ place ∷ []) k 0 ≡ place = new k 0 (omega (arith, long, h, last)) in
              rw here (more_than i p (omega (arith, q, here))))
        ];
        greatest = λ k i h p q. elim (cases_lt k (length R)) [
          | inl before ↦ rw (old k 0 before) (so.greatest k i before (omega (arith, p, old k 0 before)) (omega (arith, q, next k before)))
          | inr last ↦ (
              let here : get_or (R ++ place ∷ []) k 0 ≡ place = new k 0 (omega (arith, long, h, last)) in
              let same : i ≡ place = omega (arith, p, q, here, end k (place + 1) last) in
              rw (here, same) (omega arith))
        ];
      }

module _ (L : List Row) (c : ℕ) where
  abbrev codes : List ℕ
  codes = codes_of L c

  abbrev firsts : List ℕ
  firsts = (classing_of text_eq (column_texts c L)).firsts

  pub long : length codes ≡ length L
  long = length-map (column_texts c L) (code_or_last (text_firsts (column_texts c L))) ∙ length-map L (λ row. text_of (value_in row c))

  are : AreClasses [] (column_texts c L) codes firsts
  are = AreClasses-classing text_eq text_same [] (column_texts c L)

  -- no code comes before all lesser ones have come
  code_next : (g n : ℕ) → g < length codes → ((i : ℕ) → i < g → get_or codes i 0 < n) → get_or codes g 0 ≤ n
  code_next g n low seen = elim (cases_lt n (get_or codes g 0)) [
    | inl more ↦ (
        let p = get_or firsts n 0 in
        let inside : n < length firsts = omega (arith, more, are.within g (omega (arith, low, are.long))) in
        let here : get_or codes p 0 ≡ n = are.at n inside in
        elim (cases_lt p g) [
          | inl before ↦ absurd (omega (arith, here, seen p before))
          | inr behind ↦ elim (cases_lt g p) [
            | inl later ↦ absurd (omega (arith, more, are.first n g inside later))
            | inr same ↦ (let e : p ≡ g = omega arith in absurd (omega (arith, more, here, ap (λ k. get_or codes k 0) e)))
          ]
        ])
    | inr most ↦ most
  ]

  module _ (found : List ℕ) (g next : ℕ) (so : IsInOrder codes found g) (low : g < length codes) (rise : g < next) (least : (i : ℕ) → g ≤ i → i < next → get_or codes i 0 ≤ get_or codes g 0) where
    most : get_or codes g 0 ≤ length found
    most = code_next g (length found) low so.below

    -- a rise whose text is known, and the rows up to the next one
    pub rise_known : (get_or codes g 0 ≡ length found → ⊥) → IsInOrder codes found next
    rise_known other =
        let less : get_or codes g 0 < length found = omega (arith, most, other) in
        record {
          below = λ i h. elim (cases_lt i g) [ inl before ↦ so.below i before | inr behind ↦ omega (arith, less, least i behind h) ];
          place = λ k h. omega (arith, so.place k h, rise);
          at = so.at;
          first = so.first;
        }

    -- one whose text is new
    pub rise_new : get_or codes g 0 ≡ length found → IsInOrder codes (found ++ g ∷ []) next
    rise_new e =
        let more : length (found ++ g ∷ []) ≡ length found + 1 = length_push found g in
        let old : (k : ℕ) → k < length found → get_or (found ++ g ∷ []) k 0 ≡ get_or found k 0 = λ k h. get_or_append_left found (g ∷ []) 0 k h in
        let new : (k : ℕ) → k ≡ length found → get_or (found ++ g ∷ []) k 0 ≡ g = λ k h. get_or_push found g 0 k (sym h) in
        record {
          below = λ i h. elim (cases_lt i g) [ inl before ↦ omega (arith, more, so.below i before) | inr behind ↦ omega (arith, more, e, least i behind h) ];
          place = λ k h. elim (cases_lt k (length found)) [ inl before ↦ omega (arith, old k before, so.place k before, rise) | inr last ↦ omega (arith, new k (omega (arith, more, h, last)), rise) ];
          at = λ k h. elim (cases_lt k (length found)) [
            | inl before ↦ ap (λ p. get_or codes p 0) (old k before) ∙ so.at k before
            | inr last ↦ (let same : k ≡ length found = omega (arith, more, h, last) in ap (λ p. get_or codes p 0) (new k same) ∙ e ∙ sym same)
          ];
          first = λ k i h p. elim (cases_lt k (length found)) [
            | inl before ↦ so.first k i before (omega (arith, old k before, p))
            | inr last ↦ (let same : k ≡ length found = omega (arith, more, h, last) in let low_i : i < g = omega (arith, new k same, p) in omega (arith, same, so.below i low_i))
          ];
        }

  -- the codes with the places where they come first are the classes of the column
  pub text_classes-are : (count : ℕ) (found : List ℕ) (made : ClassesImage) → made.of ≡ codes → made.firsts ≡ found → IsInOrder codes found (length L) → AreCodesOf (column_values c L) codes → All (λ code. code < count) codes → made ≡ classes_of (map (key_of (c ∷ [])) L)
  text_classes-are count found made of_is firsts_is so coded below =
      classes-numbers (map (picked (c ∷ [])) L) count codes made
      (in_order-is codes found made of_is firsts_is (subst (IsInOrder codes found) (sym long) so))
      (AreNumbers-one L c count codes (record { long = coded.long; below = below; same = coded.same; alike = coded.alike }))
