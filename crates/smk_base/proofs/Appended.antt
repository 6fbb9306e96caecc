-- A dictionary with the texts of another, and the codes that these have there.
use Rattle.std.proofs.{Common.{◌≡◌, ℕ, ◌+◌, ◌<◌, ◌≤◌, true, List, [], ◌∷◌, ◌++◌, length, map, take, get_or, refl, ap, sym, ◌∙◌, arith, inl, inr, All}, lemmas.Bool.{cases_Bool, or_cases, false≢true}, lemmas.List.{get_or-map, length-map, length-append, map-append, append_assoc, append-nil, get_or_append_left, take_more, take_at}, lemmas.List.Elements.{All-push, All-head, All-tail, All-append, All-map}, lemmas.List.Folds.list_any_at, lemmas.List.Sums.{fold-append, fold_push}}
use Rattle.std.specs.{Prelude.fold, List.list_any}
use Rattle.smk_base.specs.{Dicts.{text_eq, code_or_last, with_text}, TextColumns.{text_in, text_firsts, texts_at, AreAdded, AreCodes}}
use Rattle.smk_base.proofs.{Codes.{added, text_same}, Recoding.{length_with_text, firsts_stay, texts_at_add}}

-- the texts that were there, and the new ones behind them
pub more_texts : (found texts : List (List ℕ)) → (more : List (List ℕ)) × (fold with_text found texts ≡ found ++ more)
more_texts found [] = ([], sym (append-nil found))
more_texts found (t ∷ ts) =
    let rest = more_texts (with_text found t) ts in
    elim (cases_Bool (list_any (text_eq t) found)) [
      | inl e ↦ (let same : with_text found t ≡ found = rw e refl in (rest.0, rest.1 ∙ ap (λ (z : List (List ℕ)). z ++ rest.0) same))
      | inr e ↦ (let next : with_text found t ≡ found ++ t ∷ [] = rw e refl in (t ∷ rest.0, rest.1 ∙ ap (λ (z : List (List ℕ)). z ++ rest.0) next ∙ append_assoc found (t ∷ []) rest.0))
    ]

pub texts_before : (found texts : List (List ℕ)) → take (length found) (fold with_text found texts) ≡ found
texts_before found texts = let m = more_texts found texts in rw m.1 (take_at found m.0 (length found) refl)

long_fold : (found texts : List (List ℕ)) → length found ≤ length (fold with_text found texts)
long_fold found texts = let m = more_texts found texts in omega (arith, ap length m.1, length-append found m.0)

-- a text among the added ones is there
fold_there : (found texts : List (List ℕ)) (t : List ℕ) → list_any (text_eq t) texts ≡ true → list_any (text_eq t) (fold with_text found texts) ≡ true
fold_there found [] t h = absurd (false≢true h)
fold_there found (u ∷ us) t h = elim (or_cases (text_eq t u) _ h) [
  | inl e ↦ (
      let k = code_or_last found u in
      let here = added found u in
      let at : get_or (fold with_text (with_text found u) us) k [] ≡ t = firsts_stay (with_text found u) us k here.0 ∙ here.1 ∙ sym ((text_same t u).0 e) in
      list_any_at (text_eq t) (fold with_text (with_text found u) us) k [] (omega (arith, here.0, long_fold (with_text found u) us)) ((text_same t _).1 (sym at)))
  | inr r ↦ fold_there (with_text found u) us t r
]

-- adding the first occurrences of a list is adding the list
pub add_firsts : (found seen texts : List (List ℕ)) → fold with_text found (fold with_text seen texts) ≡ fold with_text (fold with_text found seen) texts
add_firsts found seen [] = refl
add_firsts found seen (t ∷ ts) = add_firsts found (with_text seen t) ts ∙ ap (λ (z : List (List ℕ)). fold with_text z ts) (elim (cases_Bool (list_any (text_eq t) seen)) [
  | inl p ↦ (
      let same : with_text seen t ≡ seen = rw p refl in
      let there : with_text (fold with_text found seen) t ≡ fold with_text found seen = rw (fold_there found seen t p) refl in
      ap (fold with_text found) same ∙ sym there)
  | inr p ↦ (let next : with_text seen t ≡ seen ++ t ∷ [] = rw p refl in ap (fold with_text found) next ∙ fold_push with_text found seen t)
])

pub AreAdded-more : (dict texts now : List (List ℕ)) (codes : List ℕ) (k : ℕ) → k < length texts → AreAdded dict (take k texts) now codes
    → AreAdded dict (take (k + 1) texts) (with_text now (get_or texts k [])) (codes ++ code_or_last now (get_or texts k []) ∷ [])
AreAdded-more dict texts now codes k h are =
    let t = get_or texts k [] in
    let more : take (k + 1) texts ≡ take k texts ++ t ∷ [] = take_more texts k [] h in
    record {
      texts = ap (λ (z : List (List ℕ)). with_text z t) are.texts ∙ sym (fold_push with_text dict (take k texts) t) ∙ ap (fold with_text dict) (sym more);
      within = All-push (λ code. code < length (with_text now t)) codes (code_or_last now t) (λ j d p. omega (arith, are.within j d p, length_with_text now t)) (added now t).0;
      back = texts_at_add now codes t are.within ∙ ap (λ (z : List (List ℕ)). z ++ t ∷ []) are.back ∙ sym more;
    }

-- codes of what was there are those of the same texts
texts_at-more : (dict more : List (List ℕ)) (codes : List ℕ) → All (λ code. code < length dict) codes → texts_at (dict ++ more) codes ≡ texts_at dict codes
texts_at-more dict more [] h = refl
texts_at-more dict more (code ∷ codes) h =
    rw (get_or_append_left dict more [] code (All-head (λ code. code < length dict) code codes h), texts_at-more dict more codes (All-tail (λ code. code < length dict) code codes h)) refl

-- other codes of the same texts
texts_at-recoded : (now other : List (List ℕ)) (recoded codes : List ℕ) → texts_at now recoded ≡ other → All (λ code. code < length other) codes → texts_at now (map (λ code. get_or recoded code 0) codes) ≡ texts_at other codes
texts_at-recoded now other recoded [] back h = refl
texts_at-recoded now other recoded (code ∷ codes) back h =
    let low : code < length other = All-head (λ code. code < length other) code codes h in
    let same : text_in now (get_or recoded code 0) ≡ text_in other code = sym (get_or-map (text_in now) recoded code 0 [] (omega (arith, low, ap length back, length-map recoded (text_in now)))) ∙ ap (λ (z : List (List ℕ)). text_in z code) back in
    rw (same, texts_at-recoded now other recoded codes back (All-tail (λ code. code < length other) code codes h)) refl

-- codes with those of another column behind them, by the codes that the other's texts have here
pub record AreJoined (dict : List (List ℕ)) (codes : List ℕ) (all : List (List ℕ)) : Type 0 where
  pub are : AreCodes dict codes
  pub texts : texts_at dict codes ≡ all

pub AreCodes-join : (dict other now : List (List ℕ)) (codes others recoded : List ℕ) → AreCodes dict codes → AreCodes other others → length codes + length others ≤ 1048576 → AreAdded dict other now recoded
    → AreJoined now (codes ++ map (λ code. get_or recoded code 0) others) (texts_at dict codes ++ texts_at other others)
AreCodes-join dict other now codes others recoded is more few are =
    let behind = map (λ code. get_or recoded code 0) others in
    let m = more_texts dict other in
    let prefix : now ≡ dict ++ m.0 = are.texts ∙ m.1 in
    let long : length dict ≤ length now = omega (arith, ap length prefix, length-append dict m.0) in
    let wide : length recoded ≡ length other = sym (length-map recoded (text_in now)) ∙ ap length are.back in
    let left : texts_at now codes ≡ texts_at dict codes = ap (λ (z : List (List ℕ)). texts_at z codes) prefix ∙ texts_at-more dict m.0 codes is.within in
    let right : texts_at now behind ≡ texts_at other others = texts_at-recoded now other recoded others are.back more.within in
    let texts : texts_at now (codes ++ behind) ≡ texts_at dict codes ++ texts_at other others = map-append (text_in now) codes behind ∙ rw (left, right) refl in
    record {
      are = record {
        few = omega (arith, few, length-append codes behind, length-map others (λ code. get_or recoded code 0));
        within = All-append (λ code. code < length now) codes behind (λ k d p. omega (arith, is.within k d p, long))
            (All-map (λ code. code < length now) (λ code. get_or recoded code 0) others (λ k d p. are.within (get_or others k d) 0 (omega (arith, more.within k d p, wide))));
        firsts =
            are.texts ∙ ap (fold with_text dict) more.firsts ∙ add_firsts dict [] (texts_at other others)
            ∙ ap (λ (z : List (List ℕ)). fold with_text z (texts_at other others)) is.firsts ∙ sym (fold-append with_text [] (texts_at dict codes) (texts_at other others)) ∙ ap text_firsts (sym texts);
      };
      texts = texts;
    }
