-- Dictionaries of first occurrences.
use Rattle.std.proofs.{Common.{◌≡◌, ℕ, suc, ◌+◌, ◌<◌, ◌≤◌, false, List, [], ◌∷◌, ◌++◌, length, map, get_or, refl, Some, ap, sym, subst, ◌∙◌, arith, inl, inr, All, set, take, drop, max}, lemmas.Map.Keys.{IsDistinct-push, IsDistinct-from_apart}, lemmas.Bool.{cases_Bool, cases_eq, cases_lt}, lemmas.List.{get_or-map, map_push, length_push, length-map, get_or-set_same, get_or-set_other, length-set, ext_get_or, take_more, take-map, take-append-drop, length-take, length-take-le, get_or-take, get_or_push}, lemmas.List.Sums.{fold-append, fold_push}, lemmas.List.Elements.{All-push, All-from_get_or}, lemmas.List.Quantifiers.position-Some, lemmas.Option.slice_get-get_or}
use Rattle.std.specs.{Cmp.decided, Prelude.fold, List.{list_any, slice_get}}
use Rattle.indexmap.proofs.MapLemmas.{distinct-take}
use Rattle.smk_base.specs.{Dicts.{text_eq, code_in, code_or_last, with_text, AreTexts}, TextColumns.{text_in, text_firsts, texts_at, AreCodes, AreRecoded}}
use Rattle.smk_base.proofs.Codes.{added, kept, with_text-there, with_text-behind, with_text-among, code-at, text_same}

pub text_firsts_push : (texts : List (List ℕ)) (t : List ℕ) → text_firsts (texts ++ t ∷ []) ≡ with_text (text_firsts texts) t
text_firsts_push texts t = fold_push with_text [] texts t

pub length_with_text : (dict : List (List ℕ)) (t : List ℕ) → length dict ≤ length (with_text dict t)
length_with_text dict t = elim (cases_Bool (list_any (text_eq t) dict)) [
  | inl e ↦ rw e (omega arith)
  | inr e ↦ rw e (omega (arith, length_push dict t))
]

pub length_with_text-most : (dict : List (List ℕ)) (t : List ℕ) → length (with_text dict t) ≤ length dict + 1
length_with_text-most dict t = elim (cases_Bool (list_any (text_eq t) dict)) [
  | inl e ↦ rw e (omega arith)
  | inr e ↦ rw e (omega (arith, length_push dict t))
]

pub few_firsts_from : (found texts : List (List ℕ)) → length (fold with_text found texts) ≤ length found + length texts
few_firsts_from found [] = omega arith
few_firsts_from found (t ∷ ts) = omega (arith, few_firsts_from (with_text found t) ts, length_with_text-most found t)

pub few_firsts : (texts : List (List ℕ)) → length (text_firsts texts) ≤ length texts
few_firsts texts = omega (arith, few_firsts_from [] texts)

-- codes within stay the same texts where a text is added
pub texts_at-with_text : (dict : List (List ℕ)) (t : List ℕ) (codes : List ℕ) → ((k : ℕ) → k < length codes → get_or codes k 0 < length dict) → texts_at (with_text dict t) codes ≡ texts_at dict codes
texts_at-with_text dict t [] h = refl
texts_at-with_text dict t (code ∷ codes) h = rw (kept dict t code (h 0 (omega arith)), texts_at-with_text dict t codes (λ k p. h (suc k) (omega arith))) refl

pub texts_at_add : (dict : List (List ℕ)) (codes : List ℕ) (t : List ℕ) → All (λ code. code < length dict) codes → texts_at (with_text dict t) (codes ++ code_or_last dict t ∷ []) ≡ texts_at dict codes ++ t ∷ []
texts_at_add dict codes t within =
    let old = texts_at-with_text dict t codes (λ k p. within k 0 p) in
    map_push (text_in (with_text dict t)) codes (code_or_last dict t) ∙ rw (old, (added dict t).1) refl

-- one more text
pub AreCodes-add : (dict : List (List ℕ)) (codes : List ℕ) (t : List ℕ) → AreCodes dict codes → length codes < 1048576 → AreCodes (with_text dict t) (codes ++ code_or_last dict t ∷ [])
AreCodes-add dict codes t is room =
    let at = texts_at_add dict codes t is.within in
    record {
      few = omega (arith, length_push codes (code_or_last dict t), room);
      within = All-push (λ code. code < length (with_text dict t)) codes (code_or_last dict t) (λ k d p. omega (arith, is.within k d p, length_with_text dict t)) (added dict t).0;
      firsts = rw (at, text_firsts_push (texts_at dict codes) t) (ap (λ found. with_text found t) is.firsts);
    }

pub AreTexts-push : (dict : List (List ℕ)) (t : List ℕ) → AreTexts dict → list_any (text_eq t) dict ≡ false → AreTexts (dict ++ t ∷ [])
AreTexts-push dict t h new = IsDistinct-push (decided text_eq text_same) dict t h new

pub AreTexts-take : (n : ℕ) (dict : List (List ℕ)) → AreTexts dict → AreTexts (take n dict)
AreTexts-take n dict h = distinct-take (decided text_eq text_same) n dict h

pub AreTexts-with_text : (dict : List (List ℕ)) (t : List ℕ) → AreTexts dict → AreTexts (with_text dict t)
AreTexts-with_text dict t h = elim (cases_Bool (list_any (text_eq t) dict)) [
  | inl e ↦ rw e h
  | inr e ↦ rw e (AreTexts-push dict t h e)
]

AreTexts-from : (found texts : List (List ℕ)) → AreTexts found → AreTexts (fold with_text found texts)
AreTexts-from found [] h = h
AreTexts-from found (t ∷ ts) h = AreTexts-from (with_text found t) ts (AreTexts-with_text found t h)

pub AreTexts-none : AreTexts []
AreTexts-none = IsDistinct-from_apart text_eq [] (λ i j d p q. absurd (omega arith))

pub AreTexts-firsts : (texts : List (List ℕ)) → AreTexts (text_firsts texts)
AreTexts-firsts texts = AreTexts-from [] texts AreTexts-none

pub dict_short : (dict : List (List ℕ)) (codes : List ℕ) → AreCodes dict codes → length dict ≤ length codes
dict_short dict codes is = omega (arith, few_firsts (texts_at dict codes), ap length is.firsts, length-map codes (text_in dict))

-- the code of a text that is there is the one that it has
pub code-is : (dict : List (List ℕ)) (codes : List ℕ) (i d : ℕ) → AreCodes dict codes → i < length codes → get_or codes i d ≡ code_or_last (text_firsts (texts_at dict codes)) (text_in (texts_at dict codes) i)
code-is dict codes i d is h =
    let at : text_in (texts_at dict codes) i ≡ text_in dict (get_or codes i d) = get_or-map (text_in dict) codes i d [] h in
    let different : AreTexts dict = subst AreTexts (sym is.firsts) (AreTexts-firsts (texts_at dict codes)) in
    rw (at, ← is.firsts) (sym (code-at dict (get_or codes i d) different (is.within i d h)))

-- a text that goes last keeps the codes, and has its own
pub AreRecoded-add : (old new : List (List ℕ)) (table : List ℕ) (k : ℕ) → k < length old → AreRecoded old new table → AreRecoded old (with_text new (text_in old k)) (set table k (code_or_last new (text_in old k)))
AreRecoded-add old new table k h is =
    let t = text_in old k in
    let code = code_or_last new t in
    let both : (j : ℕ) → j < length old → get_or (set table k code) j 0 < 4294967295 → (get_or (set table k code) j 0 < length (with_text new t)) × (text_in (with_text new t) (get_or (set table k code) j 0) ≡ text_in old j) = (λ j p q. elim (cases_eq j k) [
      | inl e ↦ (
          let here : get_or (set table k code) j 0 ≡ code = ap (λ i. get_or (set table k code) i 0) e ∙ get_or-set_same table k code 0 (omega (arith, is.long)) in
          rw (here, e) (added new t))
      | inr ne ↦ (
          let there : get_or (set table k code) j 0 ≡ get_or table j 0 = get_or-set_other table k j code 0 ne in
          let low : get_or table j 0 < 4294967295 = omega (arith, there, q) in
          rw there (omega (arith, is.within j p low, length_with_text new t), kept new t (get_or table j 0) (is.within j p low) ∙ is.same j p low))
    ]) in
    record {
      long = length-set table k code ∙ is.long;
      within = λ j p q. (both j p q).0;
      same = λ j p q. (both j p q).1;
    }

-- a code that is there, put last
pub AreCodes-push : (dict : List (List ℕ)) (codes : List ℕ) (code : ℕ) → AreCodes dict codes → length codes < 1048576 → code < length dict → AreCodes dict (codes ++ code ∷ [])
AreCodes-push dict codes code is room h = record {
  few = omega (arith, length_push codes code, room);
  within = All-push (λ code. code < length dict) codes code is.within h;
  firsts = rw (map_push (text_in dict) codes code, text_firsts_push (texts_at dict codes) (text_in dict code), ← is.firsts) (sym (with_text-there dict code h));
}

-- each code is that of its text
pub codes-are : (dict : List (List ℕ)) (codes : List ℕ) → AreCodes dict codes → codes ≡ map (code_or_last (text_firsts (texts_at dict codes))) (texts_at dict codes)
codes-are dict codes is =
    let texts = texts_at dict codes in
    let long : length texts ≡ length codes = length-map codes (text_in dict) in
    ext_get_or 0 codes (map (code_or_last (text_firsts texts)) texts) (sym (length-map texts (code_or_last (text_firsts texts)) ∙ long))
    (λ i h. code-is dict codes i 0 is h ∙ sym (get_or-map (code_or_last (text_firsts texts)) texts i [] 0 (omega (arith, long))))

-- the code of a text that is there has it
pub text-code : (texts : List (List ℕ)) (t : List ℕ) (code : ℕ) → code_in texts t ≡ Some code → (code < length texts) × (text_in texts code ≡ t)
text-code texts t code e = let f = position-Some (text_eq t) texts code [] e in (f.0, sym ((text_same _ _).0 f.1))

pub slice_get-code : (texts : List (List ℕ)) (t : List ℕ) (code : ℕ) → code_in texts t ≡ Some code → slice_get texts code ≡ Some t
slice_get-code texts t code e = let f = text-code texts t code e in slice_get-get_or texts code [] f.0 ∙ ap Some f.1

-- the texts that were found stay first
pub firsts_stay : (found texts : List (List ℕ)) (k : ℕ) → k < length found → get_or (fold with_text found texts) k [] ≡ get_or found k []
firsts_stay found [] k h = refl
firsts_stay found (t ∷ ts) k h = firsts_stay (with_text found t) ts k (omega (arith, length_with_text found t)) ∙ kept found t k h

-- the first occurrences among the first texts are the first ones of all
firsts_first : (texts : List (List ℕ)) (i k : ℕ) → k < length (text_firsts (take i texts)) → get_or (text_firsts texts) k [] ≡ get_or (text_firsts (take i texts)) k []
firsts_first texts i k h =
    ap (λ all. get_or (text_firsts all) k []) (sym (take-append-drop i texts))
    ∙ ap (λ found. get_or found k []) (fold-append with_text [] (take i texts) (drop i texts))
    ∙ firsts_stay (text_firsts (take i texts)) (drop i texts) k h

-- a text that is new behind the first ones is the next first one
new_is_next : (texts : List (List ℕ)) (i used code : ℕ) → used ≤ code → code < length (text_firsts texts)
    → text_firsts (take (i + 1) texts) ≡ take used (text_firsts texts) ++ get_or (text_firsts texts) code [] ∷ [] → code ≡ used
new_is_next texts i used code p h is =
    let firsts = text_firsts texts in
    let different = AreTexts-firsts texts in
    let long : length (take used firsts) ≡ used = length-take-le used firsts (omega arith) in
    let wide : length (text_firsts (take (i + 1) texts)) ≡ used + 1 = ap length is ∙ length_push (take used firsts) (get_or firsts code []) ∙ ap (λ (n : ℕ). n + 1) long in
    let same : get_or firsts used [] ≡ get_or firsts code [] = firsts_first texts (i + 1) used (omega (arith, wide)) ∙ ap (λ found. get_or found used []) is ∙ get_or_push (take used firsts) (get_or firsts code []) [] used long in
    sym (code-at firsts code different h) ∙ ap (code_or_last firsts) (sym same) ∙ code-at firsts used different (omega arith)

-- how many first occurrences the first texts have, with one more text
pub firsts_next : (texts : List (List ℕ)) (i used code : ℕ) → i < length texts → used ≤ length (text_firsts texts) → code < length (text_firsts texts) → text_in (text_firsts texts) code ≡ text_in texts i
    → text_firsts (take i texts) ≡ take used (text_firsts texts) → text_firsts (take (i + 1) texts) ≡ take (max used (code + 1)) (text_firsts texts)
firsts_next texts i used code h few low at is =
    let firsts = text_firsts texts in
    let next : text_firsts (take (i + 1) texts) ≡ with_text (take used firsts) (get_or firsts code []) =
    ap text_firsts (take_more texts i [] h) ∙ text_firsts_push (take i texts) (text_in texts i) ∙ ap (λ found. with_text found (text_in texts i)) is ∙ ap (with_text (take used firsts)) (sym at) in
    elim (cases_lt code used) [
      | inl less ↦ (
          let most : max used (code + 1) ≡ used = omega arith in
          rw most (next ∙ with_text-among firsts used code less few))
      | inr more ↦ (
          let new = next ∙ with_text-behind firsts used code (AreTexts-firsts texts) more low in
          let same : code ≡ used = new_is_next texts i used code more low new in
          let most : max used (code + 1) ≡ code + 1 = omega arith in
          rw most (new ∙ ap (λ n. take n firsts ++ get_or firsts code [] ∷ []) (sym same) ∙ sym (take_more firsts code [] low)))
    ]

-- codes below a number are the same texts in the first ones alone
texts_at-take : (dict : List (List ℕ)) (used : ℕ) (codes : List ℕ) → ((k : ℕ) → k < length codes → get_or codes k 0 < used) → texts_at (take used dict) codes ≡ texts_at dict codes
texts_at-take dict used [] h = refl
texts_at-take dict used (code ∷ codes) h = rw (get_or-take used dict code [] (h 0 (omega arith)), texts_at-take dict used codes (λ k p. h (suc k) (omega arith))) refl

-- the first codes, with the texts that these have
pub record AreFirst (dict : List (List ℕ)) (codes : List ℕ) (len used : ℕ) : Type 0 where
  pub are : AreCodes (take used dict) (take len codes)
  pub texts : texts_at (take used dict) (take len codes) ≡ take len (texts_at dict codes)

pub AreCodes-first : (dict : List (List ℕ)) (codes : List ℕ) (len used : ℕ) → AreCodes dict codes → len < length codes → text_firsts (take len (texts_at dict codes)) ≡ take used (text_firsts (texts_at dict codes))
    → ((k : ℕ) → k < len → code_or_last (text_firsts (texts_at dict codes)) (text_in (texts_at dict codes) k) < used) → AreFirst dict codes len used
AreCodes-first dict codes len used is h firsts below =
    let long : length (take len codes) ≡ len = length-take-le len codes (omega arith) in
    let at : (k : ℕ) → k < len → get_or (take len codes) k 0 ≡ get_or codes k 0 = (λ k p. get_or-take len codes k 0 p) in
    let low : (k : ℕ) → k < len → get_or (take len codes) k 0 < used = (λ k p. omega (arith, at k p, code-is dict codes k 0 is (omega arith), below k p)) in
    let texts : texts_at (take used dict) (take len codes) ≡ take len (texts_at dict codes) = texts_at-take dict used (take len codes) (λ k p. low k (omega (arith, long))) ∙ sym (take-map (text_in dict) len codes) in
    record {
      are = record {
        few = omega (arith, long, is.few);
        within = All-from_get_or (λ code. code < length (take used dict)) (take len codes) 0 (λ k p. omega (arith, length-take used dict, low k (omega (arith, long)), at k (omega (arith, long)), is.within k 0 (omega (arith, long))));
        firsts = ap (take used) is.firsts ∙ sym firsts ∙ ap text_firsts (sym texts);
      };
      texts = texts;
    }
