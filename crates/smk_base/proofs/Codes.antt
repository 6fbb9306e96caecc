-- The codes of texts in a list of different texts.
use Rattle.std.proofs.{Common.{◌≡◌, ℕ, suc, ◌+◌, ◌<◌, ◌≤◌, ◌++◌, ap, Bool, true, false, List, [], ◌∷◌, length, take, get_or, refl, sym, ◌∙◌, arith, true≢false, Decides, inl, inr, Some, None}, lemmas.List.Quantifiers.position-Some, lemmas.Option.none-some, lemmas.Bool.{cases_order, cases_Bool, lt-ltb}, lemmas.List.{get_or-take, length-take-le, get_or_push, length_push, get_or_default, get_or_append_left, take_more}, lemmas.List.Folds.{list_any_at, list_any_none}, lemmas.Map.Keys.apart_from_distinct, lemmas.Slice.Eq.slice_eq-Decides}
use Rattle.std.specs.{Cmp.unsigned_Decides, List.{list_any, position_or_len}}
use Rattle.smk_base.specs.Dicts.{text_eq, code_in, code_or_last, with_text, AreTexts}

pub text_same : (a b : List ℕ) → Decides (text_eq a b) (a ≡ b)
text_same a b = slice_eq-Decides unsigned_Decides a b (text_eq a b) refl

pub text_apart : (a b : List ℕ) → text_eq a b ≡ false → text_eq b a ≡ false
text_apart a b e = elim (cases_Bool (text_eq b a)) [ inl h ↦ absurd (true≢false (sym ((text_same a b).1 (sym ((text_same b a).0 h))) ∙ e)) | inr h ↦ h ]

-- the first that passes
pub found_at : {X : Type 0} (p : X → Bool) (xs : List X) (d : X) → list_any p xs ≡ true → (position_or_len p xs < length xs) × (p (get_or xs (position_or_len p xs) d) ≡ true)
found_at p [] d h = absurd (true≢false (sym h))
found_at p (x ∷ xs) d h = elim (cases_Bool (p x)) [
  | inl e ↦ rw e (omega arith, e)
  | inr e ↦ (
      let rest : list_any p xs ≡ true = rw e at h in
      let f = found_at p xs d rest in
      let next : 1 + position_or_len p xs ≡ suc (position_or_len p xs) = omega arith in
      rw (e, next) (omega (arith, f.0), f.1))
]

pub none_at : {X : Type 0} (p : X → Bool) (xs : List X) → list_any p xs ≡ false → position_or_len p xs ≡ length xs
none_at p [] h = refl
none_at p (x ∷ xs) h = elim (cases_Bool (p x)) [
  | inl e ↦ (let no : true ≡ false = rw e at h in absurd (true≢false no))
  | inr e ↦ (let rest : list_any p xs ≡ false = rw e at h in rw e (omega (arith, none_at p xs rest)))
]

-- a text that is there stays where it is
pub with_text-there : (texts : List (List ℕ)) (k : ℕ) → k < length texts → with_text texts (get_or texts k []) ≡ texts
with_text-there texts k h =
    let t = get_or texts k [] in
    let there : list_any (text_eq t) texts ≡ true = list_any_at (text_eq t) texts k [] h ((text_same t t).1 refl) in
    rw there refl

-- a text that has a code is there
pub with_text-known : (texts : List (List ℕ)) (t : List ℕ) (code : ℕ) → code_in texts t ≡ Some code → texts ≡ with_text texts t
with_text-known texts t code e =
    let f = position-Some (text_eq t) texts code [] e in
    let there : list_any (text_eq t) texts ≡ true = list_any_at (text_eq t) texts code [] f.0 f.1 in
    rw there refl

-- the code of a text is its place
pub code-at : (texts : List (List ℕ)) (k : ℕ) → AreTexts texts → k < length texts → code_or_last texts (get_or texts k []) ≡ k
code-at texts k different h =
    let t = get_or texts k [] in
    let f = found_at (text_eq t) texts [] (list_any_at (text_eq t) texts k [] h ((text_same t t).1 refl)) in
    let j = code_or_last texts t in
    elim (cases_order j k) [
      | inl e ↦ e
      | inr (inl less) ↦ absurd (true≢false (sym f.1 ∙ text_apart (get_or texts j []) t (apart_from_distinct text_eq texts j k [] different less h)))
      | inr (inr more) ↦ absurd (true≢false (sym f.1 ∙ apart_from_distinct text_eq texts k j [] different more f.0))
    ]

-- a text is found at its place
pub code_in-at : (texts : List (List ℕ)) (k : ℕ) → AreTexts texts → k < length texts → code_in texts (get_or texts k []) ≡ Some k
code_in-at texts k different h = rw (code-at texts k different h, lt-ltb k (length texts) h) refl

-- the code of an added text is within, and is its
pub added : (texts : List (List ℕ)) (t : List ℕ) → (code_or_last texts t < length (with_text texts t)) × (get_or (with_text texts t) (code_or_last texts t) [] ≡ t)
added texts t = elim (cases_Bool (list_any (text_eq t) texts)) [
  | inl there ↦ (let f = found_at (text_eq t) texts [] there in rw there (f.0, sym ((text_same _ _).0 f.1)))
  | inr new ↦ (
      let last = none_at (text_eq t) texts new in
      rw (new, last) (omega (arith, length_push texts t), get_or_push texts t [] (length texts) refl))
]

-- the texts before stay where they are
pub kept : (texts : List (List ℕ)) (t : List ℕ) (k : ℕ) → k < length texts → get_or (with_text texts t) k [] ≡ get_or texts k []
kept texts t k h = elim (cases_Bool (list_any (text_eq t) texts)) [
  | inl there ↦ rw there refl
  | inr new ↦ rw new (get_or_append_left texts (t ∷ []) [] k h)
]

-- a text behind the first of different texts is none of these
pub with_text-behind : (texts : List (List ℕ)) (k j : ℕ) → AreTexts texts → k ≤ j → j < length texts → with_text (take k texts) (get_or texts j []) ≡ take k texts ++ get_or texts j [] ∷ []
with_text-behind texts k j different p h =
    let t = get_or texts j [] in
    let new : list_any (text_eq t) (take k texts) ≡ false = list_any_none (text_eq t) (take k texts) (λ i d q.
    let long : length (take k texts) ≡ k = length-take-le k texts (omega arith) in
    let below : i < k = omega (arith, q, long) in
    let same : get_or (take k texts) i d ≡ get_or texts i [] = get_or-take k texts i d below ∙ get_or_default texts i d [] (omega arith) in
    rw same (text_apart (get_or texts i []) t (apart_from_distinct text_eq texts i j [] different (omega arith) h))) in
    rw new refl

-- a text among the first is there
pub with_text-among : (texts : List (List ℕ)) (k j : ℕ) → j < k → k ≤ length texts → with_text (take k texts) (get_or texts j []) ≡ take k texts
with_text-among texts k j h p =
    let long : length (take k texts) ≡ k = length-take-le k texts p in
    ap (with_text (take k texts)) (sym (get_or-take k texts j [] h)) ∙ with_text-there (take k texts) j (omega (arith, long))

-- each of different texts is new behind those before it
pub with_text-next : (texts : List (List ℕ)) (k : ℕ) → AreTexts texts → k < length texts → with_text (take k texts) (get_or texts k []) ≡ take (k + 1) texts
with_text-next texts k different h = with_text-behind texts k k different (omega arith) h ∙ sym (take_more texts k [] h)

-- a text that is there has a code, and one without a code isn't there
known : (texts : List (List ℕ)) (t : List ℕ) → list_any (text_eq t) texts ≡ true → code_in texts t ≡ Some (code_or_last texts t)
known texts t there = rw (lt-ltb (code_or_last texts t) (length texts) (found_at (text_eq t) texts [] there).0) refl

pub absent : (texts : List (List ℕ)) (t : List ℕ) → code_in texts t ≡ None → list_any (text_eq t) texts ≡ false
absent texts t none = elim (cases_Bool (list_any (text_eq t) texts)) [
  | inl there ↦ absurd (none-some (code_or_last texts t) (sym none ∙ known texts t there))
  | inr not ↦ not
]
