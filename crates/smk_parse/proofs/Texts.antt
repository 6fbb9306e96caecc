-- Bytes, and what stands at their front.
use Rattle.std.specs.Prelude.{cond, nat_eq, Bool, true, false, pos, neg_ℤ, take, drop, length, ◌==◌, take_while, not, FitsSigned}
use Rattle.smk_parse.specs.{Vocabulary.{digits_value, TokenKind, Begins, front, Between, tokens_from, put, is_more, undoubled, prefix_len, no_line_end, first_line, lines, lines_after, without_cr, w64}, Texts.{left_at, Stands, Cuts}}
use Rattle.std.proofs.{Common.{◌≡◌, ℕ, zero, suc, ◌+◌, ◌*◌, ◌-◌, ◌<◌, List, [], ◌∷◌, get_or, drop-cons, ap, ◌∙◌, sym, arith, subst, refl, ◌≤◌, ◌++◌, append_assoc, min, append-nil, length-append}, lemmas.List.{drop-drop, length-drop, take_all, length-take, take-take, Folds.length-prefix_len}}
use Rattle.smk_base.specs.declared.book.token.TokenKind.TheVariants.{End}
use Rattle.smk_model.proofs.NumberRanges.{Fitting, front_fits}

-- a number beyond the top stays beyond it
pub capped : (n top : ℕ) (ds : List ℕ) → min (digits_value (min n top) ds) top ≡ min (digits_value n ds) top
capped n top [] = omega arith
capped n top (d ∷ ds) =
    let e : min (min n top * 10 + (d - 48)) top ≡ min (n * 10 + (d - 48)) top = omega arith in
    sym (capped (min n top * 10 + (d - 48)) top ds) ∙ ap (λ m. min (digits_value m ds) top) e ∙ capped (n * 10 + (d - 48)) top ds

-- one digit more
pub one_digit : (ds : List ℕ) (i v w top : ℕ) → i < length ds → w ≡ min (v * 10 + (get_or ds i 0 - 48)) top → min (digits_value w (drop (i + 1) ds)) top ≡ min (digits_value v (drop i ds)) top
one_digit ds i v w top h e =
    let f : drop i ds ≡ get_or ds i 0 ∷ drop (suc i) ds = drop-cons ds i 0 h in
    let g : i + 1 ≡ suc i = omega arith in
    ap (λ j. min (digits_value w (drop j ds)) top) g ∙ ap (λ m. min (digits_value m (drop (suc i) ds)) top) e ∙ capped (v * 10 + (get_or ds i 0 - 48)) top (drop (suc i) ds) ∙ sym (ap (λ l. min (digits_value v l) top) f)

-- a number with a minus sign in the range of i64 isn't beyond the top
pub minus_whole : (n : ℕ) → FitsSigned w64 (neg_ℤ (pos n)) → n < 9223372036854775809
minus_whole zero h = omega arith
minus_whole (suc n) h = let g = h.sfits in omega (arith, g)

skipped : (k at : ℕ) (bs : List ℕ) → k ≤ length bs → tokens_from k at bs ≡ tokens_from 0 (at + k) (drop k bs)
skipped zero at bs h = let e : at ≡ at + 0 = omega arith in ap (λ n. tokens_from 0 n bs) e
skipped (suc k) at [] h = absurd (omega arith)
skipped (suc k) at (b ∷ bs) h = let e : at + 1 + k ≡ at + suc k = omega arith in skipped k (at + 1) bs (omega arith) ∙ ap (λ n. tokens_from 0 n (drop k bs)) e

-- what is passed at the front
passed : (n at b : ℕ) (bs : List ℕ) → 0 < n → n ≤ length (b ∷ bs) → tokens_from (n - 1) (at + 1) bs ≡ tokens_from 0 (at + n) (drop n (b ∷ bs))
passed zero at b bs h k = absurd (omega arith)
passed (suc n) at b bs h k =
    let e : suc n - 1 ≡ n = omega arith in let f : at + 1 + n ≡ at + suc n = omega arith in
    ap (λ m. tokens_from m (at + 1) bs) e ∙ skipped n (at + 1) bs (omega arith) ∙ ap (λ m. tokens_from 0 m (drop n bs)) f

gap_front : (at n : ℕ) (bs : List ℕ) → front bs ≡ Between n → 0 < n → n ≤ length bs → tokens_from 0 at bs ≡ tokens_from 0 (at + n) (drop n bs)
gap_front at n [] e h k = absurd (omega arith)
gap_front at n (b ∷ bs) e h k = ap (λ s. put s at (b ∷ bs) (λ k. tokens_from k (at + 1) bs)) e ∙ passed n at b bs h k

token_front : (at n : ℕ) (k : TokenKind) (bs : List ℕ) → front bs ≡ Begins k n → n ≤ length bs → (is_more k ≡ true → 0 < n) → tokens_from 0 at bs ≡ left_at k at n bs
token_front at n k [] e w x =
    let f : End ≡ k = cc in let z : 0 ≡ n = omega (arith, w) in
    subst (λ m. record { at = at; kind = End; text = [] } ∷ [] ≡ left_at k at m []) z (subst (λ j. record { at = at; kind = End; text = [] } ∷ [] ≡ left_at j at 0 []) f refl)
token_front at n k (b ∷ bs) e w x = ap (λ s. put s at (b ∷ bs) (λ k. tokens_from k (at + 1) bs)) e ∙ by (is_more k) (λ h. passed n at b bs (x h) w)
  where
    by : (o : Bool) → (o ≡ true → tokens_from (n - 1) (at + 1) bs ≡ tokens_from 0 (at + n) (drop n (b ∷ bs))) → record { at = at; kind = k; text = take n (b ∷ bs) } ∷ cond o (tokens_from (n - 1) (at + 1) bs) [] ≡ record { at = at; kind = k; text = take n (b ∷ bs) } ∷ cond o (tokens_from 0 (at + n) (drop n (b ∷ bs))) []
    by true h = ap (λ l. record { at = at; kind = k; text = take n (b ∷ bs) } ∷ l) (h refl)
    by false h = refl

-- a slice up to the end is the rest
rest : (p : ℕ) (l : List ℕ) → p ≤ length l → take (length l - p) (drop p l) ≡ drop p l
rest p l h = take_all (length l - p) (drop p l) (omega (arith, length-drop p l))

-- past what means nothing
pub gap_goes : (text : List ℕ) (p n : ℕ) → p ≤ length text → front (take (length text - p) (drop p text)) ≡ Between n → (0 < n) × (n ≤ length (take (length text - p) (drop p text))) → (p + n ≤ length text) × (tokens_from 0 p (drop p text) ≡ tokens_from 0 (p + n) (drop (p + n) text))
gap_goes text p n h e w =
    let v = subst (λ (l : List ℕ). (0 < n) × (n ≤ length l)) (rest p text h) w in
    (omega (arith, v.1, length-drop p text), gap_front p n (drop p text) (sym (ap front (rest p text h)) ∙ e) v.0 v.1 ∙ ap (tokens_from 0 (p + n)) (drop-drop n p text))

-- up to a token
pub token_goes : (text : List ℕ) (p n : ℕ) (k : TokenKind) → p ≤ length text → front (take (length text - p) (drop p text)) ≡ Begins k n → (n ≤ length (take (length text - p) (drop p text))) × (is_more k ≡ true → 0 < n) → (tokens_from 0 p (drop p text) ≡ left_at k p n (drop p text)) × Stands k p n text
token_goes text p n k h e w =
    let v = subst (λ (l : List ℕ). (n ≤ length l) × (is_more k ≡ true → 0 < n)) (rest p text h) w in
    let f : front (drop p text) ≡ Begins k n = sym (ap front (rest p text h)) ∙ e in
    (token_front p n k (drop p text) f v.0 v.1, record { within = omega (arith, v.0, length-drop p text); some = v.1; fits = subst (Fitting (drop p text)) f (front_fits (drop p text)) })

-- a byte that is kept, and the second of a pair
pub kept_byte : (v w bytes : List ℕ) (i : ℕ) → i < length bytes → w ≡ v ++ get_or bytes i 0 ∷ [] → w ++ undoubled (nat_eq (get_or bytes i 0) 34) (drop (i + 1) bytes) ≡ v ++ undoubled false (drop i bytes)
kept_byte v w bytes i h e =
    let f : drop i bytes ≡ get_or bytes i 0 ∷ drop (suc i) bytes = drop-cons bytes i 0 h in
    let g : i + 1 ≡ suc i = omega arith in
    ap (λ l. l ++ undoubled (nat_eq (get_or bytes i 0) 34) (drop (i + 1) bytes)) e ∙ append_assoc v (get_or bytes i 0 ∷ []) (undoubled (nat_eq (get_or bytes i 0) 34) (drop (i + 1) bytes)) ∙ ap (λ j. v ++ get_or bytes i 0 ∷ undoubled (nat_eq (get_or bytes i 0) 34) (drop j bytes)) g ∙ sym (ap (λ l. v ++ undoubled false l) f)

pub second_byte : (v bytes : List ℕ) (i : ℕ) → i < length bytes → v ++ undoubled false (drop (i + 1) bytes) ≡ v ++ undoubled true (drop i bytes)
second_byte v bytes i h =
    let f : drop i bytes ≡ get_or bytes i 0 ∷ drop (suc i) bytes = drop-cons bytes i 0 h in
    let g : i + 1 ≡ suc i = omega arith in
    ap (λ j. v ++ undoubled false (drop j bytes)) g ∙ sym (ap (λ l. v ++ undoubled true l) f)

-- the bytes up to a line feed, or to the end, are the first line
line_first : (passed bs : List ℕ) → 0 < length (passed ++ bs) → lines_after passed bs ≡ without_cr (passed ++ take (prefix_len no_line_end bs) bs) ∷ lines_after [] (drop (min (length bs) (prefix_len no_line_end bs + 1)) bs)
line_first [] [] h = absurd (omega arith)
line_first (c ∷ cs) [] h = ap (λ p. without_cr p ∷ []) (sym (append-nil (c ∷ cs)))
line_first passed (b ∷ bs) h = by (b == 10) (line_first (passed ++ b ∷ []) bs (omega (arith, length-append (passed ++ b ∷ []) bs, length-append passed (b ∷ []))))
  where
    by : (o : Bool) → lines_after (passed ++ b ∷ []) bs ≡ without_cr ((passed ++ b ∷ []) ++ take (prefix_len no_line_end bs) bs) ∷ lines_after [] (drop (min (length bs) (prefix_len no_line_end bs + 1)) bs) → cond o (without_cr passed ∷ lines_after [] bs) (lines_after (passed ++ b ∷ []) bs) ≡ without_cr (passed ++ take (cond (not o) (1 + prefix_len no_line_end bs) 0) (b ∷ bs)) ∷ lines_after [] (drop (min (length (b ∷ bs)) (cond (not o) (1 + prefix_len no_line_end bs) 0 + 1)) (b ∷ bs))
    by true rec =
        let f : 1 ≡ min (length (b ∷ bs)) (0 + 1) = omega arith in
        ap (λ p. without_cr p ∷ lines_after [] bs) (sym (append-nil passed)) ∙ ap (λ n. without_cr (passed ++ []) ∷ lines_after [] (drop n (b ∷ bs))) f
    by false rec =
        let e : suc (prefix_len no_line_end bs) ≡ 1 + prefix_len no_line_end bs = omega arith in
        let f : suc (min (length bs) (prefix_len no_line_end bs + 1)) ≡ min (length (b ∷ bs)) (1 + prefix_len no_line_end bs + 1) = omega arith in
        rec ∙ ap (λ p. without_cr p ∷ lines_after [] (drop (min (length bs) (prefix_len no_line_end bs + 1)) bs)) (append_assoc passed (b ∷ []) (take (prefix_len no_line_end bs) bs))
        ∙ ap (λ n. without_cr (passed ++ take n (b ∷ bs)) ∷ lines_after [] (drop (min (length bs) (prefix_len no_line_end bs + 1)) bs)) e
        ∙ ap (λ n. without_cr (passed ++ take (1 + prefix_len no_line_end bs) (b ∷ bs)) ∷ lines_after [] (drop n (b ∷ bs))) f

lines_cut : (rest : List ℕ) (n behind : ℕ) → n ≡ length (take_while no_line_end rest) → 0 < length rest → behind ≡ min (length rest) (n + 1) → lines rest ≡ without_cr (take n rest) ∷ lines (drop behind rest)
lines_cut rest n behind h k p =
    let e : prefix_len no_line_end rest ≡ n = sym (h ∙ length-prefix_len no_line_end rest) in
    line_first [] rest k ∙ ap (λ m. without_cr (take m rest) ∷ lines (drop (min (length rest) (m + 1)) rest)) e ∙ ap (λ m. without_cr (take n rest) ∷ lines (drop m rest)) (sym p)

-- all but a carriage return at the end
pub ended : (xs : List ℕ) (k : ℕ) (o : Bool) → length xs ≡ suc k → nat_eq (get_or xs k 0) 13 ≡ o → take (cond o k (suc k)) xs ≡ without_cr xs
ended [] k o h e = absurd (omega arith)
ended (b ∷ []) zero true h e = ap (λ p. cond p [] (b ∷ [])) (sym e)
ended (b ∷ []) zero false h e = ap (λ p. cond p [] (b ∷ [])) (sym e)
ended (b ∷ []) (suc k) o h e = absurd (omega arith)
ended (b ∷ c ∷ bs) zero o h e = absurd (omega arith)
ended (b ∷ c ∷ bs) (suc k) true h e = ap (λ l. b ∷ l) (ended (c ∷ bs) k true (omega arith) e)
ended (b ∷ c ∷ bs) (suc k) false h e = ap (λ l. b ∷ l) (ended (c ∷ bs) k false (omega arith) e)

cuts : (script : List ℕ) (from : ℕ) (r : List ℕ) (n kept behind : ℕ) → r ≡ drop from script → from < length script → n ≡ length (take_while no_line_end r) → n ≤ length r → kept ≤ n → take kept (take n r) ≡ without_cr (take n r) → behind ≡ min (length r) (n + 1) → Cuts script from (record { start = from; end = from + kept; next = from + behind })
cuts script from r n kept behind f h e w k t p =
    let len : length r ≡ length script - from = ap length f ∙ length-drop from script in
    record {
      starts = refl;
      ordered = omega arith;
      forward = (omega arith, omega arith);
      within = omega arith;
      next = omega (arith, h, p, len, ap (λ l. length (first_line l)) f);
      cut = ap lines (sym f) ∙ lines_cut r n behind e (omega arith) p ∙ ap (λ l. l ∷ lines (drop behind r)) (sym t ∙ shorter) ∙ ap (λ l. take (from + kept - from) (drop from script) ∷ lines l) (ap (drop behind) f ∙ drop-drop behind from script);
    }
  where
    shorter : take kept (take n r) ≡ take (from + kept - from) (drop from script)
    shorter = let s : from + kept - from ≡ kept = omega arith in take-take kept n r k ∙ ap (take kept) f ∙ ap (λ m. take m (drop from script)) (sym s)

pub cuts_slice : (script : List ℕ) (from n kept behind : ℕ) → from ≤ length script → (from ≡ length script → ⊥) → n ≡ length (take_while no_line_end (take (length script - from) (drop from script))) → n ≤ length (take (length script - from) (drop from script)) → kept ≤ length (take n (take (length script - from) (drop from script))) → take kept (take n (take (length script - from) (drop from script))) ≡ without_cr (take n (take (length script - from) (drop from script))) → behind ≡ min (length (take (length script - from) (drop from script))) (n + 1) → Cuts script from (record { start = from; end = from + kept; next = from + behind })
cuts_slice script from n kept behind h z e w k t p =
    cuts script from (take (length script - from) (drop from script)) n kept behind (take_all (length script - from) (drop from script) (omega (arith, length-drop from script))) (omega arith) e w (omega (arith, length-take n (take (length script - from) (drop from script)))) t p

pub cr_kept : (xs : List ℕ) → 0 < length xs → get_or xs (length xs - 1) 0 ≡ 13 → take (length xs - 1) xs ≡ without_cr xs
cr_kept xs h e = ended xs (length xs - 1) true (omega arith) (grind (arith, e))

pub no_cr_kept : (xs : List ℕ) → 0 < length xs → (get_or xs (length xs - 1) 0 ≡ 13 → ⊥) → take (length xs) xs ≡ without_cr xs
no_cr_kept xs h e =
    let f : length xs ≡ suc (length xs - 1) = omega arith in
    ap (λ n. take n xs) f ∙ ended xs (length xs - 1) false f (grind (arith, e))
