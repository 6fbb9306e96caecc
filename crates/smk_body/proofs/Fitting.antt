-- The rows of a step fit the kinds of its output.
use Rattle.std.proofs.{Common.{◌≡◌, ◌∙◌, ◌<◌, ◌≤◌, ◌+◌, ◌*◌, ◌^◌, ℕ, zero, suc, ℤ, pos, neg_ℤ, ◌+ℤ◌, ◌≤ℤ◌, List, [], ◌∷◌, length, refl, ap, arith, All, get_or}, lemmas.Int.ints, Math.Nat.{pow-le-pow_right, mul-le-mul_left}, lemmas.Nat.pow-add, lemmas.List.Elements.All-cons}
use Rattle.std.specs.List.{AllZip, fold}
use Rattle.smk_base.specs.declared.value.Value.TheVariants as values
use Rattle.smk_base.specs.{declared.value.Kind.Kind, Rels.{IsWithin, Fits, RowFits, IsColumn, kind_in}}
use Rattle.smk_base.specs.declared.value.Kind.TheVariants as kinds
use Rattle.smk_base.proofs.RelRows.{AllZip-at}
use Rattle.smk_model.specs.{Values.{Row, value_at}, Plain.total, Kinds.{AreAlike, wider, wider_kinds}}

-- at most m in size
abbrev pub Between : ℕ → ℤ → Type 0
Between m n = (neg_ℤ (pos m) ≤ℤ n) × (n ≤ℤ pos m)

between_more : (m o : ℕ) (n : ℤ) → m ≤ o → Between m n → Between o n
between_more m o n h w = (omega (arith, ints), omega (arith, ints))

-- a value of a row that fits
pub value_fits : (columns : List Kind) (row : Row) (c : ℕ) → RowFits columns row → c < length columns → Fits (kind_in columns c) (value_at row c)
value_fits columns row c r f = AllZip-at Fits columns row c kinds.Text (values.Int (pos 0)) r f

-- the head and the rest of what holds of each
pub All-head : {X : Type 0} (P : X → Type 0) (x : X) (xs : List X) → All P (x ∷ xs) → P x
All-head P x xs h = h 0 x (omega arith)

pub All-rest : {X : Type 0} (P : X → Type 0) (x : X) (xs : List X) → All P (x ∷ xs) → All P xs
All-rest P x xs h = λ k d l. h (suc k) d (omega arith)

-- a higher level holds the values of a lower one
pub within_more : (a b : ℕ) (n : ℤ) → a ≤ b → IsWithin a n → IsWithin b n
within_more zero zero n h w = w
within_more zero (suc b) n h w =
    between_more (2 ^ 63) (2 ^ (63 + 20 * suc b)) n (pow-le-pow_right {n = 2} (omega arith) {i = 63} {j = 63 + 20 * suc b} (omega arith)) (omega (arith, ints), omega (arith, ints))
within_more (suc a) zero n h w = absurd (omega arith)
within_more (suc a) (suc b) n h w =
    between_more (2 ^ (63 + 20 * suc a)) (2 ^ (63 + 20 * suc b)) n (pow-le-pow_right {n = 2} (omega arith) {i = 63 + 20 * suc a} {j = 63 + 20 * suc b} (omega arith)) w

-- the size of a value of a level
pub within_between : (k : ℕ) (n : ℤ) → IsWithin k n → Between (2 ^ (63 + 20 * k)) n
within_between zero n w = (omega (arith, ints), omega (arith, ints))
within_between (suc k) n w = w

sum_between : (m c : ℕ) (a : ℤ) (ns : List ℤ) → Between (c * m) a → All (Between m) ns → Between ((c + length ns) * m) (fold ◌+ℤ◌ a ns)
sum_between m c a [] h all = let e : c + 0 ≡ c = omega arith in rw e h
sum_between m c a (n ∷ ns) h all =
    let e : c + suc (length ns) ≡ (c + 1) + length ns = omega arith in
    let one : Between m n = All-head (Between m) n ns all in
    rw e (sum_between m (c + 1) (a +ℤ n) ns (omega (arith, ints), omega (arith, ints)) (All-rest (Between m) n ns all))

-- the sum of few values of a level is of the next level
pub total_within : (k : ℕ) (ns : List ℤ) → All (IsWithin k) ns → length ns ≤ 1048576 → IsWithin (suc k) (total ns)
total_within k ns all few =
    let m = 2 ^ (63 + 20 * k) in
    let bound : Between ((0 + length ns) * m) (total ns) = sum_between m 0 (pos 0) ns (omega (arith, ints), omega (arith, ints)) (λ i d l. within_between k (get_or ns i d) (all i d l)) in
    let e : 63 + 20 * suc k ≡ (63 + 20 * k) + 20 = omega arith in
    let next : 2 ^ (63 + 20 * suc k) ≡ m * 1048576 = ap (λ z. 2 ^ z) e ∙ pow-add 2 (63 + 20 * k) 20 in
    between_more ((0 + length ns) * m) (2 ^ (63 + 20 * suc k)) (total ns) (rw next (omega (arith, mul-le-mul_left m few))) bound

wider_column : (k j : Kind) → IsColumn k → IsColumn j → IsColumn (wider k j)
wider_column (kinds.Int a) (kinds.Int b) h f = omega arith
wider_column _ _ h f = h

pub wider_columns : (ls rs : List Kind) → All IsColumn ls → All IsColumn rs → All IsColumn (wider_kinds ls rs)
wider_columns [] rs h f = h
wider_columns (k ∷ ls) [] h f = f
wider_columns (k ∷ ls) (j ∷ rs) h f = All-cons IsColumn (wider k j) (wider_kinds ls rs) (wider_column k j (All-head IsColumn k ls h) (All-head IsColumn j rs f)) (wider_columns ls rs (All-rest IsColumn k ls h) (All-rest IsColumn j rs f))

pub length-wider_kinds : (ls rs : List Kind) → AllZip AreAlike ls rs → length (wider_kinds ls rs) ≡ length ls
length-wider_kinds [] rs h = refl
length-wider_kinds (k ∷ ls) [] h = absurd h
length-wider_kinds (k ∷ ls) (j ∷ rs) h = ap suc (length-wider_kinds ls rs h.1)

pub kind_in-wider_kinds : (ls rs : List Kind) (c : ℕ) → AllZip AreAlike ls rs → c < length ls → kind_in (wider_kinds ls rs) c ≡ wider (kind_in ls c) (kind_in rs c)
kind_in-wider_kinds [] rs c h l = absurd (omega arith)
kind_in-wider_kinds (k ∷ ls) [] c h l = absurd h
kind_in-wider_kinds (k ∷ ls) (j ∷ rs) zero h l = refl
kind_in-wider_kinds (k ∷ ls) (j ∷ rs) (suc c) h l = kind_in-wider_kinds ls rs c h.1 (omega arith)
