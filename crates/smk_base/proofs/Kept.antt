-- What the bulk calls keep of a column.
use Rattle.std.proofs.{Common.{◌≡◌, ◌≢◌, ℕ, zero, suc, ◌+◌, ◌*◌, ◌^◌, ◌/◌, ◌<◌, ◌≤◌, ℤ, pos, negsuc, neg_ℤ, ◌≤ℤ◌, List, [], ◌∷◌, ◌++◌, length, map, get_or, refl, ◌∙◌, arith, All, FitsSigned}, lemmas.Int.ints, Math.Nat.{div-le_self, pow-le-pow_right}, lemmas.List.{get_or-map, length-map, length-append}, lemmas.List.Elements.{All-append, All-map, All-weaker, All-tail}}
use Rattle.std.specs.Int.{w64, int_div_euclid}
use Rattle.smk_base.specs.{declared.value.Kind.Kind, declared.value.Value.Value, Rels.{IsWithin, IsWider, Fits, value_in, bin_of}, Images.ColumnImage, Columns.IsColumnOf}
use Rattle.smk_base.specs.declared.value.Kind.TheVariants as kinds
use Rattle.smk_base.specs.declared.value.Value.TheVariants as values

-- a column with the same values
pub IsColumnOf-same : (n : ℕ) (column now : ColumnImage) → now.kind ≡ column.kind → now.cells ≡ column.cells → IsColumnOf n column → IsColumnOf n now
IsColumnOf-same n column now kind cells is = record { long = rw cells is.long; few = is.few; low = rw kind is.low; fit = rw (kind, cells) is.fit }

-- the images of the items at these places are the images at these places
pub map-gather : {A : Type 0} (f : A → Value) (items : List A) (d : A) (places : List ℕ) → All (λ place. place < length (map f items)) places
    → map f (map (λ place. get_or items place d) places) ≡ map (value_in (map f items)) places
map-gather f items d [] h = refl
map-gather f items d (p ∷ ps) h =
    let here : value_in (map f items) p ≡ f (get_or items p d) = get_or-map f items p d (values.Int (pos 0)) (omega (arith, length-map items f, h 0 0 (omega arith))) in
    let rest = map-gather f items d ps (All-tail (λ place. place < length (map f items)) p ps h) in
    rw (here, rest) refl

pub IsColumnOf-gather : (column made : ColumnImage) (n : ℕ) (places : List ℕ) → IsColumnOf n column → made.kind ≡ column.kind → made.cells ≡ map (value_in column.cells) places
    → All (λ place. place < length column.cells) places → length places ≤ 1048576 → IsColumnOf (length places) made
IsColumnOf-gather column made n places is kind cells within few = record {
  long = rw cells (length-map places (value_in column.cells));
  few = few;
  low = rw kind is.low;
  fit = rw (kind, cells) (All-map (Fits column.kind) (value_in column.cells) places (λ k d p. is.fit (get_or places k d) (values.Int (pos 0)) (within k d p)));
}

-- at most m in size
abbrev Between : ℕ → ℤ → Type 0
Between m n = (neg_ℤ (pos m) ≤ℤ n) × (n ≤ℤ pos m)

between-more : (m k : ℕ) (n : ℤ) → m ≤ k → Between m n → Between k n
between-more m k n h w = (omega (arith, ints), omega (arith, ints))

pub Within-wider : (a b : ℕ) (n : ℤ) → b ≤ a → IsWithin b n → IsWithin a n
Within-wider zero zero n h w = w
Within-wider zero (suc b) n h w = absurd (omega arith)
Within-wider (suc a) zero n h w =
    between-more (2 ^ 63) (2 ^ (63 + 20 * suc a)) n (pow-le-pow_right {n = 2} (omega arith) {i = 63} {j = 63 + 20 * suc a} (omega arith)) (omega (arith, ints), omega (arith, ints))
Within-wider (suc a) (suc b) n h w =
    between-more (2 ^ (63 + 20 * suc b)) (2 ^ (63 + 20 * suc a)) n (pow-le-pow_right {n = 2} (omega arith) {i = 63 + 20 * suc b} {j = 63 + 20 * suc a} (omega arith)) w

-- ints that fit are in the range of their level
pub ints_within : (level : ℕ) (numbers : List ℤ) → All (Fits (kinds.Int level)) (map values.Int numbers) → All (IsWithin level) numbers
ints_within level numbers fit k d p =
    let at : get_or (map values.Int numbers) k (values.Int d) ≡ values.Int (get_or numbers k d) = get_or-map values.Int numbers k d (values.Int d) p in
    let here : k < length (map values.Int numbers) = omega (arith, length-map numbers values.Int) in
    rw at at (fit k (values.Int d) here)

-- no int fits a text, and no text an int
pub no_ints : (numbers : List ℤ) → All (Fits kinds.Text) (map values.Int numbers) → map values.Int numbers ≡ []
no_ints [] fit = refl
no_ints (n ∷ ns) fit = absurd (fit 0 (values.Int n) (omega arith))

pub no_texts : (level : ℕ) (texts : List (List ℕ)) → All (Fits (kinds.Int level)) (map values.Text texts) → map values.Text texts ≡ []
no_texts level [] fit = refl
no_texts level (t ∷ ts) fit = absurd (fit 0 (values.Text t) (omega arith))

-- ints of a level that is no wider than 0 are small
pub all-small : (level : ℕ) (numbers : List ℤ) → level ≤ 0 → All (Fits (kinds.Int level)) (map values.Int numbers) → All (λ number. FitsSigned w64 number) numbers
all-small zero numbers h fit k d p = ints_within 0 numbers fit k d p
all-small (suc level) numbers h fit k d p = absurd (omega arith)

pub Fits-wider : (a b : Kind) (v : Value) → IsWider a b → Fits b v → Fits a v
Fits-wider (kinds.Int a) (kinds.Int b) (values.Int n) wider fits = Within-wider a b n wider fits
Fits-wider (kinds.Int a) (kinds.Int b) (values.Text t) wider fits = absurd fits
Fits-wider kinds.Text kinds.Text v wider fits = fits
Fits-wider _ _ v wider fits = absurd wider

pub IsColumnOf-append : (column other made : ColumnImage) (n m : ℕ) → IsColumnOf n column → IsColumnOf m other → IsWider column.kind other.kind → made.kind ≡ column.kind → made.cells ≡ column.cells ++ other.cells
    → n + m ≤ 1048576 → IsColumnOf (n + m) made
IsColumnOf-append column other made n m a b wider kind cells few = record {
  long = rw cells (omega (arith, length-append column.cells other.cells, a.long, b.long));
  few = few;
  low = rw kind a.low;
  fit = rw (kind, cells) (All-append (Fits column.kind) column.cells other.cells a.fit (All-weaker (Fits other.kind) (Fits column.kind) (λ v h. Fits-wider column.kind other.kind v wider h) other.cells b.fit));
}

pub IsColumnOf-ints : (level : ℕ) (numbers : List ℤ) (made : ColumnImage) → level ≤ 3 → length numbers ≤ 1048576 → All (IsWithin level) numbers → made.kind ≡ kinds.Int level → made.cells ≡ map values.Int numbers
    → IsColumnOf (length numbers) made
IsColumnOf-ints level numbers made low few within kind cells = record {
  long = rw cells (length-map numbers values.Int);
  few = few;
  low = rw kind low;
  fit = rw (kind, cells) (All-map (Fits (kinds.Int level)) values.Int numbers within);
}

-- counts are in the range of the lowest level
pub counts_within : (counts : List ℕ) → All (λ n. n < 4294967296) counts → All (IsWithin 0) (map pos counts)
counts_within counts small = All-map (IsWithin 0) pos counts (λ k d h. omega (arith, ints, small k d h))

below_between : (m a q : ℕ) → q ≤ a → Between m (pos a) → Between m (pos q)
below_between m a q h w = (omega (arith, ints), omega (arith, ints))

above_between : (m a q : ℕ) → q ≤ a → Between m (negsuc a) → Between m (negsuc q)
above_between m a q h w = (omega (arith, ints), omega (arith, ints))

within_below : (k a q : ℕ) → q ≤ a → IsWithin k (pos a) → IsWithin k (pos q)
within_below zero a q h w = omega (arith, ints)
within_below (suc k) a q h w = below_between (2 ^ (63 + 20 * suc k)) a q h w

within_above : (k a q : ℕ) → q ≤ a → IsWithin k (negsuc a) → IsWithin k (negsuc q)
within_above zero a q h w = omega (arith, ints)
within_above (suc k) a q h w = above_between (2 ^ (63 + 20 * suc k)) a q h w

-- the number of a bin is in the range of the level
pub Within-bin : (k : ℕ) (n w : ℤ) → IsWithin k n → pos 1 ≤ℤ w → IsWithin k (int_div_euclid n w)
Within-bin k (pos a) (pos b) f h = within_below k a (a / b) (div-le_self a b) f
Within-bin k (negsuc a) (pos b) f h = within_above k a (a / b) (div-le_self a b) f
Within-bin k _ (negsuc b) f h = absurd (omega (arith, ints))

Fits-bin : (k : Kind) (v : Value) (w : ℤ) → Fits k v → k ≢ kinds.Text → pos 1 ≤ℤ w → Fits k (bin_of w v)
Fits-bin (kinds.Int level) (values.Int n) w fits int h = Within-bin level n w fits h
Fits-bin (kinds.Int level) (values.Text t) w fits int h = absurd fits
Fits-bin kinds.Text v w fits int h = absurd (int refl)

pub IsColumnOf-bins : (column made : ColumnImage) (n : ℕ) (w : ℤ) → IsColumnOf n column → column.kind ≢ kinds.Text → pos 1 ≤ℤ w → made.kind ≡ column.kind → made.cells ≡ map (bin_of w) column.cells → IsColumnOf n made
IsColumnOf-bins column made n w is int h kind cells = record {
  long = rw cells (length-map column.cells (bin_of w) ∙ is.long);
  few = is.few;
  low = rw kind is.low;
  fit = rw (kind, cells) (All-map (Fits column.kind) (bin_of w) column.cells (All-weaker (Fits column.kind) (λ v. Fits column.kind (bin_of w v)) (λ v f. Fits-bin column.kind v w f int h) column.cells is.fit));
}

-- the bins of numbers are those of their values
pub map-bins : (w : ℤ) (numbers : List ℤ) → map values.Int (map (λ n. int_div_euclid n w) numbers) ≡ map (bin_of w) (map values.Int numbers)
map-bins w [] = refl
map-bins w (n ∷ ns) = rw (map-bins w ns) refl
