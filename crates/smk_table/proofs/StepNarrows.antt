-- A step over the columns that it reads makes the wanted columns, by the same places.
use Rattle.std.proofs.{Common.{◌≡◌, ◌∙◌, ◌+◌, ◌<◌, ℕ, suc, Bool, true, List, [], ◌∷◌, ◌++◌, length, map, filter, get_or, not, All, ◌&&◌, ◌||◌, refl, sym, ap, ap₂, subst, arith, nat_eq, eq-eqb}, lemmas.Bool.{or_left, or_right}, lemmas.List.{get_or-map, length-map, length-append}, lemmas.List.Elements.{filter_agree, All-map}, lemmas.List.Folds.list_any_at}
use Rattle.std.specs.List.{list_any}
use Rattle.smk_base.specs.{Places.{Lists, has, upto, places}, Plans.{Formula, Comparison, Conjunction, Disjunction, Negation, Unary, Selection, Projection, Distinction, Grouping, Binary, Equijoin, ThetaJoin, CrossProduct, BagUnion, SetUnion}, Rels.{kind_in, picked}, declared.value.Kind.Kind, declared.book.plan.Item.Item, declared.book.plan.Operand.Operand}
use Rattle.smk_base.specs.declared.value.Kind.TheVariants as kinds
use Rattle.smk_base.specs.declared.book.plan.Item.TheVariants as items
use Rattle.smk_base.specs.declared.book.plan.Operand.TheVariants as operands
use Rattle.smk_model.specs.{Values.{Row, meets, operand_at, value_cmp, holds}, Plain.{agree, meets_together, always, nested, firsts, step1, step2}, Kinds.{AreAlike, ItemFits, ItemsFit, OperandFits, FormulaFits, PairFits, JoinFits, Fits1, Fits2, FewTogether, kinds1, kinds2}, Lineage.{row_at, meeting, matching, lefts_of, rights_of}, Locals.{back_lists, back1, fwd1, back_left, fwd_left, back_right, fwd_right}, Ways.{Way, Own, Sources, back_of, fwd_of, reaches, way, left_way, right_way, IsOf}}
use Rattle.smk_base.proofs.Places.{filter_map, map_map, same_below, places_below, few_places, map_upto}
use Rattle.smk_model.proofs.{Parts.places_add, Bulk.bulk, Directions.length_each, Ways.lineage_of_ways}
use Rattle.smk_table.specs.{Named.{is_of, place_of, pair_among, behind, is_paired}, Wanted.{AreWide, in_operand, in_formula, operand_among, formula_among, is_read, below, among1, after1, is_met, below_left, below_right, among2, after2}}
use Rattle.smk_table.proofs.{Narrows.{HasItem, each_agrees, each_fits, value_there, kind_there, long_there, images_there, item_kinds, items_fit, keys_there, group_rows, group_kinds, group_fits, has_passing, has_keys, has_aggs}, JoinNarrows.{SameTest, read_behind, nested_there, matching_there}}

-- columns among others

pub kinds_there : (read cols : List ℕ) (ks : List Kind) → All (λ c. has read c ≡ true) cols → map (kind_in (map (kind_in ks) read)) (map (place_of read) cols) ≡ map (kind_in ks) cols
kinds_there read cols ks all = map_map (kind_in (map (kind_in ks) read)) (place_of read) cols ∙ each_agrees (λ c. has read c ≡ true) (λ c. kind_in (map (kind_in ks) read) (place_of read c)) (kind_in ks) cols all (kind_there read ks)

inside_there : (read cols : List ℕ) (ks : List Kind) → All (λ c. has read c ≡ true) cols → All (λ c. c < length (map (kind_in ks) read)) (map (place_of read) cols)
inside_there read cols ks all = All-map (λ c. c < length (map (kind_in ks) read)) (place_of read) cols (λ k d low. long_there read ks (get_or cols k d) (all k d low))

has_wanted : (t : ℕ → Bool) (n : ℕ) (cols : List ℕ) → All (λ c. c < n) cols → ((c : ℕ) → has cols c ≡ true → t c ≡ true) → All (λ c. has (places t n) c ≡ true) cols
has_wanted t n cols inside h k d low =
    let c = get_or cols k d in
    has_passing t n c (inside k d low) (h c (list_any_at (nat_eq c) cols k d low (eq-eqb c c refl)))

-- formulas

abbrev HasOperand : List ℕ → Operand → Type 0
HasOperand cols (operands.Col c) = has cols c ≡ true
HasOperand cols (operands.Lit v) = Unit {0}

abbrev HasFormula : List ℕ → Formula → Type 0
HasFormula cols (Comparison c op right) = (has cols c ≡ true) × HasOperand cols right
HasFormula cols (Conjunction a b) = HasFormula cols a × HasFormula cols b
HasFormula cols (Disjunction a b) = HasFormula cols a × HasFormula cols b
HasFormula cols (Negation a) = HasFormula cols a

operand_there : (cols : List ℕ) (row : Row) (right : Operand) → HasOperand cols right → operand_at (picked cols row) (operand_among cols right) ≡ operand_at row right
operand_there cols row (operands.Col c) h = value_there cols row c h
operand_there cols row (operands.Lit v) h = refl

meets_there : (cols : List ℕ) (formula : Formula) (row : Row) → HasFormula cols formula → meets (formula_among cols formula) (picked cols row) ≡ meets formula row
meets_there cols (Comparison c op right) row h = ap₂ (λ a b. holds op (value_cmp a b)) (value_there cols row c h.0) (operand_there cols row right h.1)
meets_there cols (Conjunction a b) row h = ap₂ (λ x y. x && y) (meets_there cols a row h.0) (meets_there cols b row h.1)
meets_there cols (Disjunction a b) row h = ap₂ (λ x y. x || y) (meets_there cols a row h.0) (meets_there cols b row h.1)
meets_there cols (Negation a) row h = ap not (meets_there cols a row h)

operand_fits : (cols : List ℕ) (ks : List Kind) (left : Kind) (right : Operand) → HasOperand cols right → OperandFits ks left right → OperandFits (map (kind_in ks) cols) left (operand_among cols right)
operand_fits cols ks left (operands.Col c) h fits = (long_there cols ks c h, subst (AreAlike left) (sym (kind_there cols ks c h)) fits.1)
operand_fits cols ks left (operands.Lit v) h fits = fits

formula_fits : (cols : List ℕ) (ks : List Kind) (formula : Formula) → HasFormula cols formula → FormulaFits ks formula → FormulaFits (map (kind_in ks) cols) (formula_among cols formula)
formula_fits cols ks (Comparison c op right) h fits = (long_there cols ks c h.0, rw (kind_there cols ks c h.0) (operand_fits cols ks (kind_in ks c) right h.1 fits.1))
formula_fits cols ks (Conjunction a b) h fits = (formula_fits cols ks a h.0 fits.0, formula_fits cols ks b h.1 fits.1)
formula_fits cols ks (Disjunction a b) h fits = (formula_fits cols ks a h.0 fits.0, formula_fits cols ks b h.1 fits.1)
formula_fits cols ks (Negation a) h fits = formula_fits cols ks a h fits

operand_has : (t : ℕ → Bool) (ks : List Kind) (left : Kind) (right : Operand) → OperandFits ks left right → ((c : ℕ) → in_operand c right ≡ true → t c ≡ true) → HasOperand (places t (length ks)) right
operand_has t ks left (operands.Col c) fits h = has_passing t (length ks) c fits.0 (h c (eq-eqb c c refl))
operand_has t ks left (operands.Lit v) fits h = tt

formula_has : (t : ℕ → Bool) (ks : List Kind) (formula : Formula) → FormulaFits ks formula → ((c : ℕ) → in_formula c formula ≡ true → t c ≡ true) → HasFormula (places t (length ks)) formula
formula_has t ks (Comparison c op right) fits h = (
  has_passing t (length ks) c fits.0 (h c (or_left (nat_eq c c) (in_operand c right) (eq-eqb c c refl))),
  operand_has t ks (kind_in ks c) right fits.1 (λ x e. h x (or_right (nat_eq x c) (in_operand x right) e)),
)
formula_has t ks (Conjunction a b) fits h = (formula_has t ks a fits.0 (λ c e. h c (or_left (in_formula c a) (in_formula c b) e)), formula_has t ks b fits.1 (λ c e. h c (or_right (in_formula c a) (in_formula c b) e)))
formula_has t ks (Disjunction a b) fits h = (formula_has t ks a fits.0 (λ c e. h c (or_left (in_formula c a) (in_formula c b) e)), formula_has t ks b fits.1 (λ c e. h c (or_right (in_formula c a) (in_formula c b) e)))
formula_has t ks (Negation a) fits h = formula_has t ks a fits h

-- output columns

item_has : (t : ℕ → Bool) (ks : List Kind) (item : Item) → ItemFits ks item → ((c : ℕ) → is_of c item ≡ true → t c ≡ true) → HasItem (places t (length ks)) item
item_has t ks (items.Col c) fits h = has_passing t (length ks) c fits (h c (eq-eqb c c refl))
item_has t ks (items.Bin c w) fits h = has_passing t (length ks) c fits.0 (h c (eq-eqb c c refl))

items_has : (of : List Item) (ks : List Kind) → ItemsFit ks of → All (HasItem (places (λ c. list_any (is_of c) of) (length ks))) of
items_has of ks fits k d low = item_has (λ c. list_any (is_of c) of) ks (get_or of k d) (fits.each k d low) (λ c e. list_any_at (is_of c) of k d low e)

-- a step with one input

-- the new step over the new input makes the wanted columns, by the same places
pub record Narrows1 (op new : Unary) (ks js : List Kind) (L M : List Row) (after cols : List ℕ) : Type 0 where
  pub fits : Fits1 new js
  pub kinds : map (kind_in (kinds1 new js)) after ≡ map (kind_in (kinds1 op ks)) cols
  pub inside : All (λ c. c < length (kinds1 new js)) after
  pub rows : map (picked after) (step1 new M) ≡ map (picked cols) (step1 op L)
  pub long : length (step1 new M) ≡ length (step1 op L)
  pub back : back1 new M ≡ back1 op L
  pub fwd : fwd1 new M ≡ fwd1 op L

-- by the same way a side has the same lists, and so the step as many rows
same_lists : {w v : Way} {a b c d : Lists} → w ≡ v → IsOf w a b → IsOf v c d → (a ≡ c) × (b ≡ d)
same_lists e is was = (is.backward ∙ ap back_of e ∙ sym was.backward, is.forward ∙ ap fwd_of e ∙ sym was.forward)

same_count : (f g : ℕ → List ℕ) (m n k l : ℕ) → back_lists f m k ≡ back_lists g n l → m ≡ n
same_count f g m n k l e = sym (length_each f m) ∙ ap (λ (a : Lists). length a.lists) e ∙ length_each g n

by_way : (op new : Unary) (ks js : List Kind) (L M : List Row) (after cols : List ℕ) → Fits1 new js → map (kind_in (kinds1 new js)) after ≡ map (kind_in (kinds1 op ks)) cols → All (λ c. c < length (kinds1 new js)) after
    → map (picked after) (step1 new M) ≡ map (picked cols) (step1 op L) → way new M ≡ way op L → Narrows1 op new ks js L M after cols
by_way op new ks js L M after cols fits kinds inside rows e =
    let lists = same_lists e (lineage_of_ways.one new M) (lineage_of_ways.one op L) in
    record { fits = fits; kinds = kinds; inside = inside; rows = rows; long = same_count _ _ _ _ _ _ lists.0; back = lists.0; fwd = lists.1 }

-- a step that makes all its columns anew
remade : (op new : Unary) (ks js : List Kind) (L M : List Row) (cols : List ℕ) → Fits1 new js → kinds1 new js ≡ kinds1 op ks → step1 new M ≡ step1 op L → way new M ≡ way op L → All (λ c. c < length (kinds1 op ks)) cols
    → Narrows1 op new ks js L M cols cols
remade op new ks js L M cols fits kinds rows e inside =
    by_way op new ks js L M cols cols fits (ap (λ (z : List Kind). map (kind_in z) cols) kinds) (subst (λ (z : List Kind). All (λ c. c < length z) cols) (sym kinds) inside) (ap (map (picked cols)) rows) e

selected : (formula : Formula) (ks : List Kind) (L : List Row) (cols : List ℕ) → FormulaFits ks formula → All (λ c. c < length ks) cols
    → let read = below (Selection formula) cols (length ks) in Narrows1 (Selection formula) (among1 (Selection formula) read) ks (map (kind_in ks) read) L (map (picked read) L) (map (place_of read) cols) cols
selected formula ks L cols fits inside =
    let op = Selection formula in
    let read = below op cols (length ks) in
    let new = Selection (formula_among read formula) in
    let M = map (picked read) L in
    let has_f : HasFormula read formula = formula_has (is_read op cols) ks formula fits (λ c e. or_right (has cols c) (in_formula c formula) e) in
    let has_c : All (λ c. has read c ≡ true) cols = has_wanted (is_read op cols) (length ks) cols inside (λ c e. or_left (has cols c) (in_formula c formula) e) in
    let test = meets (formula_among read formula) in
    let kept = filter (meets formula) L in
    let met : filter test M ≡ map (picked read) kept = filter_map test (picked read) L ∙ ap (map (picked read)) (filter_agree (λ row. test (picked read row)) (meets formula) (λ row. meets_there read formula row has_f) L) in
    let count = length-map L (picked read) in
    let same : meeting (formula_among read formula) M ≡ meeting formula L = ap (places (λ i. test (row_at M i))) count
    ∙ same_below (λ i. test (row_at M i)) (λ i. meets formula (row_at L i)) (length L) (λ i h. ap test (get_or-map (picked read) L i [] [] h) ∙ meets_there read formula (row_at L i) has_f) in
    by_way op new ks (map (kind_in ks) read) L M (map (place_of read) cols) cols (formula_fits read ks formula has_f fits) (kinds_there read cols ks has_c) (inside_there read cols ks has_c)
    (ap (map (picked (map (place_of read) cols))) met ∙ keys_there read cols kept has_c) (ap₂ Sources same count)

pub one_narrows : (op : Unary) (ks : List Kind) (L : List Row) (cols : List ℕ) → Fits1 op ks → All (λ c. c < length (kinds1 op ks)) cols
    → let read = below op cols (length ks) in Narrows1 op (among1 op read) ks (map (kind_in ks) read) L (map (picked read) L) (after1 op read cols) cols
one_narrows (Selection formula) ks L cols fits inside = selected formula ks L cols fits inside
one_narrows (Projection of) ks L cols fits inside =
    let read = below (Projection of) cols (length ks) in
    let has_i = items_has of ks fits in
    remade (Projection of) (among1 (Projection of) read) ks (map (kind_in ks) read) L (map (picked read) L) cols
    (items_fit read ks of has_i fits) (item_kinds read ks of has_i) (images_there read of L has_i) (ap Own (length-map L (picked read))) inside
one_narrows (Distinction of) ks L cols fits inside =
    let read = below (Distinction of) cols (length ks) in
    let has_i = items_has of ks fits in
    let images = images_there read of L has_i in
    remade (Distinction of) (among1 (Distinction of) read) ks (map (kind_in ks) read) L (map (picked read) L) cols
    (items_fit read ks of has_i fits) (item_kinds read ks of has_i) (ap firsts images) (ap reaches images) inside
one_narrows (Grouping keys aggs) ks L cols fits inside =
    let read = below (Grouping keys aggs) cols (length ks) in
    let has_k = has_keys keys aggs ks fits in
    let has_a = has_aggs keys aggs ks fits in
    remade (Grouping keys aggs) (among1 (Grouping keys aggs) read) ks (map (kind_in ks) read) L (map (picked read) L) cols
    (group_fits read keys aggs ks has_k has_a fits) (group_kinds read keys aggs ks has_k has_a) (group_rows read keys aggs L has_k has_a) (ap reaches (keys_there read keys L has_k)) inside

-- a step with two inputs

-- the new step over the new inputs makes the wanted columns, by the same places
pub record Narrows2 (op new : Binary) (ls rs ks js : List Kind) (L R M N : List Row) (after cols : List ℕ) : Type 0 where
  pub fits : Fits2 new ks js
  pub kinds : map (kind_in (kinds2 new ks js)) after ≡ map (kind_in (kinds2 op ls rs)) cols
  pub inside : All (λ c. c < length (kinds2 new ks js)) after
  pub rows : map (picked after) (step2 new M N) ≡ map (picked cols) (step2 op L R)
  pub long : length (step2 new M N) ≡ length (step2 op L R)
  pub left_back : back_left new M N ≡ back_left op L R
  pub left_fwd : fwd_left new M N ≡ fwd_left op L R
  pub right_back : back_right new M N ≡ back_right op L R
  pub right_fwd : fwd_right new M N ≡ fwd_right op L R

abbrev HasPair : List ℕ → List ℕ → ℕ × ℕ → Type 0
HasPair cl cr pair = (has cl pair.0 ≡ true) × (has cr pair.1 ≡ true)

agree_there : (cl cr : List ℕ) (pairs : List (ℕ × ℕ)) (l r : Row) → All (HasPair cl cr) pairs → agree (map (pair_among cl cr) pairs) (picked cl l) (picked cr r) ≡ agree pairs l r
agree_there cl cr [] l r all = refl
agree_there cl cr (pair ∷ pairs) l r all =
    let here : HasPair cl cr pair = all 0 pair (omega arith) in
    let rest = agree_there cl cr pairs l r (λ k d low. all (suc k) d (omega arith)) in
    rw (value_there cl l pair.0 here.0, value_there cr r pair.1 here.1, rest) refl

pair_has : (t : ℕ → Bool) (ls rs : List Kind) (pair : ℕ × ℕ) → PairFits ls rs pair → ((c : ℕ) → is_paired (length ls) c pair ≡ true → t c ≡ true) → HasPair (places t (length ls)) (places (λ c. t (length ls + c)) (length rs)) pair
pair_has t ls rs pair fits h =
    let w = length ls in (
      has_passing t w pair.0 fits.0 (h pair.0 (or_left (nat_eq pair.0 pair.0) (nat_eq pair.0 (w + pair.1)) (eq-eqb pair.0 pair.0 refl))),
      has_passing (λ c. t (w + c)) (length rs) pair.1 fits.1 (h (w + pair.1) (or_right (nat_eq (w + pair.1) pair.0) (nat_eq (w + pair.1) (w + pair.1)) (eq-eqb (w + pair.1) (w + pair.1) refl))),
    )

-- what a join reads of both sides is what it reads of its rows
both_read : (t : ℕ → Bool) (ls rs : List Kind) → places t (length ls) ++ behind (length ls) (places (λ c. t (length ls + c)) (length rs)) ≡ places t (length (ls ++ rs))
both_read t ls rs = sym (places_add t (length ls) (length rs)) ∙ ap (places t) (sym (length-append ls rs))

few_read : (t : ℕ → Bool) (ls rs : List Kind) → FewTogether ls rs → FewTogether (map (kind_in ls) (places t (length ls))) (map (kind_in rs) (places (λ c. t (length ls + c)) (length rs)))
few_read t ls rs few =
    let cl = places t (length ls) in
    let cr = places (λ c. t (length ls + c)) (length rs) in
    omega (arith, few, length-map cl (kind_in ls), length-map cr (kind_in rs), few_places t (length ls), few_places (λ c. t (length ls + c)) (length rs))

-- a step that puts the pairs of a test beside each other
pub record IsNested (op : Binary) (test : Row → Row → Bool) : Type 0 where
  pub rows : (L R : List Row) → step2 op L R ≡ nested test L R
  pub left : (L R : List Row) → left_way op L R ≡ Sources (lefts_of (matching test L R)) (length L)
  pub right : (L R : List Row) → right_way op L R ≡ Sources (rights_of (matching test L R)) (length R)
  pub kinds : (ls rs : List Kind) → kinds2 op ls rs ≡ ls ++ rs

nests_pairs : (pairs : List (ℕ × ℕ)) → IsNested (Equijoin pairs) (agree pairs)
nests_pairs pairs = record { rows = λ L R. refl; left = λ L R. refl; right = λ L R. refl; kinds = λ ls rs. refl }

nests_formula : (formula : Formula) → IsNested (ThetaJoin formula) (meets_together formula)
nests_formula formula = record { rows = λ L R. refl; left = λ L R. refl; right = λ L R. refl; kinds = λ ls rs. refl }

nests_all : IsNested CrossProduct always
nests_all = record { rows = λ L R. refl; left = λ L R. refl; right = λ L R. refl; kinds = λ ls rs. refl }

joined : (op new : Binary) (test test' : Row → Row → Bool) (t : ℕ → Bool) (ls rs : List Kind) (L R : List Row) (cols : List ℕ) → IsNested op test → IsNested new test' → AreWide (length ls) L
    → All (λ c. c < length (kinds2 op ls rs)) cols → ((c : ℕ) → has cols c ≡ true → t c ≡ true)
    → let cl = places t (length ls) in let cr = places (λ c. t (length ls + c)) (length rs) in
    Fits2 new (map (kind_in ls) cl) (map (kind_in rs) cr) → SameTest test test' (length ls) cl cr
    → Narrows2 op new ls rs (map (kind_in ls) cl) (map (kind_in rs) cr) L R (map (picked cl) L) (map (picked cr) R) (map (place_of (cl ++ behind (length ls) cr)) cols) cols
joined op new test test' t ls rs L R cols is is' wide inside wanted fits same =
    let w = length ls in
    let cl = places t w in
    let cr = places (λ c. t (w + c)) (length rs) in
    let both = cl ++ behind w cr in
    let M = map (picked cl) L in
    let N = map (picked cr) R in
    let low = places_below t w in
    let has_c : All (λ c. has both c ≡ true) cols = rw (both_read t ls rs) (has_wanted t (length (ls ++ rs)) cols (subst (λ (z : List Kind). All (λ c. c < length z) cols) (is.kinds ls rs) inside) wanted) in
    let kinds : kinds2 new (map (kind_in ls) cl) (map (kind_in rs) cr) ≡ map (kind_in (ls ++ rs)) both = is'.kinds (map (kind_in ls) cl) (map (kind_in rs) cr) ∙ sym (read_behind _ ls rs w cl cr refl low) in
    let made : step2 new M N ≡ map (picked both) (step2 op L R) = is'.rows M N ∙ nested_there test test' cl cr w L R same low wide ∙ ap (map (picked both)) (sym (is.rows L R)) in
    let met = matching_there test test' cl cr w L R same wide in
    let lefts = same_lists (is'.left M N ∙ ap₂ (λ (ps : List (ℕ × ℕ)) n. Sources (lefts_of ps) n) met (length-map L (picked cl)) ∙ sym (is.left L R)) (lineage_of_ways.left new M N) (lineage_of_ways.left op L R) in
    let rights = same_lists (is'.right M N ∙ ap₂ (λ (ps : List (ℕ × ℕ)) n. Sources (rights_of ps) n) met (length-map R (picked cr)) ∙ sym (is.right L R)) (lineage_of_ways.right new M N) (lineage_of_ways.right op L R) in
    record {
      fits = fits;
      kinds = rw (kinds, is.kinds ls rs) (kinds_there both cols (ls ++ rs) has_c);
      inside = rw kinds (inside_there both cols (ls ++ rs) has_c);
      rows = rw made (keys_there both cols (step2 op L R) has_c);
      long = same_count _ _ _ _ _ _ lefts.0;
      left_back = lefts.0;
      left_fwd = lefts.1;
      right_back = rights.0;
      right_fwd = rights.1;
    }

-- a union reads all columns
every : (xs : List ℕ) → filter (λ c. true) xs ≡ xs
every [] = refl
every (x ∷ xs) = ap (λ z. x ∷ z) (every xs)

united : (op : Binary) (ls rs : List Kind) (L R : List Row) (cols : List ℕ) → Fits2 op ls rs → AreWide (length ls) L → AreWide (length rs) R → All (λ c. c < length (kinds2 op ls rs)) cols
    → let cl = places (λ c. true) (length ls) in let cr = places (λ c. true) (length rs) in
    Narrows2 op op ls rs (map (kind_in ls) cl) (map (kind_in rs) cr) L R (map (picked cl) L) (map (picked cr) R) cols cols
united op ls rs L R cols fits left right inside = rw (every (upto (length ls)), every (upto (length rs)), map_upto ls kinds.Text, map_upto rs kinds.Text, bulk.whole (length ls) L left, bulk.whole (length rs) R right) (record {
  fits = fits;
  kinds = refl;
  inside = inside;
  rows = refl;
  long = refl;
  left_back = refl;
  left_fwd = refl;
  right_back = refl;
  right_fwd = refl;
})

pub two_narrows : (op : Binary) (ls rs : List Kind) (L R : List Row) (cols : List ℕ) → Fits2 op ls rs → AreWide (length ls) L → AreWide (length rs) R → All (λ c. c < length (kinds2 op ls rs)) cols
    → let w = length ls in let cl = below_left op cols w in let cr = below_right op cols w (length rs) in
    Narrows2 op (among2 op w cl cr) ls rs (map (kind_in ls) cl) (map (kind_in rs) cr) L R (map (picked cl) L) (map (picked cr) R) (after2 op w cl cr cols) cols
two_narrows (Equijoin pairs) ls rs L R cols fits left right inside =
    let w = length ls in
    let t = is_met (Equijoin pairs) w cols in
    let cl = places t w in
    let cr = places (λ c. t (w + c)) (length rs) in
    let has_p : All (HasPair cl cr) pairs = λ k d low. pair_has t ls rs (get_or pairs k d) (fits.each k d low) (λ c e. or_right (has cols c) (list_any (is_paired w c) pairs) (list_any_at (is_paired w c) pairs k d low e)) in
    let ks = map (kind_in ls) cl in
    let js = map (kind_in rs) cr in
    let new_fits : JoinFits ks js (map (pair_among cl cr) pairs) = record {
      each = All-map (PairFits ks js) (pair_among cl cr) pairs (each_fits (HasPair cl cr) (PairFits ls rs) (λ pair. PairFits ks js (pair_among cl cr pair)) pairs has_p fits.each
          (λ pair h f. (long_there cl ls pair.0 h.0, long_there cr rs pair.1 h.1, rw (kind_there cl ls pair.0 h.0, kind_there cr rs pair.1 h.1) f.2)));
      few = few_read t ls rs fits.few;
    } in
    joined (Equijoin pairs) (Equijoin (map (pair_among cl cr) pairs)) (agree pairs) (agree (map (pair_among cl cr) pairs)) t ls rs L R cols (nests_pairs pairs) (nests_pairs (map (pair_among cl cr) pairs)) left inside
    (λ c e. or_left (has cols c) (list_any (is_paired w c) pairs) e) new_fits (λ l r long. agree_there cl cr pairs l r has_p)
two_narrows (ThetaJoin formula) ls rs L R cols fits left right inside =
    let w = length ls in
    let t = is_met (ThetaJoin formula) w cols in
    let cl = places t w in
    let cr = places (λ c. t (w + c)) (length rs) in
    let both = cl ++ behind w cr in
    let new = formula_among both formula in
    let low = places_below t w in
    let has_f : HasFormula both formula = rw (both_read t ls rs) (formula_has t (ls ++ rs) formula fits.fits (λ c e. or_right (has cols c) (in_formula c formula) e)) in
    joined (ThetaJoin formula) (ThetaJoin new) (meets_together formula) (meets_together new) t ls rs L R cols (nests_formula formula) (nests_formula new) left inside
    (λ c e. or_left (has cols c) (in_formula c formula) e)
    (record { fits = rw (sym (read_behind kinds.Text ls rs w cl cr refl low)) (formula_fits both (ls ++ rs) formula has_f fits.fits); few = few_read t ls rs fits.few })
    (λ l r long. ap (meets new) (sym (read_behind _ l r w cl cr long low)) ∙ meets_there both formula (l ++ r) has_f)
two_narrows CrossProduct ls rs L R cols fits left right inside =
    joined CrossProduct CrossProduct always always (is_met CrossProduct (length ls) cols) ls rs L R cols nests_all nests_all left inside (λ c e. e) (few_read (is_met CrossProduct (length ls) cols) ls rs fits) (λ l r long. refl)
two_narrows BagUnion ls rs L R cols fits left right inside = united BagUnion ls rs L R cols fits left right inside
two_narrows SetUnion ls rs L R cols fits left right inside = united SetUnion ls rs L R cols fits left right inside
