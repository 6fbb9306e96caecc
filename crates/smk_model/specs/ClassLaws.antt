-- Laws of classes of equal keys, and of steps whose rows are gathered in bulk.
use Rattle.std.specs.{Prelude.{◌≡◌, ℕ, ◌+◌, ◌<◌, true, not, List, ◌++◌, length, map, take, slice_index_or, nat_eq}, List.{list_any, filter, All}}
use Rattle.smk_base.specs.{Plans.{Formula, Selection, Distinction, Grouping, Binary, SetUnion}, Rels.beside_rows, declared.book.plan.Item.Item, declared.book.plan.Agg.Agg}
use Rattle.smk_model.specs.{Values.Row, Plain.{row_eq, image, key_of, aggregate, firsts, is_join, joins, step1, step2}, Lineage.{upto, places, row_at, sub, meeting, matching, lefts_of, rights_of}, Classes.{classes, first_places, new_places}}

-- a number for each key, the place of an equal key among the first occurrences
pub record AreClasses (keys : List Row) (of : List ℕ) : Type 0 where
  pub long : length of ≡ length keys
  pub below : (i : ℕ) → i < length keys → slice_index_or of i 0 < length (firsts keys)
  pub at : (i : ℕ) → i < length keys → row_at (firsts keys) (slice_index_or of i 0) ≡ row_at keys i

-- what the classes of keys are
pub record ClassesAre : Type 0 where
  -- they are such numbers, and no others are
  pub stand : (keys : List Row) → AreClasses keys (classes keys)
  pub alone : (keys : List Row) (of : List ℕ) → AreClasses keys of → of ≡ classes keys
  -- a key's places are those of its class
  pub members : (keys : List Row) (p : ℕ) → p < length (firsts keys) → places (λ i. row_eq (row_at (firsts keys) p) (row_at keys i)) (length keys) ≡ places (λ i. nat_eq (slice_index_or (classes keys) i 0) p) (length keys)
  -- the keys at the first places are the first occurrences, and their places are those whose key is at no earlier one
  pub first_keys : (keys : List Row) → sub keys (first_places keys) ≡ firsts keys
  pub first_of_all : (keys : List Row) → first_places keys ≡ places (λ i. not (list_any (row_eq (row_at keys i)) (take i keys))) (length keys)
  -- of two lists after each other, those of the first, and then the new ones of the second
  pub first_of_two : (L R : List Row) → first_places (L ++ R) ≡ first_places L ++ map (λ j. length L + j) (new_places L R)

-- the rows of each step, as rows that are gathered, put side by side, or taken class by class
pub record Bulk : Type 0 where
  -- the rows that meet the formula, gathered
  pub selection : (formula : Formula) (L : List Row) → step1 (Selection formula) L ≡ sub L (meeting formula L)
  -- the left rows of the matching pairs, gathered, and beside them the right rows
  pub join : (op : Binary) (L R : List Row) → is_join op ≡ true → step2 op L R ≡ beside_rows (sub L (lefts_of (matching (joins op) L R))) (sub R (rights_of (matching (joins op) L R)))
  -- the images at the first places of their classes, gathered
  pub distinction : (items : List Item) (L : List Row) → step1 (Distinction items) L ≡ sub (map (image items) L) (first_places (map (image items) L))
  -- the keys of the rows at the first places of the keys' classes
  pub keys : (keys : List ℕ) (L : List Row) → firsts (map (key_of keys) L) ≡ map (key_of keys) (sub L (first_places (map (key_of keys) L)))
  -- then come the aggregates over the rows of each key, which are the rows of each class
  pub grouping : (keys : List ℕ) (aggs : List Agg) (L : List Row)
      → step1 (Grouping keys aggs) L ≡ beside_rows (firsts (map (key_of keys) L)) (map (λ key. map (aggregate (filter (λ row. row_eq key (key_of keys row)) L)) aggs) (firsts (map (key_of keys) L)))
  pub members : (f : Row → Row) (L : List Row) (p : ℕ) → p < length (firsts (map f L))
      → filter (λ row. row_eq (row_at (firsts (map f L)) p) (f row)) L ≡ sub L (places (λ i. nat_eq (slice_index_or (classes (map f L)) i 0) p) (length L))
  -- the rows of both sides at the first places of their classes; the left ones come first
  pub union : (L R : List Row) → step2 SetUnion L R ≡ sub (L ++ R) (first_places (L ++ R))
  pub union_parts : (L R : List Row) → step2 SetUnion L R ≡ sub L (first_places L) ++ sub R (new_places L R)
  -- rows of n values are their own keys by all columns
  pub whole : (n : ℕ) (rows : List Row) → All (λ row. length row ≡ n) rows → map (key_of (upto n)) rows ≡ rows
