-- Columns of texts.
use Rattle.std.specs.Prelude.{◌≡◌, ℕ, ◌<◌, ◌≤◌, List, [], length, map, fold, slice_index, slice_index_or, All}
use Rattle.smk_base.specs.{Dicts.{text_eq, with_text}, Firsts.first_items, declared.rel.TheConstants.ROW_LIMIT, declared.rel.text_column.TheConstants.NO_CODE}

-- the texts of a column, how many more fit without memory, and how many of them may be new
pub record TextImage : Type 0 where
  pub texts : List (List ℕ)
  pub room : ℕ
  pub dict_room : ℕ

-- the text of row i
abbrev pub text_in : List (List ℕ) → ℕ → List ℕ
text_in texts i = slice_index_or texts i []

-- the texts, each at its first occurrence
abbrev pub text_firsts : List (List ℕ) → List (List ℕ)
text_firsts texts = first_items text_eq texts

-- the texts with these codes
abbrev pub texts_at : List (List ℕ) → List ℕ → List (List ℕ)
texts_at dict codes = map (text_in dict) codes

-- codes into a dictionary that has the texts in the order of their first occurrences
pub record AreCodes (dict : List (List ℕ)) (codes : List ℕ) : Type 0 where
  pub few : length codes ≤ ROW_LIMIT
  pub within : All (λ code. code < length dict) codes
  pub firsts : dict ≡ text_firsts (texts_at dict codes)

-- new codes for the old ones that have one
pub record AreRecoded (old new : List (List ℕ)) (table : List ℕ) : Type 0 where
  pub long : length table ≡ length old
  pub within : (k : ℕ) → k < length old → slice_index table k < NO_CODE → slice_index table k < length new
  pub same : (k : ℕ) → k < length old → slice_index table k < NO_CODE → text_in new (slice_index table k) ≡ text_in old k

-- codes of texts that were added to a dictionary one after the other
pub record AreAdded (dict added now : List (List ℕ)) (codes : List ℕ) : Type 0 where
  pub texts : now ≡ fold with_text dict added
  pub within : All (λ code. code < length now) codes
  pub back : texts_at now codes ≡ added
