-- Groupings by one column of texts: their parts find where a text may come first.
use Rattle.std.specs.Prelude.{◌≡◌, ℕ, ◌<◌, ◌≤◌, ◌+◌, Bool, false, List, [], ◌∷◌, length, map, slice_index, slice_index_or}
use Rattle.smk_base.specs.{Dicts.code_or_last, Rels.{column_texts, kind_in}, TextColumns.text_firsts, declared.value.Kind.Kind}
use Rattle.smk_model.specs.{Names.is_text, Values.Row}

-- whether these keys are one column of texts alone
abbrev pub is_text_key : List Kind → List ℕ → Bool
is_text_key kinds (c ∷ []) = is_text (kind_in kinds c)
is_text_key kinds _ = false

-- for each row the code of its text in a column: the place of the text among the different ones, in the order in which they come first
abbrev pub codes_of : List Row → ℕ → List ℕ
codes_of L c = map (code_or_last (text_firsts (column_texts c L))) (column_texts c L)

-- the places, from one up to another, where a number is greater than all before it from there: no number is greater than the one at the last such place up to it
pub record AreRises (of : List ℕ) (from to : ℕ) (rises : List ℕ) : Type 0 where
  pub begins : slice_index_or rises 0 to ≡ from
  pub grows : (k : ℕ) → k < length rises → slice_index rises k < slice_index_or rises (k + 1) to
  pub below : (k : ℕ) → k < length rises → slice_index rises k < to
  pub greater : (k i : ℕ) → k < length rises → from ≤ i → i < slice_index rises k → slice_index of i < slice_index of (slice_index rises k)
  pub greatest : (k i : ℕ) → k < length rises → slice_index rises k ≤ i → i < slice_index_or rises (k + 1) to → slice_index of i ≤ slice_index of (slice_index rises k)
