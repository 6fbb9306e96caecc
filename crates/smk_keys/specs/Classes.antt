-- Keys in classes of equal ones.
use Rattle.std.specs.{Prelude.{ℕ, ◌<◌, Bool, List, length, map}, List.position_or_len}
use Rattle.smk_base.specs.{declared.value.Value.Value, declared.value.Kind.Kind, Rels.kind_in, Widths.AreAlike}
pub use Rattle.smk_base.specs.Firsts.{first_items}
use Rattle.smk_keys.specs.Keys.{key_eq}

-- the class of each item, and for each class the place of its first item
pub record ClassesImage : Type 0 where
  pub of : List ℕ
  pub firsts : List ℕ

-- for each item its place among the items at their first occurrences, and for each of these the place where it comes first
abbrev pub classing_of : {X : Type 0} → (X → X → Bool) → List X → ClassesImage
classing_of eq items = record {
  of = map (λ item. position_or_len (eq item) (first_items eq items)) items;
  firsts = map (λ item. position_or_len (eq item) items) (first_items eq items);
}

-- the classes of keys
abbrev pub classes_of : List (List Value) → ClassesImage
classes_of keys = classing_of key_eq keys

-- both columns are there, of ints or of texts
abbrev pub AreAlikeColumns : List Kind → List Kind → ℕ → ℕ → Type 0
AreAlikeColumns lefts rights c d = (c < length lefts) × (d < length rights) × AreAlike (kind_in lefts c) (kind_in rights d)
