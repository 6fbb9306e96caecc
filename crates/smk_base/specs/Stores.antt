-- A column as it lies in memory.
use Rattle.std.specs.Prelude.{ℕ, ◌-◌, true, List, map, Option, None, vec_len, vec_capacity}
use Rattle.smk_base.specs.{declared.value.Kind.Kind, declared.value.Value.Value, declared.rel.value_column.Store.Store, declared.rel.value_column.Store.TheVariants.{Small, Wide, Texts}, Images.ColumnImage, NextTexts.next_text, TextColumns.text_firsts}
use Rattle.smk_base.specs.declared.value.Kind.TheVariants as kinds
use Rattle.smk_base.specs.declared.value.Value.TheVariants as values

abbrev pub kind_in_store : Store → Kind
kind_in_store (Small ints) = kinds.Int 0
kind_in_store (Wide level ints) = kinds.Int level
kind_in_store (Texts texts next) = kinds.Text

abbrev pub cells_in : Store → List Value
cells_in (Small ints) = map values.Int ints.items
cells_in (Wide level ints) = map values.Int ints.items
cells_in (Texts texts next) = map values.Text texts.texts

abbrev pub room_in : Store → ℕ
room_in (Small ints) = vec_capacity ints - vec_len ints
room_in (Wide level ints) = vec_capacity ints - vec_len ints
room_in (Texts texts next) = texts.room

abbrev pub next_in : Store → Option (List ℕ)
next_in (Texts texts next) = next_text (text_firsts texts.texts) texts.dict_room next
next_in _ = None

abbrev pub column_of : Store → ColumnImage
column_of store = record { kind = kind_in_store store; cells = cells_in store; room = room_in store; next = next_in store; own = true }
