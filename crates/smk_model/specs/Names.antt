-- Rules that give a result or the first fault, and how a name is looked up.
use Rattle.std.specs.{Prelude.{ℕ, Bool, true, false, nat_eq, cond, List, [], ◌∷◌, map, slice_index_or, Option, option_map, position, ok_or, Result, Ok, Err}, List.list_any, Cmp.Lexicographic.pointwise}
use Rattle.smk_base.specs.{declared.value.Kind.Kind, declared.book.tree.Word.Word, declared.book.catalog.Column.Column, declared.book.type_fault.TypeFault.TypeFault, declared.book.type_fault.TypeFault.TheVariants.UnknownColumn}
use Rattle.smk_base.specs.declared.value.Kind.TheVariants as kinds
pub use Rattle.smk_base.specs.Widths.{same_sort}

-- what a rule of typing gives: a result, or the fault with its place
abbrev pub Typed : Type 0 → Type 0
Typed A = Result A TypeFault

-- one step after another, up to the first fault
infixl 10 ◌>>=◌
abbrev pub ◌>>=◌ : {A B E : Type 0} → Result A E → (A → Result B E) → Result B E
(Ok a) >>= next = next a
(Err fault) >>= next = Err fault

-- the result, unless the fault holds
abbrev pub unless : {A : Type 0} → Bool → TypeFault → Typed A → Typed A
unless wrong fault result = cond wrong (Err fault) result

-- the members of a list from left to right, each over the result so far
abbrev pub in_turn : {A X : Type 0} → (A → X → Typed A) → A → List X → Typed A
in_turn rule made [] = Ok made
in_turn rule made (x ∷ xs) = rule made x >>= λ more. in_turn rule more xs

-- whether two names have the same bytes
abbrev pub same_name : List ℕ → List ℕ → Bool
same_name = pointwise nat_eq

-- the place of a name among names
abbrev pub place_of : List ℕ → List (List ℕ) → Option ℕ
place_of name names = position (same_name name) names

-- whether a name is one of these
abbrev pub is_taken : List ℕ → List (List ℕ) → Bool
is_taken name names = list_any (same_name name) names

-- the names and the kinds of columns
abbrev pub names_of : List Column → List (List ℕ)
names_of columns = map (λ column. column.name) columns

abbrev pub column_kinds : List Column → List Kind
column_kinds columns = map (λ column. column.kind) columns

-- whether a column has this name
abbrev pub has_name : List ℕ → Column → Bool
has_name name column = same_name name column.name

-- the column with this number
abbrev pub column_at : List Column → ℕ → Column
column_at columns c = slice_index_or columns c (record { name = []; kind = kinds.Text })

-- the number and the kind of the column that a word names: known, else UnknownColumn at the word
abbrev pub column_named : List Column → Word → Typed (ℕ × Kind)
column_named columns word = ok_or (option_map (λ c. (c, (column_at columns c).kind)) (position (has_name word.name) columns)) (UnknownColumn word.at)

abbrev pub is_text : Kind → Bool
is_text (kinds.Int level) = false
is_text kinds.Text = true
