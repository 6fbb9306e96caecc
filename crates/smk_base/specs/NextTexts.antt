-- The text that a column can take next without memory.
use Rattle.std.specs.Prelude.{ℕ, List, Option, Some, None, slice_get, nat_lt, if◌then◌else◌}
use Rattle.smk_base.specs.{declared.rel.text_column.Next.Next, declared.rel.text_column.Next.TheVariants.{Nothing, Known, New}}

-- the text that can be put last, in a column with this dictionary and room for so many new texts in it
abbrev pub next_text : List (List ℕ) → ℕ → Next → Option (List ℕ)
next_text dict room Nothing = None
next_text dict room (Known code) = slice_get dict code
next_text dict room (New text) = if nat_lt 0 room then Some text.items else None
