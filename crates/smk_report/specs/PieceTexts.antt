-- Pieces of the records of rows.
use Rattle.std.specs.{Prelude.{◌≡◌, ℕ, ◌+◌, List, ◌++◌, Option, None, Some, length, slice_index_or}, Borrow.Bor}
use Rattle.smk_jobs.specs.Cuts.{cut_at}
use Rattle.smk_model.specs.{Values.Row, Texts.row_lines_to}

-- the number in the record of row i: its rid if rids are given, else its place
abbrev pub number_in : Option (Bor (List ℕ)) → ℕ → ℕ
number_in None i = i
number_in (Some rids) i = slice_index_or rids.now i 0

-- the text has the records of piece p of so many: after those before the piece, it completes those before the next
abbrev pub IsPiece : (ℕ → ℕ) → List Row → ℕ → ℕ → List ℕ → Type 0
IsPiece number rows count p text =
    row_lines_to number rows (cut_at count (length rows) (p + 1)) ≡ row_lines_to number rows (cut_at count (length rows) p) ++ text
