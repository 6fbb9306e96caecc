-- Pieces of the records of rows, put behind one another.
use Rattle.std.proofs.{Common.{◌≡◌, ◌∙◌, ◌<◌, ◌≤◌, ◌+◌, ◌-◌, ◌++◌, ◌∷◌, [], ℕ, zero, suc, List, length, map, drop, sym, ap, arith, append-nil, append_assoc, decimal}, lemmas.List.get_or-drop}
use Rattle.std.specs.List.{AllZip, flat_map, range_with_len}
use Rattle.smk_base.specs.Rels.{row_in}
use Rattle.smk_jobs.specs.Cuts.{cut_at}
use Rattle.smk_jobs.proofs.Cutting.{cut_first, cut_last}
use Rattle.smk_model.specs.{Values.Row, Texts.{record_line, value_text, row_lines_to}}
use Rattle.smk_report.specs.PieceTexts.{IsPiece}
use Rattle.smk_report.proofs.Parts.{lines_more}

-- the records of more rows
lines_split : (number : ℕ → ℕ) (rows : List Row) (a n : ℕ) → row_lines_to number rows (a + n) ≡ row_lines_to number rows a ++ row_lines_to (λ (k : ℕ). number (a + k)) (drop a rows) n
lines_split number rows a zero =
    let none : a + 0 ≡ a = omega arith in
    ap (row_lines_to number rows) none ∙ sym (append-nil (row_lines_to number rows a))
lines_split number rows a (suc n) =
    let next : a + suc n ≡ (a + n) + 1 = omega arith in
    let one : suc n ≡ n + 1 = omega arith in
    let behind : ℕ → ℕ = λ k. number (a + k) in
    let front : List ℕ = row_lines_to number rows a in
    let between : List ℕ = row_lines_to behind (drop a rows) n in
    let line : List ℕ = record_line (decimal (number (a + n)) ∷ map value_text (row_in rows (a + n))) in
    let there : row_lines_to behind (drop a rows) (suc n) ≡ between ++ line =
    ap (row_lines_to behind (drop a rows)) one ∙ lines_more behind (drop a rows) n
    ∙ ap (λ (row : Row). between ++ record_line (decimal (number (a + n)) ∷ map value_text row)) (get_or-drop a rows n []) in
    ap (row_lines_to number rows) next ∙ lines_more number rows (a + n) ∙ ap (λ (x : List ℕ). x ++ line) (lines_split number rows a n)
    ∙ append_assoc front between line ∙ ap (λ (x : List ℕ). front ++ x) (sym there)

-- the records of the rows of a piece
pub piece_added : (number : ℕ → ℕ) (rows : List Row) (count p from to : ℕ) (text : List ℕ) → from ≡ cut_at count (length rows) p → to ≡ cut_at count (length rows) (p + 1) → from ≤ to
    → text ≡ [] ++ row_lines_to (λ (k : ℕ). number (from + k)) (drop from rows) (to - from) → IsPiece number rows count p text
piece_added number rows count p from to text begins ends grows is =
    let whole : to ≡ from + (to - from) = omega (arith, grows) in
    rw (← begins, ← ends, is) (ap (row_lines_to number rows) whole ∙ lines_split number rows from (to - from))

-- all pieces up to one have the records of all rows up to there
joined_to : {A : Type 0} (bytes : A → List ℕ) (at : ℕ → List ℕ) (k n : ℕ) (pieces : List A) → AllZip (λ p piece. at (p + 1) ≡ at p ++ bytes piece) (range_with_len k n) pieces → at (k + n) ≡ at k ++ flat_map bytes pieces
joined_to bytes at k zero [] each = ap at (omega arith) ∙ sym (append-nil (at k))
joined_to bytes at k (suc n) (piece ∷ rest) each =
    ap at (omega arith) ∙ joined_to bytes at (k + 1) n rest each.1 ∙ ap (λ (x : List ℕ). x ++ flat_map bytes rest) each.0 ∙ append_assoc (at k) (bytes piece) (flat_map bytes rest)
joined_to bytes at k _ _ each = absurd each

-- all pieces have the records of all rows
pub pieces_joined : {A : Type 0} (bytes : A → List ℕ) (number : ℕ → ℕ) (rows : List Row) (count : ℕ) (pieces : List A) → 0 < count → AllZip (λ p piece. IsPiece number rows count p (bytes piece)) (range_with_len 0 count) pieces
    → flat_map bytes pieces ≡ row_lines_to number rows (length rows)
pieces_joined bytes number rows count pieces some each =
    let to : ℕ → List ℕ = row_lines_to number rows in
    let at : ℕ → List ℕ = λ p. to (cut_at count (length rows) p) in
    let last : cut_at count (length rows) (0 + count) ≡ length rows = ap (cut_at count (length rows)) (omega arith) ∙ cut_last count (length rows) some in
    sym (ap (λ (x : ℕ). to x ++ flat_map bytes pieces) (cut_first count (length rows))) ∙ sym (joined_to bytes at 0 count pieces each) ∙ ap to last
