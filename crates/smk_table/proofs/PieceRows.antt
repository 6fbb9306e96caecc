-- Rows that are read in pieces.
use Rattle.std.proofs.{Common.{◌≡◌, ◌∙◌, ◌<◌, ◌≤◌, ◌+◌, ◌==◌, ℕ, suc, Bool, true, false, List, [], ◌∷◌, ◌++◌, length, map, Result, Ok, Err, refl, sym, ap, arith, nat_eq, nat_le, le-leb, ne_eqb, get_or, Option, Some, None, inl, inr, add-zero, Bor}, lemmas.Bool.{lt-leb, cases_lt}}
use Rattle.std.specs.Prelude.{if◌then◌else◌, flat_map}
use Rattle.smk_base.specs.{declared.value.Value.Value, declared.book.col_decl.ColDecl.ColDecl, declared.fault.TableFault.TableFault, Marks.after_marks}
use Rattle.smk_base.specs.declared.fault.TableFault.TheVariants as faults
use Rattle.csv.specs.Reading.{records, default_config}
use Rattle.smk_table.specs.{Cuts.read_of, Pieces.{Part, behind_header, parts_of, rows_from, record_of, fault_behind, part_behind, parts_behind, HasHeader}}
use Rattle.smk_model.specs.{Names.◌>>=◌, Tables.{all_or_first, numbered, record_row, cell_value, field_value, header_place, table_of, table_of_records}}

-- the numbers go on behind the first list
numbered-append : {A B : Type 0} (f : ℕ → A → B) (n : ℕ) (xs ys : List A) → numbered f n (xs ++ ys) ≡ numbered f n xs ++ numbered f (n + length xs) ys
numbered-append f n [] ys = ap (λ k. numbered f k ys) (sym (add-zero n))
numbered-append f n (x ∷ xs) ys = ap (λ r. f n x ∷ r) (numbered-append f (n + 1) xs ys ∙ ap (λ k. numbered f (n + 1) xs ++ numbered f k ys) (let e : n + 1 + length xs ≡ n + suc (length xs) = omega arith in e))

-- the first fault of two lists is that of the first, if it has one
all_or_first-append : {A E : Type 0} (xs ys : List (Result A E)) → all_or_first (xs ++ ys) ≡ ◌>>=◌ (all_or_first xs) (λ us. ◌>>=◌ (all_or_first ys) (λ vs. Ok (us ++ vs)))
all_or_first-append {A} {E} [] ys = by (all_or_first ys)
  where
    by : (r : Result (List A) E) → r ≡ ◌>>=◌ r (λ vs. Ok vs)
    by (Ok vs) = refl
    by (Err e) = refl
all_or_first-append {A} {E} (Err e ∷ xs) ys = refl
all_or_first-append {A} {E} (Ok x ∷ xs) ys = ap (λ r. ◌>>=◌ r (λ more. Ok (x ∷ more))) (all_or_first-append xs ys) ∙ by (all_or_first xs) (all_or_first ys)
  where
    by : (r q : Result (List A) E) → ◌>>=◌ (◌>>=◌ r (λ us. ◌>>=◌ q (λ vs. Ok (us ++ vs)))) (λ more. Ok (x ∷ more)) ≡ ◌>>=◌ (◌>>=◌ r (λ us. Ok (x ∷ us))) (λ us. ◌>>=◌ q (λ vs. Ok (us ++ vs)))
    by (Err e) q = refl
    by (Ok us) (Err e) = refl
    by (Ok us) (Ok vs) = refl

rows_append : (cols : List ColDecl) (places : List ℕ) (width n : ℕ) (read more : List (List (List ℕ)))
    → rows_from cols places width n (read ++ more)
    ≡ ◌>>=◌ (rows_from cols places width n read) (λ rows. ◌>>=◌ (rows_from cols places width (n + length read) more) (λ others. Ok (rows ++ others)))
rows_append cols places width n read more =
    ap all_or_first (numbered-append (record_row cols places width) n read more)
    ∙ all_or_first-append (numbered (record_row cols places width) n read) (numbered (record_row cols places width) (n + length read) more)

-- the tests of the limit
room_yes : (k : ℕ) → k ≤ 1048576 → nat_le k 1048576 ≡ true
room_yes k h = le-leb k 1048576 h

room_no : (k : ℕ) → 1048576 < k → nat_le k 1048576 ≡ false
room_no k h = lt-leb k 1048576 h

-- one answer of a record with number n, and its answer with number base + n
IsRow : (base n : ℕ) → Result (List Value) TableFault → Result (List Value) TableFault → Type 0
IsRow base n (Ok row) q = q ≡ Ok row
IsRow base n (Err fault) q = (q ≡ Err (fault_behind base fault)) × (record_of fault ≡ n)

one_more : (base n : ℕ) (v : Value) (r q : Result (List Value) TableFault) → IsRow base n r q → IsRow base n (◌>>=◌ r (λ vs. Ok (v ∷ vs))) (◌>>=◌ q (λ vs. Ok (v ∷ vs)))
unfolding IsRow
one_more base n v (Ok row) q h = rw h refl
one_more base n v (Err fault) q h = (rw h.0 refl, h.1)

cells : (base n : ℕ) (places : List ℕ) (fields : List (List ℕ)) (c : ℕ) (cols : List ColDecl)
    → IsRow base n (all_or_first (numbered (cell_value places n fields) c cols)) (all_or_first (numbered (cell_value places (base + n) fields) c cols))
unfolding IsRow
cells base n places fields c [] = refl
cells base n places fields c (decl ∷ cols) = by (field_value decl.kind decl.def (get_or fields (get_or places c 0) [])) refl (cells base n places fields (c + 1) cols)
  where
    by : (o : Option Value) → field_value decl.kind decl.def (get_or fields (get_or places c 0) []) ≡ o
        → IsRow base n (all_or_first (numbered (cell_value places n fields) (c + 1) cols)) (all_or_first (numbered (cell_value places (base + n) fields) (c + 1) cols))
        → IsRow base n (all_or_first (numbered (cell_value places n fields) c (decl ∷ cols))) (all_or_first (numbered (cell_value places (base + n) fields) c (decl ∷ cols)))
    by None e more = rw e (refl, refl)
    by (Some v) e more = rw e (one_more base n v _ _ more)

inside_limit : (cols : List ColDecl) (places : List ℕ) (width n : ℕ) (fields : List (List ℕ)) → n < 1048577
    → record_row cols places width n fields ≡ (if length fields == width then all_or_first (numbered (cell_value places n fields) 0 cols) else Err (faults.Ragged n))
inside_limit cols places width n fields l = let e : nat_eq n 1048577 ≡ false = ne_eqb n 1048577 (λ q. absurd (omega (arith, q))) in rw e refl

row_behind : (cols : List ColDecl) (places : List ℕ) (width base n : ℕ) (fields : List (List ℕ)) → base + n < 1048577
    → IsRow base n (record_row cols places width n fields) (record_row cols places width (base + n) fields)
unfolding IsRow
row_behind cols places width base n fields l = rw (inside_limit cols places width n fields (omega arith), inside_limit cols places width (base + n) fields l) (by (length fields == width))
  where
    by : (b : Bool) → IsRow base n (if b then all_or_first (numbered (cell_value places n fields) 0 cols) else Err (faults.Ragged n)) (if b then all_or_first (numbered (cell_value places (base + n) fields) 0 cols) else Err (faults.Ragged (base + n)))
    by true = cells base n places fields 0 cols
    by false = (refl, refl)

-- the rows of a part are as many as its records, and its fault is at none before them
Least : (n count : ℕ) → Part → Type 0
Least n count (Ok rows) = length rows ≡ count
Least n count (Err fault) = n ≤ record_of fault

at_limit : (cols : List ColDecl) (places : List ℕ) (width n : ℕ) (fields : List (List ℕ)) → n ≡ 1048577 → record_row cols places width n fields ≡ Err faults.TooManyRows
at_limit cols places width n fields e = rw e refl

least : (cols : List ColDecl) (places : List ℕ) (width n : ℕ) (read : List (List (List ℕ))) → n ≤ 1048577 → Least n (length read) (rows_from cols places width n read)
unfolding Least IsRow
least cols places width n [] l = refl
least cols places width n (x ∷ read) l = elim (cases_lt n 1048577) [
  | inl lt ↦ below (record_row cols places width n x) _ (row_behind cols places width 0 n x (omega arith)) (least cols places width (n + 1) read (omega arith))
  | inr ge ↦ (let e : n ≡ 1048577 = omega arith in rw (at_limit cols places width n x e) l)
]
  where
    below : (r q : Result (List Value) TableFault) → IsRow 0 n r q → Least (n + 1) (length read) (rows_from cols places width (n + 1) read)
        → Least n (suc (length read)) (◌>>=◌ r (λ row. ◌>>=◌ (rows_from cols places width (n + 1) read) (λ rows. Ok (row ∷ rows))))
    below (Err fault) q h more = omega (arith, h.1)
    below (Ok row) q h more = on (rows_from cols places width (n + 1) read) more
      where
        on : (r : Part) → Least (n + 1) (length read) r → Least n (suc (length read)) (◌>>=◌ r (λ rows. Ok (row ∷ rows)))
        on (Ok rows) h = ap suc h
        on (Err fault) h = omega (arith, h)

-- a part where base + done records come before, of which done have been read with it
part_from : ℕ → ℕ → Part → Part
part_from base done (Ok rows) = if nat_le (base + done + length rows) 1048576 then Ok rows else Err faults.TooManyRows
part_from base done (Err fault) = part_behind base (Err fault)

full : (base done count : ℕ) (r : Part) → 0 < count → base + done ≡ 1048576 → Least (done + 1) count r → part_from base done r ≡ Err faults.TooManyRows
unfolding Least part_from
full base done count (Ok rows) c e h = rw (room_no (base + done + length rows) (omega (arith, h))) refl
full base done count (Err fault) c e h = rw (room_no (base + record_of fault) (omega (arith, h))) refl

one_row : (base done : ℕ) (row : List Value) (r : Part) → ◌>>=◌ (part_from base (done + 1) r) (λ rows. Ok (row ∷ rows)) ≡ part_from base done (◌>>=◌ r (λ rows. Ok (row ∷ rows)))
unfolding part_from
one_row base done row (Ok rows) =
    let e : base + (done + 1) + length rows ≡ base + done + suc (length rows) = omega arith in
    rw e (by (nat_le (base + done + suc (length rows)) 1048576))
  where
    by : (b : Bool) → ◌>>=◌ (if b then Ok rows else Err faults.TooManyRows) (λ more. Ok (row ∷ more)) ≡ (if b then Ok (row ∷ rows) else Err faults.TooManyRows)
    by true = refl
    by false = refl
one_row base done row (Err fault) = by (nat_le (base + record_of fault) 1048576)
  where
    by : (b : Bool) → ◌>>=◌ {B = List (List Value)} (if b then Err (fault_behind base fault) else Err faults.TooManyRows) (λ more. Ok (row ∷ more)) ≡ (if b then Err (fault_behind base fault) else Err faults.TooManyRows)
    by true = refl
    by false = refl

behind_from : (cols : List ColDecl) (places : List ℕ) (width base done : ℕ) (read : List (List (List ℕ))) → base + done ≤ 1048576
    → rows_from cols places width (base + (done + 1)) read ≡ part_from base done (rows_from cols places width (done + 1) read)
unfolding IsRow part_from
behind_from cols places width base done [] l = rw (room_yes (base + done + 0) (omega arith)) refl
behind_from cols places width base done (x ∷ read) l = elim (cases_lt (base + done) 1048576) [
  | inl lt ↦ below lt (record_row cols places width (done + 1) x) (record_row cols places width (base + (done + 1)) x) (row_behind cols places width base (done + 1) x (omega arith)) (behind_from cols places width base (done + 1) read (omega arith))
  | inr ge ↦ (let e : base + done ≡ 1048576 = omega arith in
      rw (at_limit cols places width (base + (done + 1)) x (omega arith)) (sym (full base done (suc (length read)) _ (omega arith) e (least cols places width (done + 1) (x ∷ read) (omega arith)))))
]
  where
    below : base + done < 1048576 → (r q : Result (List Value) TableFault) → IsRow base (done + 1) r q
        → rows_from cols places width (base + (done + 1 + 1)) read ≡ part_from base (done + 1) (rows_from cols places width (done + 1 + 1) read)
        → ◌>>=◌ q (λ row. ◌>>=◌ (rows_from cols places width (base + (done + 1) + 1) read) (λ rows. Ok (row ∷ rows)))
        ≡ part_from base done (◌>>=◌ r (λ row. ◌>>=◌ (rows_from cols places width (done + 1 + 1) read) (λ rows. Ok (row ∷ rows))))
    below lt (Err fault) q h more = rw (h.0, room_yes (base + record_of fault) (omega (arith, h.1, lt))) refl
    below lt (Ok row) q h more =
        let e : base + (done + 1) + 1 ≡ base + (done + 1 + 1) = omega arith in
        rw (h, e) (ap (λ (r : Part). ◌>>=◌ r (λ rows. Ok (row ∷ rows))) more ∙ one_row base done row (rows_from cols places width (done + 1 + 1) read))

-- a part behind base records
part_behind_is : (cols : List ColDecl) (places : List ℕ) (width base : ℕ) (read : List (List (List ℕ))) → base ≤ 1048576
    → rows_from cols places width (base + 1) read ≡ part_behind base (rows_from cols places width 1 read)
unfolding part_from
part_behind_is cols places width base read l = behind_from cols places width base 0 read (omega arith) ∙ by (rows_from cols places width 1 read)
  where
    by : (r : Part) → part_from base 0 r ≡ part_behind base r
    by (Ok rows) = let e : base + 0 + length rows ≡ base + length rows = omega arith in ap (λ k. if nat_le k 1048576 then Ok rows else Err faults.TooManyRows) e
    by (Err fault) = refl

-- parts behind one another
parts_behind_is : (cols : List ColDecl) (places : List ℕ) (width base : ℕ) (parts : List (List (List (List ℕ)))) → base ≤ 1048576
    → rows_from cols places width (base + 1) (flat_map (λ part. part) parts) ≡ parts_behind base (map (rows_from cols places width 1) parts)
unfolding Least
parts_behind_is cols places width base [] l = refl
parts_behind_is cols places width base (part ∷ parts) l =
    rows_append cols places width (base + 1) part (flat_map (λ p. p) parts)
    ∙ ap (λ r. ◌>>=◌ r (λ rows. ◌>>=◌ (rows_from cols places width (base + 1 + length part) (flat_map (λ p. p) parts)) (λ others. Ok (rows ++ others)))) (part_behind_is cols places width base part l)
    ∙ by (rows_from cols places width 1 part) (least cols places width 1 part (omega arith)) (λ b. parts_behind_is cols places width b parts)
  where
    by : (r : Part) → Least 1 (length part) r → ((b : ℕ) → b ≤ 1048576 → rows_from cols places width (b + 1) (flat_map (λ p. p) parts) ≡ parts_behind b (map (rows_from cols places width 1) parts))
        → ◌>>=◌ (part_behind base r) (λ rows. ◌>>=◌ (rows_from cols places width (base + 1 + length part) (flat_map (λ p. p) parts)) (λ others. Ok (rows ++ others)))
        ≡ ◌>>=◌ (part_behind base r) (λ rows. ◌>>=◌ (parts_behind (base + length rows) (map (rows_from cols places width 1) parts)) (λ others. Ok (rows ++ others)))
    by (Err fault) h more = stop _ _ (nat_le (base + record_of fault) 1048576)
      where
        stop : (f g : List (List Value) → Part) (b : Bool) → ◌>>=◌ (if b then Err (fault_behind base fault) else Err faults.TooManyRows) f ≡ ◌>>=◌ (if b then Err (fault_behind base fault) else Err faults.TooManyRows) g
        stop f g true = refl
        stop f g false = refl
    by (Ok rows) h more = elim (cases_lt (base + length rows) 1048577) [
      | inl lt ↦ (let e : base + 1 + length part ≡ base + length rows + 1 = omega (arith, h) in
          rw (room_yes (base + length rows) (omega arith), e, more (base + length rows) (omega arith)) refl)
      | inr ge ↦ rw (room_no (base + length rows) (omega arith)) refl
    ]

flat_map-map : {A B : Type 0} (f : A → List B) (xs : List A) → flat_map f xs ≡ flat_map (λ p. p) (map f xs)
flat_map-map f [] = refl
flat_map-map f (x ∷ xs) = ap (λ r. f x ++ r) (flat_map-map f xs)

-- the table of a text whose pieces have these records
table_of_reads : (cols : List ColDecl) (bytes : List ℕ) (texts : List (Bor (List ℕ))) (header : List (List ℕ)) (read : List (List (List ℕ))) (d : Bor (List ℕ)) → 0 < length texts
    → records default_config (after_marks bytes) ≡ flat_map read_of texts → read_of (get_or texts 0 d) ≡ header ∷ read
    → table_of cols bytes ≡ ◌>>=◌ (all_or_first (numbered (header_place header) 0 cols)) (λ places. parts_behind 0 (parts_of cols places (length header) (map read_of texts)))
unfolding table_of
table_of_reads cols bytes [] header read d l e head = absurd (omega arith)
table_of_reads cols bytes (t ∷ texts) header read d l e head =
    let all : records default_config (after_marks bytes) ≡ header ∷ flat_map (λ p. p) (read ∷ map read_of texts)
    = e ∙ ap (λ r. r ++ flat_map read_of texts) head ∙ ap (λ r. header ∷ read ++ r) (flat_map-map read_of texts) in
    ap (table_of_records cols) all ∙ by (all_or_first (numbered (header_place header) 0 cols))
  where
    by : (r : Result (List ℕ) TableFault)
        → ◌>>=◌ r (λ places. rows_from cols places (length header) 1 (flat_map (λ p. p) (read ∷ map read_of texts)))
        ≡ ◌>>=◌ r (λ places. parts_behind 0 (parts_of cols places (length header) (map read_of (t ∷ texts))))
    by (Ok places) = parts_behind_is cols places (length header) 0 (read ∷ map read_of texts) (omega arith)
        ∙ ap (λ r. parts_behind 0 (rows_from cols places (length header) 1 r ∷ map (rows_from cols places (length header) 1) (map read_of texts))) (sym (ap (behind_header true) head))
    by (Err fault) = refl

-- the same by what the first piece says as a header
pub table_of_headed : (cols : List ColDecl) (bytes : List ℕ) (texts : List (Bor (List ℕ))) (first : Bor (List ℕ)) (width : ℕ) (places : List ℕ) → 0 < length texts
    → records default_config (after_marks bytes) ≡ flat_map read_of texts → first ≡ get_or texts 0 first → HasHeader cols (read_of first) width (Ok places)
    → table_of cols bytes ≡ parts_behind 0 (parts_of cols places width (map read_of texts))
table_of_headed cols bytes texts first width places l e at head =
    table_of_reads cols bytes texts head.header head.rest first l e (ap read_of (sym at) ∙ head.begins) ∙ rw (head.placed, head.wide) refl

pub table_of_unheaded : (cols : List ColDecl) (bytes : List ℕ) (texts : List (Bor (List ℕ))) (first : Bor (List ℕ)) (width : ℕ) (fault : TableFault) → 0 < length texts
    → records default_config (after_marks bytes) ≡ flat_map read_of texts → first ≡ get_or texts 0 first → HasHeader cols (read_of first) width (Err fault)
    → table_of cols bytes ≡ Err fault
table_of_unheaded cols bytes texts first width fault l e at head =
    table_of_reads cols bytes texts head.header head.rest first l e (ap read_of (sym at) ∙ head.begins) ∙ rw head.placed refl
