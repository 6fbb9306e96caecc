-- How a page goes on, field by field and record by record.
use Rattle.std.proofs.{Common.{◌≡◌, ◌≢◌, ◌∙◌, ◌<◌, ◌+◌, ◌-◌, ◌^◌, ◌==◌, ◌++◌, ◌∷◌, [], ℕ, zero, suc, List, true, false, length, take, get_or, min, refl, sym, ap, subst, arith, append-nil, append_assoc, length-append}, lemmas.Bool.ne_eqb, lemmas.List.take_more}
use Rattle.std.specs.{Prelude.{if◌then◌else◌, ◌||◌, not, Result, Ok, Err, OnOk, is_ok}, List.list_any}
use Rattle.csv.specs.Writing.{default_writer, escaped, field_text, fields_text, fields_written, has_written, is_blank, needs_byte, next_sep, row_body, row_text, tail_text, writer_setup}
use Rattle.csv.specs.declared.writer.QuoteStyle.TheVariants as style
use Rattle.csv.proofs.WriteFacts.{blank-more, row-more}
use Rattle.smk_model.specs.Texts.{record_line}
use Rattle.smk_report.specs.{Pages.{Adds, Says, page_writer, written_by}, declared.page.Page.Page}

-- a record is written the same where records may have any length
same_escaped : (field : List ℕ) → escaped page_writer field ≡ escaped default_writer field
unfolding escaped
same_escaped [] = refl
same_escaped (b ∷ rest) = ap (λ (x : List ℕ). if b == 34 then 34 ∷ b ∷ x else b ∷ x) (same_escaped rest)

same_field : (field : List ℕ) → field_text page_writer field ≡ field_text default_writer field
same_field field = ap (λ (x : List ℕ). if list_any (needs_byte default_writer) field then 34 ∷ (x ++ 34 ∷ []) else field) (same_escaped field)

same_fields : (fields : List (List ℕ)) → fields_text page_writer fields ≡ fields_text default_writer fields
unfolding fields_text
same_fields [] = refl
same_fields (field ∷ rest) = rw (same_field field, same_fields rest) refl

same_blank : (fields : List (List ℕ)) → is_blank page_writer fields ≡ is_blank default_writer fields
unfolding is_blank
same_blank [] = refl
same_blank (field ∷ []) = ap (λ (x : List ℕ). length x == 0) (same_field field)
same_blank (field ∷ next ∷ rest) = refl

same_record : (fields : List (List ℕ)) → row_text page_writer fields ≡ record_line fields
unfolding record_line
same_record [] = rw (same_blank []) refl
same_record (field ∷ rest) = rw (same_field field, same_fields rest, same_blank (field ∷ rest)) refl

-- a count that stops at the largest number still tells no field and one field from others
same_sep : (i n : ℕ) → i ≡ min n (2 ^ 64 - 1) → next_sep page_writer i ≡ next_sep page_writer n
same_sep i zero e =
    let none : i ≡ 0 = omega arith in
    rw none refl
same_sep i (suc n) e = rw (ne_eqb i 0 (λ z. omega arith), ne_eqb (suc n) 0 (λ z. omega arith)) refl

same_few : (i n : ℕ) → i ≡ min n (2 ^ 64 - 1) → ((i == 0) || (i == 1)) ≡ ((n == 0) || (n == 1))
same_few i zero e =
    let none : i ≡ 0 = omega arith in
    rw none refl
same_few i (suc zero) e =
    let one : i ≡ 1 = omega arith in
    rw one refl
same_few i (suc (suc n)) e =
    rw (ne_eqb i 0 (λ z. omega arith), ne_eqb i 1 (λ z. omega arith), ne_eqb (suc (suc n)) 0 (λ z. omega arith), ne_eqb (suc (suc n)) 1 (λ z. omega arith)) refl

-- one more field
pub field_more : (old new : Page) (text : List ℕ) (fields : List (List ℕ)) (field : List ℕ) → Says old text fields
    → writer_setup new.writer ≡ writer_setup old.writer
    → ((writer_setup old.writer).style ≢ style.NonNumeric → written_by new.writer ≡ written_by old.writer ++ (next_sep (writer_setup old.writer) (fields_written old.writer) ++ field_text (writer_setup old.writer) field))
    → fields_written new.writer ≡ min (fields_written old.writer + 1) (2 ^ 64 - 1)
    → (has_written old.writer ≡ false → (writer_setup old.writer).style ≢ style.NonNumeric → has_written new.writer ≡ not (length (field_text (writer_setup old.writer) field) == 0))
    → (has_written old.writer ≡ true → has_written new.writer ≡ true)
    → Says new text (fields ++ field ∷ [])
field_more old new text fields field says setup bytes count first later =
    let size = length-append fields (field ∷ []) in
    let plain : (writer_setup old.writer).style ≢ style.NonNumeric = rw says.setup (λ none. cc none) in
    let next : List ℕ = next_sep page_writer (length fields) ++ field_text page_writer field in
    record {
      setup = setup ∙ says.setup;
      written = bytes plain ∙ rw (says.setup, says.written, same_sep (fields_written old.writer) (length fields) says.count)
          (append_assoc text (row_body page_writer fields) next ∙ ap (λ (x : List ℕ). text ++ x) (sym (row-more page_writer fields field)));
      count = count ∙ omega (arith, size, says.count);
      blank = rw size (blank-more page_writer fields field (has_written old.writer) (has_written new.writer) says.blank (λ e. rw says.setup at (first e plain)) later);
    }

-- the record ends
pub record_more : (old new : Page) (text : List ℕ) (fields : List (List ℕ)) → Says old text fields
    → writer_setup new.writer ≡ writer_setup old.writer
    → written_by new.writer ≡ written_by old.writer ++ tail_text (writer_setup old.writer) (has_written old.writer) (fields_written old.writer)
    → fields_written new.writer ≡ 0 → has_written new.writer ≡ false
    → Says new (text ++ record_line fields) []
unfolding is_blank
record_more old new text fields says setup bytes none clean = record {
  setup = setup ∙ says.setup;
  written = bytes ∙ rw (says.setup, says.written, same_few (fields_written old.writer) (length fields) says.count, ← says.blank)
      (append_assoc text (row_body page_writer fields) _) ∙ ap (λ (x : List ℕ). text ++ x) (same_record fields) ∙ sym (append-nil (text ++ record_line fields));
  count = none;
  blank = rw clean refl;
}

-- what a call that went well says
pub ok_gives : {T E P : Type 0} (r : Result T E) → is_ok r ≡ true → OnOk r P → P
ok_gives (Ok x) e p = p
ok_gives (Err y) e p = cc e

-- the same fields, said otherwise
pub says_same : (page : Page) (text : List ℕ) (fields same : List (List ℕ)) → fields ≡ same → Says page text fields → Says page text same
says_same page text fields same e says = subst (λ (x : List (List ℕ)). Says page text x) e says

pub adds_then : (old mid new : Page) (first last : List ℕ) → Adds old mid first → Adds mid new last → Adds old new (first ++ last)
adds_then old mid new first last one two text says = subst (λ (t : List ℕ). Says new t []) (append_assoc text first last) (two (text ++ first) (one text says))

-- one more item
pub item_more : {A : Type 0} (xs : List A) (i : ℕ) (x : A) → i < length xs → x ≡ get_or xs i x → take (i + 1) xs ≡ take i xs ++ x ∷ []
item_more xs i x h is = take_more xs i x h ∙ ap (λ y. take i xs ++ y ∷ []) (sym is)
