-- Counts over the rows of marks, and aggregates over one column of these rows.
use Rattle.std.proofs.{Common.{◌≡◌, ℕ, true, is_none, Some, List, [], ◌∷◌, ◌++◌, length, map, take, ap, sym, ◌∙◌, get_or, nat_eq}, lemmas.List.{get_or-map, length-map}, lemmas.List.Sums.AllPass-from_list_all, lemmas.Bool.false≢true}
use Rattle.std.specs.List.{list_all}
use Rattle.smk_base.specs.{Aggregates.{moved_to, read_by}, declared.book.plan.Agg.Agg, declared.value.Value.Value}
use Rattle.smk_model.specs.{Values.{Row, value_at}, Plain.aggregate, Lineage.{places, row_at, sub, upto}}
use Rattle.smk_model.proofs.{Aggregates.{aggregate_moved, moved_to_own}, Parts.map_agree}
use Rattle.smk_base.proofs.Places.{map_map, places_below}
use Rattle.smk_keys.specs.Classes.{ClassesImage, first_items}
use Rattle.smk_body.specs.Halves.{class_places, class_values}
use Rattle.smk_body.proofs.Aggregating.{map_where}
use Rattle.smk_marks.specs.{Marks.{reads_none, marked_group, with_mark}, MarkLaws.CountsAlone}
use Rattle.smk_marks.proofs.Classed.{map_below}

-- counts alone

pub none_read : (agg : Agg) (c : ℕ) → reads_none agg ≡ true → read_by agg ≡ Some c → ⊥
none_read agg c none reads = false≢true (sym (ap is_none reads) ∙ none)

same_counts : (A B : List Row) → length A ≡ length B → (aggs : List Agg) → list_all reads_none aggs ≡ true → map (aggregate A) aggs ≡ map (aggregate B) aggs
same_counts A B e aggs all =
    map_where (aggregate A) (aggregate B) (λ agg. reads_none agg ≡ true) aggs
    (λ agg none. ap (aggregate A) (sym (moved_to_own agg 0 (λ c r. absurd (none_read agg c none r)))) ∙ aggregate_moved agg 0 A B e (λ c r. absurd (none_read agg c none r))) (AllPass-from_list_all reads_none aggs all)

as_many : (marks : List ℕ) (rows others : List Row) (m : ℕ) → length rows ≡ length others → length (with_mark marks rows m) ≡ length (with_mark marks others m)
as_many marks rows others m e =
    let P = λ (n : ℕ). places (λ i. nat_eq (get_or marks i 0) m) n in
    length-map (P (length rows)) (row_at rows) ∙ ap (λ n. length (P n)) e ∙ sym (length-map (P (length others)) (row_at others))

pub counts_alone : CountsAlone
counts_alone k aggs content marks rows others all e =
    map_agree (marked_group k aggs content marks rows) (marked_group k aggs content marks others)
    (λ m. ap (λ z. take k (row_at content m) ++ z) (same_counts (with_mark marks rows m) (with_mark marks others m) (as_many marks rows others m e) aggs all)) (first_items nat_eq marks)

-- one column of the rows

-- column c of each row
abbrev pub column : ℕ → Row → Row
column c row = value_at row c ∷ []

-- over the rows of each class
pub class_moved : (agg : Agg) (classes : ClassesImage) (read rows : List Row) → length read ≡ length rows → ((c : ℕ) → read_by agg ≡ Some c → read ≡ map (column c) rows) → class_values classes read (moved_to 0 agg) ≡ class_values classes rows agg
class_moved agg classes read rows long same =
    let n = length rows in
    let A = λ (p : ℕ). class_places classes.of n p in
    ap (λ (m : ℕ). map (λ p. aggregate (sub read (class_places classes.of m p)) (moved_to 0 agg) ∷ []) (upto (length classes.firsts))) long
    ∙ map_agree (λ p. aggregate (sub read (A p)) (moved_to 0 agg) ∷ []) (λ p. aggregate (sub rows (A p)) agg ∷ [])
    (λ p. ap (λ (v : Value). v ∷ []) (aggregate_moved agg 0 (sub read (A p)) (sub rows (A p)) (length-map (A p) (row_at read) ∙ sym (length-map (A p) (row_at rows))) (λ c r.
    map_map (λ (row : Row). value_at row 0) (row_at read) (A p)
    ∙ map_below (λ i. value_at (row_at read i) 0) (λ i. value_at (row_at rows i) c) n (A p) (places_below (λ i. nat_eq (get_or classes.of i 0) p) n) (λ i l. ap (λ (z : List Row). value_at (row_at z i) 0) (same c r) ∙ ap (λ (row : Row). value_at row 0) (get_or-map (column c) rows i [] [] l))
    ∙ sym (map_map (λ (row : Row). value_at row c) (row_at rows) (A p))))) (upto (length classes.firsts))
