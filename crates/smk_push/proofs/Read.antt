-- Aggregates over no columns but those that they read.
use Rattle.std.proofs.{Common.{◌≡◌, ◌∙◌, ◌<◌, ◌≤◌, ◌+◌, ◌++◌, ◌∷◌, [], ℕ, pos, Some, None, List, All, length, map, get_or, refl, sym, ap, subst, arith, inl, inr}, lemmas.Bool.cases_lt, lemmas.List.{get_or-map, get_or_append_left, get_or_default, get_or_push, append-nil, length-append, length-map, length_push, same_lists}, lemmas.List.Elements.All-push, lemmas.Option.none-some}
use Rattle.smk_base.specs.{Aggregates.{moved_to, read_by}, Rels.{Relation, kind_in, picked, row_in, rows_at}, declared.book.plan.Agg.Agg, declared.book.plan.Agg.TheVariants.Count, declared.value.Kind.Kind, declared.value.Value.TheVariants.Int}
use Rattle.smk_base.specs.declared.value.Kind.TheVariants as kinds
use Rattle.smk_model.specs.{Kinds.{AggFits, kind_of_agg}, Plain.aggregate, Values.{Row, value_at}}
use Rattle.smk_model.proofs.Aggregates.{aggregate_of_made, kind_of_moved, moved_fits}
use Rattle.smk_base.proofs.Places.{map_map}
use Rattle.smk_body.proofs.Aggregating.{map_where}
use Rattle.smk_push.specs.Inputs.{AreRead}

-- an aggregate over a place among columns that has the column which another reads
pub record Stands (cols : List ℕ) (agg over : Agg) : Type 0 where
  pub place : ℕ
  pub moved : over ≡ moved_to place agg
  pub reads : (c : ℕ) → read_by agg ≡ Some c → (place < length cols) × (get_or cols place 0 ≡ c)

-- the first n aggregates are over columns that some of so many columns are
pub record IsRead (width : ℕ) (aggs : List Agg) (n : ℕ) (over : List Agg) (cols : List ℕ) : Type 0 where
  pub long : length over ≡ n
  pub few : length cols ≤ n
  pub within : All (λ c. c < width) cols
  pub each : (k : ℕ) → k < n → Stands cols (get_or aggs k Count) (get_or over k Count)

-- one aggregate more, with the column that it reads
one_more : (width : ℕ) (aggs : List Agg) (n : ℕ) (over : List Agg) (cols more : List ℕ) → IsRead width aggs n over cols → length more ≤ 1 → All (λ c. c < width) (cols ++ more)
    → ((c : ℕ) → read_by (get_or aggs n Count) ≡ Some c → more ≡ c ∷ []) → IsRead width aggs (n + 1) (over ++ moved_to (length cols) (get_or aggs n Count) ∷ []) (cols ++ more)
one_more width aggs n over cols more so few within read =
    let last = moved_to (length cols) (get_or aggs n Count) in
    record {
      long = omega (arith, length_push over last, so.long);
      few = omega (arith, length-append cols more, so.few, few);
      within = within;
      each = λ k h. elim (cases_lt k n) [
        | inl less ↦ (
            let old = so.each k less in
            rw (get_or_append_left over (last ∷ []) Count k (omega (arith, so.long, less))) (record {
              place = old.place;
              moved = old.moved;
              reads = λ c r. (omega (arith, length-append cols more, (old.reads c r).0), get_or_append_left cols more 0 old.place (old.reads c r).0 ∙ (old.reads c r).1);
            }))
        | inr above ↦ (
            let here : k ≡ n = omega arith in
            rw (here, get_or_push over last Count n so.long) (record {
              place = length cols;
              moved = refl;
              reads = λ c r. rw (read c r) (omega (arith, length_push cols c), get_or_push cols c 0 (length cols) refl);
            }))
      ];
    }

pub IsRead-count : (width : ℕ) (aggs : List Agg) (n : ℕ) (over : List Agg) (cols : List ℕ) → IsRead width aggs n over cols → read_by (get_or aggs n Count) ≡ None
    → IsRead width aggs (n + 1) (over ++ moved_to (length cols) (get_or aggs n Count) ∷ []) cols
IsRead-count width aggs n over cols so none =
    subst (IsRead width aggs (n + 1) (over ++ moved_to (length cols) (get_or aggs n Count) ∷ [])) (append-nil cols)
    (one_more width aggs n over cols [] so (omega arith) (rw (append-nil cols) so.within) (λ c r. (let no : None ≡ Some c = sym none ∙ r in absurd (none-some c no))))

pub IsRead-column : (width : ℕ) (aggs : List Agg) (n : ℕ) (over : List Agg) (cols : List ℕ) (c : ℕ) → IsRead width aggs n over cols → read_by (get_or aggs n Count) ≡ Some c → c < width
    → IsRead width aggs (n + 1) (over ++ moved_to (length cols) (get_or aggs n Count) ∷ []) (cols ++ c ∷ [])
IsRead-column width aggs n over cols c so some low =
    one_more width aggs n over cols (c ∷ []) so (omega arith) (All-push (λ x. x < width) cols c so.within low) (λ x r. (let same : Some c ≡ Some x = sym some ∙ r in let e : c ≡ x = cc in ap (λ (z : ℕ). z ∷ []) e))

-- a value, a kind at the place of a column
value_there : (cols : List ℕ) (p c : ℕ) (row : Row) → (p < length cols) × (get_or cols p 0 ≡ c) → value_at (picked cols row) p ≡ value_at row c
value_there cols p c row at = get_or-map (value_at row) cols p 0 (Int (pos 0)) at.0 ∙ ap (value_at row) at.1

kind_there : (cols : List ℕ) (p c : ℕ) (ks : List Kind) → (p < length cols) × (get_or cols p 0 ≡ c) → kind_in (map (kind_in ks) cols) p ≡ kind_in ks c
kind_there cols p c ks at = get_or-map (kind_in ks) cols p 0 kinds.Text at.0 ∙ ap (kind_in ks) at.1

-- what is made of each of the aggregates
each_same : {Y : Type 0} (f g : Agg → Y) (aggs over : List Agg) → length over ≡ length aggs → ((k : ℕ) → k < length aggs → f (get_or over k Count) ≡ g (get_or aggs k Count)) → map f over ≡ map g aggs
each_same f g aggs over long h = same_lists (map f over) (map g aggs) (length-map over f ∙ long ∙ sym (length-map aggs g)) (λ k d l.
    let low : k < length aggs = omega (arith, l, length-map over f, long) in
    get_or-map f over k Count d (omega (arith, low, long)) ∙ h k low ∙ sym (get_or-map g aggs k Count d low))

-- rows at places, of columns
pub rows_picked : (cols : List ℕ) (rows : List Row) (A : List ℕ) → All (λ r. r < length rows) A → rows_at (map (picked cols) rows) A ≡ map (picked cols) (rows_at rows A)
rows_picked cols rows A low = map_where (row_in (map (picked cols) rows)) (λ i. picked cols (row_in rows i)) (λ i. i < length rows) A (λ i h. get_or-map (picked cols) rows i [] [] h) low ∙ sym (map_map (picked cols) (row_in rows) A)

pub AreRead-all : (all rows : Relation) (aggs over : List Agg) (cols : List ℕ) (n : ℕ) → n ≡ length aggs → All (AggFits all.kinds) aggs → IsRead (length all.kinds) aggs n over cols
    → rows ≡ record { kinds = map (kind_in all.kinds) cols; rows = map (picked cols) all.rows } → AreRead all aggs rows over
AreRead-all all rows aggs over cols n e fits so is =
    let stands : (k : ℕ) → k < length aggs → Stands cols (get_or aggs k Count) (get_or over k Count) = λ k h. so.each k (omega (arith, e)) in
    let long : length over ≡ length aggs = so.long ∙ e in
    rw is (record {
      fits = λ k d h.
          let low : k < length aggs = omega (arith, h, long) in
          let s = stands k low in
          rw (get_or_default over k d Count h, s.moved)
          (moved_fits (get_or aggs k Count) s.place (map (kind_in all.kinds) cols) all.kinds (λ c r. (omega (arith, length-map cols (kind_in all.kinds), (s.reads c r).0), kind_there cols s.place c all.kinds (s.reads c r))) (λ c r. fits k Count low));
      kinds = each_same (kind_of_agg (map (kind_in all.kinds) cols)) (kind_of_agg all.kinds) aggs over long (λ k h.
          let s = stands k h in
          ap (kind_of_agg (map (kind_in all.kinds) cols)) s.moved ∙ kind_of_moved (get_or aggs k Count) s.place (map (kind_in all.kinds) cols) all.kinds (λ c r. kind_there cols s.place c all.kinds (s.reads c r)));
      long = length-map all.rows (picked cols);
      values = λ A low.
          let R = rows_at all.rows A in
          ap (λ z. map (aggregate z) over) (rows_picked cols all.rows A low)
          ∙ each_same (aggregate (map (picked cols) R)) (aggregate R) aggs over long (λ k h.
          let s = stands k h in
          ap (aggregate (map (picked cols) R)) s.moved ∙ aggregate_of_made (get_or aggs k Count) s.place (picked cols) R (λ c r row. value_there cols s.place c row (s.reads c r)));
    })
