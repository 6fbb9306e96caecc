-- How many rows tables and views have, one number each.
use Rattle.std.specs.{Prelude.{◌-◌, length, map, take, drop, slice_index_or}, List.flat_map}
use Rattle.std.proofs.{Common.{◌≡◌, ℕ, List, ◌++◌, ◌+◌, ap, sym, ◌∙◌, ◌≤◌, arith}, lemmas.List.{take-map, drop_at, take_at, length-map}}
use Rattle.smk_base.specs.{CatalogImage.CatalogImage, Places.upto}
use Rattle.smk_model.specs.{OwnTexts.{declarations_text, schema_line, schema_text, table_info_text, table_schema}, Session.{State, first_content, rows_of_table, view_at}, Typing.info_at}
use Rattle.smk_report.specs.Schemas.{schema_over, view_over, views_over}
use Rattle.smk_base.proofs.Places.{flat_map_map, get_or_map_upto, length_upto, map_upto_agree, upto_add}

-- the texts with the numbers that were counted are those with what was counted
pub counted_texts : (say : ℕ → ℕ → List ℕ) (f : ℕ → ℕ) (n : ℕ) (counts : List ℕ) → counts ≡ map f (upto n) → flat_map (λ t. say t (slice_index_or counts t 0)) (upto n) ≡ flat_map (λ t. say t (f t)) (upto n)
counted_texts say f n counts is =
    sym (flat_map_map (λ bytes. bytes) (λ t. say t (slice_index_or counts t 0)) (upto n))
    ∙ ap (flat_map (λ bytes. bytes)) (map_upto_agree (λ t. say t (slice_index_or counts t 0)) (λ t. say t (f t)) n (λ t low. ap (say t) (ap (λ cs. slice_index_or cs t 0) is ∙ get_or_map_upto f n t 0 low)))
    ∙ flat_map_map (λ bytes. bytes) (λ t. say t (f t)) (upto n)

-- numbers of a stretch, which are those that a part has of all
pub stretch : (from count n : ℕ) → from + count ≤ n → take count (drop from (upto n)) ≡ map (λ k. from + k) (upto count)
stretch from count n within =
    let parted : upto n ≡ upto from ++ map (λ k. from + k) (upto (n - from)) = ap upto (let e : n ≡ from + (n - from) = omega (arith, within) in e) ∙ upto_add from (n - from) in
    let more : upto (n - from) ≡ upto count ++ map (λ k. count + k) (upto (n - from - count)) = ap upto (let e : n - from ≡ count + (n - from - count) = omega (arith, within) in e) ∙ upto_add count (n - from - count) in
    ap (λ ns. take count (drop from ns)) parted
    ∙ ap (take count) (drop_at (upto from) (map (λ k. from + k) (upto (n - from))) from (length_upto from))
    ∙ take-map (λ k. from + k) count (upto (n - from))
    ∙ ap (λ ns. map (λ k. from + k) (take count ns)) more
    ∙ ap (map (λ k. from + k)) (take_at (upto count) (map (λ k. count + k) (upto (n - from - count))) count (length_upto count))

pub counted_long : (f : ℕ → ℕ) (n : ℕ) (counts : List ℕ) → counts ≡ map f (upto n) → length counts ≡ n
counted_long f n counts is = ap length is ∙ length-map (upto n) f ∙ length_upto n

-- the text of what there is, with the numbers that were counted
pub counted_schema : (catalog : CatalogImage) (fds : List (List ℕ)) (state : State) (views : ℕ) (table_rows view_rows : List ℕ) → length catalog.views ≡ views
    → table_rows ≡ map (λ t. length (rows_of_table state t)) (upto (length catalog.tables)) → view_rows ≡ map (λ v. length (first_content catalog state v)) (upto views)
    → schema_over catalog fds table_rows view_rows ≡ schema_text (record { catalog = catalog; fds = fds }) state
counted_schema catalog fds state views table_rows view_rows long is are =
    let shown = are ∙ ap (λ n. map (λ v. length (first_content catalog state v)) (upto n)) (sym long) in
    ap (λ text. schema_line catalog ++ text ++ views_over catalog view_rows ++ declarations_text catalog fds) (counted_texts (λ t n. table_info_text (info_at catalog.tables t) n) (λ t. length (rows_of_table state t)) (length catalog.tables) table_rows is)
    ∙ ap (λ text. schema_line catalog ++ flat_map (table_schema catalog state) (upto (length catalog.tables)) ++ text ++ declarations_text catalog fds) (counted_texts (λ v n. view_over (view_at catalog v) n) (λ v. length (first_content catalog state v)) (length catalog.views) view_rows shown)
