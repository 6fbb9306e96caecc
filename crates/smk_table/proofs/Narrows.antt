-- Output columns and a grouping over the columns that they name are those over all columns.
use Rattle.std.proofs.{Common.{◌≡◌, ◌∙◌, ◌+◌, ◌<◌, ℕ, suc, Bool, true, ◌||◌, List, [], ◌∷◌, ◌++◌, length, map, filter, get_or, All, Some, None, unwrap_or, nat_lt, refl, sym, ap, subst, arith, inl, inr, nat_eq, eqb-true, eq-eqb}, lemmas.Bool.{cases_Bool, false≢true, or_left, or_right}, lemmas.List.{get_or-map, length-map}, lemmas.List.Elements.{filter_agree, All-map}, lemmas.List.Folds.list_any_at}
use Rattle.std.specs.List.{list_any, position, position_or_len}
use Rattle.smk_base.specs.{Aggregates.read_by, Places.{has, places}, Rels.{kind_in, value_in, picked}, declared.value.Kind.Kind, declared.book.plan.Item.Item, declared.book.plan.Agg.Agg, Plans.Grouping}
use Rattle.smk_base.specs.declared.book.plan.Item.TheVariants as items
use Rattle.smk_model.specs.{Values.Row, Plain.{item_at, image, key_of, firsts, aggregate, grouped, row_eq, step1}, Kinds.{ItemFits, AggFits, ItemsFit, GroupFits, IsInt, kind_of_item, kind_of_agg, kinds1}}
use Rattle.smk_model.proofs.{Aggregates.{aggregate_of_made, column_there, kind_of_moved, moved_fits}, Parts.map_agree}
use Rattle.smk_base.proofs.Places.{filter_map, map_map, has_places}
use Rattle.smk_table.specs.Named.{reads, place_of, item_among, agg_among}

-- the place of a column that is there

first_low : (cols : List ℕ) (c : ℕ) → has cols c ≡ true → position_or_len (nat_eq c) cols < length cols
first_low [] c h = absurd (false≢true h)
first_low (x ∷ xs) c h = elim (cases_Bool (nat_eq c x)) [
  | inl e ↦ rw e (omega arith)
  | inr e ↦ (let rest : has xs c ≡ true = rw e at h in let low = first_low xs c rest in rw e (omega (arith, low)))
]

first_is : (cols : List ℕ) (c d : ℕ) → has cols c ≡ true → get_or cols (position_or_len (nat_eq c) cols) d ≡ c
first_is [] c d h = absurd (false≢true h)
first_is (x ∷ xs) c d h = elim (cases_Bool (nat_eq c x)) [
  | inl e ↦ rw e (sym (eqb-true c x e))
  | inr e ↦ (
      let rest : has xs c ≡ true = rw e at h in
      let is = first_is xs c d rest in
      let next : 1 + position_or_len (nat_eq c) xs ≡ suc (position_or_len (nat_eq c) xs) = omega arith in
      rw e (rw next is))
]

place_first : (cols : List ℕ) (c : ℕ) → has cols c ≡ true → place_of cols c ≡ position_or_len (nat_eq c) cols
unfolding place_of
place_first cols c h =
    let low = first_low cols c h in
    elim (cases_Bool (nat_lt (position_or_len (nat_eq c) cols) (length cols))) [
      | inl e ↦ rw e refl
      | inr e ↦ absurd (grind (arith, e, low))
    ]

place_low : (cols : List ℕ) (c : ℕ) → has cols c ≡ true → place_of cols c < length cols
place_low cols c h = rw (place_first cols c h) (first_low cols c h)

place_is : (cols : List ℕ) (c d : ℕ) → has cols c ≡ true → get_or cols (place_of cols c) d ≡ c
place_is cols c d h = rw (place_first cols c h) (first_is cols c d h)

pub place_found : (cols : List ℕ) (c i : ℕ) → position (nat_eq c) cols ≡ Some i → i ≡ place_of cols c
unfolding place_of
place_found cols c i e = rw e refl

pub place_missing : (cols : List ℕ) (c : ℕ) → position (nat_eq c) cols ≡ None → 0 ≡ place_of cols c
unfolding place_of
place_missing cols c e = rw e refl

-- what is read there of the picked columns
read_there : {X : Type 0} (f : ℕ → X) (cols : List ℕ) (c : ℕ) (d : X) → has cols c ≡ true → get_or (map f cols) (place_of cols c) d ≡ f c
read_there f cols c d h = get_or-map f cols (place_of cols c) 0 d (place_low cols c h) ∙ ap f (place_is cols c 0 h)

pub value_there : (cols : List ℕ) (row : Row) (c : ℕ) → has cols c ≡ true → value_in (picked cols row) (place_of cols c) ≡ value_in row c
value_there cols row c h = read_there (value_in row) cols c _ h

pub kind_there : (cols : List ℕ) (kinds : List Kind) (c : ℕ) → has cols c ≡ true → kind_in (map (kind_in kinds) cols) (place_of cols c) ≡ kind_in kinds c
kind_there cols kinds c h = read_there (kind_in kinds) cols c _ h

pub long_there : (cols : List ℕ) (kinds : List Kind) (c : ℕ) → has cols c ≡ true → place_of cols c < length (map (kind_in kinds) cols)
long_there cols kinds c h = omega (arith, length-map cols (kind_in kinds), place_low cols c h)

-- whether the columns have what an output column and an aggregate name

abbrev pub HasItem : List ℕ → Item → Type 0
HasItem cols (items.Col c) = has cols c ≡ true
HasItem cols (items.Bin c w) = has cols c ≡ true

abbrev pub HasAgg : List ℕ → Agg → Type 0
HasAgg cols agg = (c : ℕ) → read_by agg ≡ Some c → has cols c ≡ true

-- lists of them

pub each_agrees : {X Y : Type 0} (P : X → Type 0) (f g : X → Y) (xs : List X) → All P xs → ((x : X) → P x → f x ≡ g x) → map f xs ≡ map g xs
each_agrees P f g [] all h = refl
each_agrees P f g (x ∷ xs) all h = rw (h x (all 0 x (omega arith)), each_agrees P f g xs (λ k d p. all (suc k) d (omega arith)) h) refl

pub each_fits : {X : Type 0} (P Q R : X → Type 0) (xs : List X) → All P xs → All Q xs → ((x : X) → P x → Q x → R x) → All R xs
each_fits P Q R xs p q h k d low = h (get_or xs k d) (p k d low) (q k d low)

item_there : (cols : List ℕ) (row : Row) (item : Item) → HasItem cols item → item_at (picked cols row) (item_among cols item) ≡ item_at row item
item_there cols row (items.Col c) h = value_there cols row c h
item_there cols row (items.Bin c w) h = rw (value_there cols row c h) refl

pub image_there : (cols : List ℕ) (of : List Item) (row : Row) → All (HasItem cols) of → image (map (item_among cols) of) (picked cols row) ≡ image of row
image_there cols of row all =
    map_map (item_at (picked cols row)) (item_among cols) of ∙ each_agrees (HasItem cols) (λ item. item_at (picked cols row) (item_among cols item)) (item_at row) of all (item_there cols row)

pub key_there : (cols keys : List ℕ) (row : Row) → All (λ c. has cols c ≡ true) keys → key_of (map (place_of cols) keys) (picked cols row) ≡ key_of keys row
key_there cols keys row all =
    map_map (value_in (picked cols row)) (place_of cols) keys ∙ each_agrees (λ c. has cols c ≡ true) (λ c. value_in (picked cols row) (place_of cols c)) (value_in row) keys all (value_there cols row)

pub agg_there : (cols : List ℕ) (rows : List Row) (agg : Agg) → HasAgg cols agg → aggregate (map (picked cols) rows) (agg_among cols agg) ≡ aggregate rows agg
agg_there cols rows agg h = aggregate_of_made agg (place_of cols (unwrap_or (read_by agg) 0)) (picked cols) rows (λ c r row. rw r (value_there cols row c (h c r)))

members_there : (cols keys : List ℕ) (rows : List Row) (key : Row) → All (λ c. has cols c ≡ true) keys
    → filter (λ row. row_eq key (key_of (map (place_of cols) keys) row)) (map (picked cols) rows) ≡ map (picked cols) (filter (λ row. row_eq key (key_of keys row)) rows)
members_there cols keys rows key all =
    let keys' = map (place_of cols) keys in
    filter_map (λ row. row_eq key (key_of keys' row)) (picked cols) rows
    ∙ ap (map (picked cols)) (filter_agree (λ row. row_eq key (key_of keys' (picked cols row))) (λ row. row_eq key (key_of keys row)) (λ row. ap (row_eq key) (key_there cols keys row all)) rows)

group_there : (cols keys : List ℕ) (aggs : List Agg) (rows : List Row) (key : Row) → All (λ c. has cols c ≡ true) keys → All (HasAgg cols) aggs
    → grouped (map (place_of cols) keys) (map (agg_among cols) aggs) (map (picked cols) rows) key ≡ grouped keys aggs rows key
group_there cols keys aggs rows key all each =
    let group = filter (λ row. row_eq key (key_of keys row)) rows in
    ap (λ members. key ++ map (aggregate members) (map (agg_among cols) aggs)) (members_there cols keys rows key all)
    ∙ ap (λ z. key ++ z) (map_map (aggregate (map (picked cols) group)) (agg_among cols) aggs ∙ each_agrees (HasAgg cols) (λ agg. aggregate (map (picked cols) group) (agg_among cols agg)) (aggregate group) aggs each (agg_there cols group))

-- output columns

pub images_there : (cols : List ℕ) (of : List Item) (L : List Row) → All (HasItem cols) of → map (image (map (item_among cols) of)) (map (picked cols) L) ≡ map (image of) L
images_there cols of L all =
    map_map (image (map (item_among cols) of)) (picked cols) L ∙ map_agree (λ row. image (map (item_among cols) of) (picked cols row)) (image of) (λ row. image_there cols of row all) L

item_kind : (cols : List ℕ) (kinds : List Kind) (item : Item) → HasItem cols item → kind_of_item (map (kind_in kinds) cols) (item_among cols item) ≡ kind_of_item kinds item
item_kind cols kinds (items.Col c) h = kind_there cols kinds c h
item_kind cols kinds (items.Bin c w) h = kind_there cols kinds c h

pub item_kinds : (cols : List ℕ) (kinds : List Kind) (of : List Item) → All (HasItem cols) of → map (kind_of_item (map (kind_in kinds) cols)) (map (item_among cols) of) ≡ map (kind_of_item kinds) of
item_kinds cols kinds of all =
    map_map (kind_of_item (map (kind_in kinds) cols)) (item_among cols) of ∙ each_agrees (HasItem cols) (λ item. kind_of_item (map (kind_in kinds) cols) (item_among cols item)) (kind_of_item kinds) of all (item_kind cols kinds)

item_fits : (cols : List ℕ) (kinds : List Kind) (item : Item) → HasItem cols item → ItemFits kinds item → ItemFits (map (kind_in kinds) cols) (item_among cols item)
item_fits cols kinds (items.Col c) h fits = long_there cols kinds c h
item_fits cols kinds (items.Bin c w) h fits = (long_there cols kinds c h, subst IsInt (sym (kind_there cols kinds c h)) fits.1, fits.2)

pub items_fit : (cols : List ℕ) (kinds : List Kind) (of : List Item) → All (HasItem cols) of → ItemsFit kinds of → ItemsFit (map (kind_in kinds) cols) (map (item_among cols) of)
items_fit cols kinds of all fits = record {
  each = All-map (ItemFits (map (kind_in kinds) cols)) (item_among cols) of (each_fits (HasItem cols) (ItemFits kinds) (λ item. ItemFits (map (kind_in kinds) cols) (item_among cols item)) of all fits.each (item_fits cols kinds));
  few = omega (arith, fits.few, length-map of (item_among cols));
}

-- a grouping

pub keys_there : (cols keys : List ℕ) (L : List Row) → All (λ c. has cols c ≡ true) keys → map (key_of (map (place_of cols) keys)) (map (picked cols) L) ≡ map (key_of keys) L
keys_there cols keys L all =
    map_map (key_of (map (place_of cols) keys)) (picked cols) L ∙ map_agree (λ row. key_of (map (place_of cols) keys) (picked cols row)) (key_of keys) (λ row. key_there cols keys row all) L

pub group_rows : (cols keys : List ℕ) (aggs : List Agg) (L : List Row) → All (λ c. has cols c ≡ true) keys → All (HasAgg cols) aggs
    → step1 (Grouping (map (place_of cols) keys) (map (agg_among cols) aggs)) (map (picked cols) L) ≡ step1 (Grouping keys aggs) L
group_rows cols keys aggs L all each =
    let keys' = map (place_of cols) keys in
    let aggs' = map (agg_among cols) aggs in
    ap (λ ks. map (grouped keys' aggs' (map (picked cols) L)) (firsts ks)) (keys_there cols keys L all)
    ∙ map_agree (grouped keys' aggs' (map (picked cols) L)) (grouped keys aggs L) (λ key. group_there cols keys aggs L key all each) (firsts (map (key_of keys) L))

agg_kind : (cols : List ℕ) (kinds : List Kind) (agg : Agg) → HasAgg cols agg → kind_of_agg (map (kind_in kinds) cols) (agg_among cols agg) ≡ kind_of_agg kinds agg
agg_kind cols kinds agg h = kind_of_moved agg (place_of cols (unwrap_or (read_by agg) 0)) (map (kind_in kinds) cols) kinds (λ c r. rw r (kind_there cols kinds c (h c r)))

pub group_kinds : (cols keys : List ℕ) (aggs : List Agg) (kinds : List Kind) → All (λ c. has cols c ≡ true) keys → All (HasAgg cols) aggs
    → kinds1 (Grouping (map (place_of cols) keys) (map (agg_among cols) aggs)) (map (kind_in kinds) cols) ≡ kinds1 (Grouping keys aggs) kinds
group_kinds cols keys aggs kinds all aggs_all =
    let fewer = map (kind_in kinds) cols in
    let first : map (kind_in fewer) (map (place_of cols) keys) ≡ map (kind_in kinds) keys =
    map_map (kind_in fewer) (place_of cols) keys ∙ each_agrees (λ c. has cols c ≡ true) (λ c. kind_in fewer (place_of cols c)) (kind_in kinds) keys all (kind_there cols kinds) in
    let rest : map (kind_of_agg fewer) (map (agg_among cols) aggs) ≡ map (kind_of_agg kinds) aggs =
    map_map (kind_of_agg fewer) (agg_among cols) aggs ∙ each_agrees (HasAgg cols) (λ agg. kind_of_agg fewer (agg_among cols agg)) (kind_of_agg kinds) aggs aggs_all (agg_kind cols kinds) in
    rw (first, rest) refl

agg_fits : (cols : List ℕ) (kinds : List Kind) (agg : Agg) → HasAgg cols agg → AggFits kinds agg → AggFits (map (kind_in kinds) cols) (agg_among cols agg)
agg_fits cols kinds agg h fits = moved_fits agg (place_of cols (unwrap_or (read_by agg) 0)) (map (kind_in kinds) cols) kinds (λ c r. rw r (long_there cols kinds c (h c r), kind_there cols kinds c (h c r))) (λ c r. fits)

pub group_fits : (cols keys : List ℕ) (aggs : List Agg) (kinds : List Kind) → All (λ c. has cols c ≡ true) keys → All (HasAgg cols) aggs → GroupFits kinds keys aggs
    → GroupFits (map (kind_in kinds) cols) (map (place_of cols) keys) (map (agg_among cols) aggs)
group_fits cols keys aggs kinds all aggs_all fits =
    let fewer = map (kind_in kinds) cols in
    record {
      keyed = All-map (λ c. c < length fewer) (place_of cols) keys (λ k d low. long_there cols kinds (get_or keys k d) (all k d low));
      each = All-map (AggFits fewer) (agg_among cols) aggs (each_fits (HasAgg cols) (AggFits kinds) (λ agg. AggFits fewer (agg_among cols agg)) aggs aggs_all fits.each (agg_fits cols kinds));
      some = omega (arith, fits.some, length-map keys (place_of cols), length-map aggs (agg_among cols));
      few = omega (arith, fits.few, length-map keys (place_of cols), length-map aggs (agg_among cols));
    }

-- the places of a test have what passes it

pub has_passing : (t : ℕ → Bool) (n c : ℕ) → c < n → t c ≡ true → has (places t n) c ≡ true
has_passing t n c low h = has_places t n c low ∙ h

pub agg_passing : (t : ℕ → Bool) (kinds : List Kind) (agg : Agg) → AggFits kinds agg → ((c : ℕ) → reads c agg ≡ true → t c ≡ true) → HasAgg (places t (length kinds)) agg
agg_passing t kinds agg fits h c r = has_passing t (length kinds) c (column_there agg kinds c fits r) (h c (rw r (eq-eqb c c refl)))

pub has_keys : (keys : List ℕ) (aggs : List Agg) (kinds : List Kind) → GroupFits kinds keys aggs → All (λ c. has (places (λ c. has keys c || list_any (reads c) aggs) (length kinds)) c ≡ true) keys
has_keys keys aggs kinds fits k d low =
    let c = get_or keys k d in
    has_passing (λ c. has keys c || list_any (reads c) aggs) (length kinds) c (fits.keyed k d low) (or_left (has keys c) _ (list_any_at (nat_eq c) keys k d low (eq-eqb c c refl)))

pub has_aggs : (keys : List ℕ) (aggs : List Agg) (kinds : List Kind) → GroupFits kinds keys aggs → All (HasAgg (places (λ c. has keys c || list_any (reads c) aggs) (length kinds))) aggs
has_aggs keys aggs kinds fits k d low =
    agg_passing (λ c. has keys c || list_any (reads c) aggs) kinds (get_or aggs k d) (fits.each k d low) (λ c e. or_right (has keys c) _ (list_any_at (reads c) aggs k d low e))
