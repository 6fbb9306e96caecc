-- What is kept for the declarations, one after the other, and where it is found.
use Rattle.std.proofs.{Common.{◌≡◌, ℕ, zero, suc, ◌+◌, ◌<◌, ◌≤◌, Bool, true, false, ◌&&◌, ◌||◌, cond, List, [], ◌∷◌, ◌++◌, length, take, get_or, refl, ap, sym, ◌∙◌, subst, arith, nat_eq, Option, Some, None, Ok, Err, ok_or, option_map, is_some, slice_get, All, inl, inr, append_assoc, append-nil, take_all}, lemmas.Bool.{cases_Bool, eqb-true, false≢true, and_parts}, lemmas.List.{get_or-map, length-map, map-append, take_more}, lemmas.List.Elements.{All-head, All-tail, filter_map-append}, lemmas.List.Sums.{sum_by_more, sum_by-take-le}, lemmas.Slice.Zip.AllZip-long}
use Rattle.std.specs.{List.{AllZip, cons_option, filter, filter_map, list_any, position_or_len, sum_by}, Option.{option_or, option_to_list}}
use Rattle.smk_base.specs.{CatalogImage.{catalog_image, view_image}, Places.Lists, Rels.Relation, declared.book.catalog.Back.Back, declared.book.catalog.BackExtra.BackExtra, declared.book.catalog.Catalog.Catalog, declared.book.catalog.TableInfo.TableInfo, declared.reply.Refusal.TheVariants.Undeclared, declared.value.Kind.Kind}
use Rattle.smk_base.specs.declared.book.catalog.BackExtra.TheVariants as extras
use Rattle.smk_model.specs.{Catalogs.{BackFits, ExtraFits, GroupingFits, table_kinds}, Looks.looks_of_back, Opening.first_some, Replies.{Grouped, first_grouping, grouping_in, is_by, is_split}, Session.{Workbook, view_at}, Typing.info_at, Workload.is_back}
use Rattle.smk_base.proofs.Places.{get_or_map_upto}
use Rattle.smk_compose.specs.declared.kept_maps.Run.{Run}
use Rattle.smk_skip.specs.Splits.{SplitImage}
use Rattle.smk_session.specs.{Kept.kept_back, Extras.{backs_of, split_on, cubes_on, split_for, cubes_for, split_in, cubes_in, asks_split, asks_groups, split_place, cubes_place}, Making.{AreNow, IsDeclared, IsMadeFor, cubes_wanted, declared_in, looks_wanted, newer, split_wanted}, Opened.{AreOpened, opened, workbook_image}, declared.start.making.ExtraAsked.ExtraAsked, declared.start.making.SplitOrCubes.SplitOrCubes}
use Rattle.smk_session.proofs.{KeptOf.kept_back_is, OpenedViews.views_long}
use Rattle.smk_model.proofs.Anys.{and_false}

-- a view whose place is taken
pub now_fresh : (fresh : List (Option Run)) (views : List Run) (v : ℕ) (run : Run) → get_or fresh v None ≡ Some run → newer (get_or fresh v None) (get_or views v run) ≡ run
now_fresh fresh views v run at = ap (λ (o : Option Run). newer o (get_or views v run)) at

-- views none of whose places are taken
pub just_opened : (catalog : Catalog) (tables : List Relation) (views : List Run) → AreOpened catalog tables views → AreNow catalog tables views []
just_opened catalog tables views o = record {
  kinds = o.kinds;
  long = views_long catalog tables views o;
  views_are = λ v run low.
      let below : v < length (catalog_image catalog).views = omega (arith, low, length-map catalog.views view_image) in
      ap (λ (runs : List Run). get_or runs v run) o.views_are ∙ get_or_map_upto (opened (workbook_image catalog tables)) (length (catalog_image catalog).views) v run below;
}

-- what a start makes is all that is asked for

pub splits_whole : (book : Workbook) (grown : Option ℕ) → grown ≡ None → split_wanted book grown ≡ split_in book
splits_whole book grown is = ap (split_wanted book) is

pub cubes_whole : (book : Workbook) (grown : Option ℕ) → grown ≡ None → cubes_wanted book grown ≡ cubes_in book
cubes_whole book grown is = ap (cubes_wanted book) is

pub looks_whole : (book : Workbook) (grown : Option ℕ) → grown ≡ None → looks_wanted book grown ≡ looks_of_back book
looks_whole book grown is = ap (looks_wanted book) is

-- the lineage of a declaration is kept

pub declared_kept : (catalog : Catalog) (tables : List Relation) (declared : Back) (run : Run) → IsDeclared catalog declared → run ≡ opened (workbook_image catalog tables) declared.view
    → kept_back run.kept declared.table ≡ Ok (backs_of (workbook_image catalog tables) declared.view declared.table)
declared_kept catalog tables declared run d is =
    let book : Workbook = workbook_image catalog tables in
    ap (λ (r : Run). kept_back r.kept declared.table) is
    ∙ kept_back_is book.catalog (view_at book.catalog declared.view).plan book.tables declared.view declared.table d.fits.table
    ∙ ap (λ (b : Bool). cond b (Ok (backs_of book declared.view declared.table)) (Err Undeclared)) d.declares

pub told_some : {X : Type 0} (value : X → Lists) (told : Option X) (x : X) (found : Option Lists) (m : Lists) → option_map value told ≡ found → told ≡ Some x → ok_or found Undeclared ≡ Ok m → value x ≡ m
told_some value told x found m is some kept =
    let here : ok_or (Some (value x)) Undeclared ≡ Ok m = ap (λ o. ok_or (option_map value o) Undeclared) (sym some) ∙ ap (λ o. ok_or o Undeclared) is ∙ kept in
    cc

pub told_none : {X : Type 0} (value : X → Lists) (told : Option X) (found : Option Lists) (m : Lists) → option_map value told ≡ found → told ≡ None → ok_or found Undeclared ≡ Ok m → ⊥
told_none value told found m is none kept =
    let here : ok_or (option_map value None) Undeclared ≡ Ok m = ap (λ o. ok_or (option_map value o) Undeclared) (sym none) ∙ ap (λ o. ok_or o Undeclared) is ∙ kept in
    absurd (cc)

-- what is kept for one declaration more

one_kept : {X Y : Type 0} (h : X → Option Y) (x : X) → filter_map h (x ∷ []) ≡ option_to_list (h x)
one_kept h x = by (h x)
  where
    by : {Y : Type 0} (o : Option Y) → cons_option o [] ≡ option_to_list o
    by None = refl
    by (Some y) = refl

pub kept_more : {X Y : Type 0} (h : X → Option Y) (xs : List X) (i : ℕ) (d : X) → i < length xs → filter_map h (take (i + 1) xs) ≡ filter_map h (take i xs) ++ option_to_list (h (get_or xs i d))
kept_more h xs i d low =
    ap (filter_map h) (take_more xs i d low)
    ∙ filter_map-append h (take i xs) (get_or xs i d ∷ [])
    ∙ ap (λ l. filter_map h (take i xs) ++ l) (one_kept h (get_or xs i d))

pub kept_next : {X Y : Type 0} (h : X → Option Y) (xs : List X) (i : ℕ) (x : X) (before after : List Y) → i < length xs → x ≡ get_or xs i x → before ≡ filter_map h (take i xs) → after ≡ before ++ option_to_list (h x)
    → after ≡ filter_map h (take (i + 1) xs)
kept_next h xs i x before after low is are pushed =
    pushed ∙ ap (λ l. l ++ option_to_list (h x)) are ∙ ap (λ y. filter_map h (take i xs) ++ option_to_list (h y)) is ∙ sym (kept_more h xs i x low)

pub looks_next : (f : Back → ℕ) (xs : List Back) (i start before after : ℕ) (x : Back) → i < length xs → x ≡ get_or xs i x → before ≤ start + sum_by f (take i xs) → after ≤ before + f x → after ≤ start + sum_by f (take (i + 1) xs)
looks_next f xs i start before after x low is so_far here = omega (arith, so_far, here, ap f is, sum_by_more f xs i x low)

pub looks_within : (f : Back → ℕ) (xs all : List Back) (i start before after : ℕ) (x : Back) → xs ≡ all → i < length xs → x ≡ get_or xs i x → before ≤ start + sum_by f (take i xs) → after ≤ before + f x → after ≤ start + sum_by f all
looks_within f xs all i start before after x are low is so_far here =
    omega (arith, looks_next f xs i start before after x low is so_far here, sum_by-take-le f xs (i + 1), ap (sum_by f) are)

-- what waits, once one declaration more does, or asks for nothing

pub kept_waiting : {Y : Type 0} (h w : Back → Option Y) (xs : List Back) (i : ℕ) (x : Back) (front : List Y) (before after : List ExtraAsked) (asked : ExtraAsked) → i < length xs → x ≡ get_or xs i x
    → front ++ filter_map h (declared_in before) ≡ filter_map w (take i xs) → after ≡ before ++ asked ∷ [] → asked.declared.now ≡ x → h x ≡ w x → front ++ filter_map h (declared_in after) ≡ filter_map w (take (i + 1) xs)
kept_waiting h w xs i x front before after asked low is are pushed same wanted =
    let waiting = filter_map h (declared_in before) in
    ap (λ l. front ++ filter_map h (declared_in l)) pushed
    ∙ ap (λ l. front ++ filter_map h l) (map-append (λ (a : ExtraAsked). a.declared.now) before (asked ∷ []))
    ∙ ap (λ l. front ++ l) (filter_map-append h (declared_in before) (asked.declared.now ∷ []))
    ∙ ap (λ l. front ++ (waiting ++ l)) (one_kept h asked.declared.now)
    ∙ sym (append_assoc front waiting (option_to_list (h asked.declared.now)))
    ∙ ap (λ d. (front ++ waiting) ++ option_to_list (h d)) same
    ∙ ap (λ o. (front ++ waiting) ++ option_to_list o) wanted
    ∙ kept_next w xs i x (front ++ waiting) ((front ++ waiting) ++ option_to_list (w x)) low is are refl

-- what is wanted is what is asked for

pub want_kept : {A : Type 0} (b : Bool) (o : Option A) → b ≡ true → o ≡ cond b o None
want_kept true o h = refl
want_kept false o h = absurd (false≢true h)

-- and once those that are due are made
pub kept_due : {Y : Type 0} (h : Back → Option Y) (front put all : List Y) (due rest waiting : List ExtraAsked) → due ++ rest ≡ waiting → put ≡ front ++ filter_map h (declared_in due) → front ++ filter_map h (declared_in waiting) ≡ all
    → put ++ filter_map h (declared_in rest) ≡ all
kept_due h front put all due rest waiting cut is are =
    ap (λ l. l ++ filter_map h (declared_in rest)) is
    ∙ append_assoc front (filter_map h (declared_in due)) (filter_map h (declared_in rest))
    ∙ ap (λ l. front ++ l) (sym (filter_map-append h (declared_in due) (declared_in rest)) ∙ ap (filter_map h) (sym (map-append (λ (a : ExtraAsked). a.declared.now) due rest)))
    ∙ ap (λ l. front ++ filter_map h (declared_in l)) cut
    ∙ are

pub kept_none : {Y : Type 0} (h : Back → Option Y) (xs : List Back) (i : ℕ) (x : Back) (all : List Y) → i < length xs → x ≡ get_or xs i x → all ≡ filter_map h (take i xs) → h x ≡ None → all ≡ filter_map h (take (i + 1) xs)
kept_none h xs i x all low is are none =
    kept_next h xs i x all all low is are (sym (append-nil all) ∙ ap (λ o. all ++ option_to_list o) (sym none))

-- what is made of the declarations that wait, one after the other

pub made_at : (book : Workbook) (all : List ExtraAsked) (made : List SplitOrCubes) (n : ℕ) (one : SplitOrCubes) → AllZip (IsMadeFor book) all made → n < length made → one ≡ get_or made n one
    → (asked : ExtraAsked) × (n < length all) × (asked ≡ get_or all n asked) × IsMadeFor book asked one
made_at book [] [] n one zip low is = absurd (omega (arith, low))
made_at book (a ∷ more) (m ∷ ms) zero one zip low is = (a, omega arith, refl, subst (IsMadeFor book a) (sym is) zip.0)
made_at book (a ∷ more) (m ∷ ms) (suc n) one zip low is =
    let rest = made_at book more ms n one zip.1 (omega (arith, low)) is in
    (rest.0, omega (arith, rest.1), rest.2, rest.3)
made_at book _ _ n one zip low is = absurd zip

pub kept_put : {Y : Type 0} (h : Back → Option Y) (all : List ExtraAsked) (n : ℕ) (asked : ExtraAsked) (put : Option Y) (old before after : List Y) → n < length all → asked ≡ get_or all n asked
    → before ≡ old ++ filter_map h (take n (declared_in all)) → put ≡ h asked.declared.now → after ≡ before ++ option_to_list put → after ≡ old ++ filter_map h (take (n + 1) (declared_in all))
kept_put h all n asked put old before after low is are made pushed =
    let declared : List Back = declared_in all in
    let long : n < length declared = omega (arith, low, length-map all (λ (a : ExtraAsked). a.declared.now)) in
    let same : asked.declared.now ≡ get_or declared n asked.declared.now =
    ap (λ (a : ExtraAsked). a.declared.now) is ∙ sym (get_or-map (λ (a : ExtraAsked). a.declared.now) all n asked asked.declared.now low) in
    pushed
    ∙ ap (λ l. l ++ option_to_list put) are
    ∙ append_assoc old (filter_map h (take n declared)) (option_to_list put)
    ∙ ap (λ o. old ++ (filter_map h (take n declared) ++ option_to_list o)) made
    ∙ ap (λ l. old ++ l) (kept_next h declared n asked.declared.now (filter_map h (take n declared)) _ long same refl refl)

pub kept_all : {Y : Type 0} (book : Workbook) (h : Back → Option Y) (all : List ExtraAsked) (made : List SplitOrCubes) (n : ℕ) (old after : List Y) → AllZip (IsMadeFor book) all made → n ≡ length made
    → after ≡ old ++ filter_map h (take n (declared_in all)) → after ≡ old ++ filter_map h (declared_in all)
kept_all book h all made n old after zip whole are =
    are ∙ ap (λ l. old ++ filter_map h l) (take_all n (declared_in all) (omega (arith, whole, AllZip-long (IsMadeFor book) all made zip, length-map all (λ (a : ExtraAsked). a.declared.now))))

-- what is kept for the first declaration that passes, at its place among those that ask for it

kept_step : {Y : Type 0} (p : Back → Bool) (made : Option Y) (asks takes : Bool) (declared : Back) (kept : List Y) (more : List Back) → asks ≡ is_some made → p declared ≡ takes
    → slice_get (cons_option made kept) (position_or_len p (cond asks (declared ∷ more) more)) ≡ option_or (cond takes made None) (slice_get kept (position_or_len p more))
kept_step p None true takes declared kept more e f = absurd (cc e)
kept_step p None false true declared kept more e f = refl
kept_step p None false false declared kept more e f = refl
kept_step p (Some y) false takes declared kept more e f = absurd (cc e)
kept_step p (Some y) true true declared kept more e f = rw f refl
kept_step p (Some y) true false declared kept more e f =
    let next : 1 + position_or_len p more ≡ suc (position_or_len p more) = omega arith in
    rw f (ap (slice_get (y ∷ kept)) next)

kept_first : {Y : Type 0} (h : Back → Option Y) (q p : Back → Bool) → ((declared : Back) → q declared ≡ is_some (h declared)) → (declarations : List Back)
    → slice_get (filter_map h declarations) (position_or_len p (filter q declarations)) ≡ first_some (λ declared. cond (p declared) (h declared) None) declarations
kept_first h q p asks [] = refl
kept_first h q p asks (declared ∷ more) =
    kept_step p (h declared) (q declared) (p declared) declared (filter_map h more) (filter q more) (asks declared) refl
    ∙ ap (option_or (cond (p declared) (h declared) None)) (kept_first h q p asks more)

-- the split by a column is found exactly where it is declared

split_asked : (book : Workbook) (v t : ℕ) (extra : BackExtra) → asks_split extra ≡ is_some (split_for book v t extra)
split_asked book v t extras.Plain = refl
split_asked book v t _ = refl

same_split : (book : Workbook) (w u column v t c : ℕ) → ((nat_eq w v && nat_eq u t) && nat_eq column c) ≡ true → split_on book w u column ≡ split_on book v t c
same_split book w u column v t c h =
    let pair = and_parts (nat_eq w v && nat_eq u t) (nat_eq column c) h in
    let names = and_parts (nat_eq w v) (nat_eq u t) pair.0 in
    rw (eqb-true w v names.0, eqb-true u t names.1, eqb-true column c pair.1) refl

split_more : (book : Workbook) (v t c w u : ℕ) (extra : BackExtra) (kept : Option SplitImage) (more : Bool) → kept ≡ cond more (Some (split_on book v t c)) None
    → option_or (cond ((nat_eq w v && nat_eq u t) && is_by c extra) (split_for book w u extra) None) kept ≡ cond (((nat_eq w v && nat_eq u t) && is_by c extra) || more) (Some (split_on book v t c)) None
split_more book v t c w u (extras.By column) kept more h = elim (cases_Bool ((nat_eq w v && nat_eq u t) && nat_eq column c)) [
  | inl e ↦ rw (e) (ap (λ (split : SplitImage). Some split) (same_split book w u column v t c e))
  | inr e ↦ rw (e) h
]
split_more book v t c w u _ kept more h = rw (and_false (nat_eq w v && nat_eq u t)) h

split_first : (book : Workbook) (v t c : ℕ) (declarations : List Back) → first_some (λ declared. cond (is_split v t c declared) (split_in book declared) None) declarations ≡ cond (list_any (is_split v t c) declarations) (Some (split_on book v t c)) None
split_first book v t c [] = refl
split_first book v t c (declared ∷ more) =
    split_more book v t c declared.view declared.table declared.extra (first_some (λ declared. cond (is_split v t c declared) (split_in book declared) None) more) (list_any (is_split v t c) more) (split_first book v t c more)

pub split_found : (book : Workbook) (v t c : ℕ) (declarations : List Back) → slice_get (filter_map (split_in book) declarations) (split_place v t c declarations) ≡ cond (list_any (is_split v t c) declarations) (Some (split_on book v t c)) None
split_found book v t c declarations =
    kept_first (split_in book) (λ (declared : Back). asks_split declared.extra) (is_split v t c) (λ declared. split_asked book declared.view declared.table declared.extra) declarations
    ∙ split_first book v t c declarations

-- the groups are found exactly where a grouping is declared, and are those of the first one

abbrev pub cubes_of_grouped : Workbook → ℕ → ℕ → Grouped → List Relation
cubes_of_grouped book v t grouped = cubes_on book v t grouped.keys grouped.aggs

groups_asked : (book : Workbook) (v t : ℕ) (extra : BackExtra) → asks_groups extra ≡ is_some (cubes_for book v t extra)
groups_asked book v t extras.Plain = refl
groups_asked book v t _ = refl

cubes_here : (book : Workbook) (v t w u : ℕ) (extra : BackExtra) (kept : Option (List Relation)) (more : Option Grouped) → (nat_eq w v && nat_eq u t) ≡ true → kept ≡ option_map (cubes_of_grouped book v t) more
    → option_or (cubes_for book w u extra) kept ≡ option_map (cubes_of_grouped book v t) (option_or (grouping_in extra) more)
cubes_here book v t w u (extras.Grouped keys aggs names kinds) kept more e h =
    let pair = and_parts (nat_eq w v) (nat_eq u t) e in
    let same : cubes_on book w u keys aggs ≡ cubes_on book v t keys aggs = rw (eqb-true w v pair.0, eqb-true u t pair.1) refl in
    ap (λ (cubes : List Relation). Some cubes) same
cubes_here book v t w u _ kept more e h = h

cubes_first : (book : Workbook) (v t : ℕ) (declarations : List Back)
    → first_some (λ declared. cond (is_back v t declared) (cubes_in book declared) None) declarations ≡ option_map (cubes_of_grouped book v t) (first_grouping (filter (is_back v t) declarations))
cubes_first book v t [] = refl
cubes_first book v t (declared ∷ more) = elim (cases_Bool (is_back v t declared)) [
  | inl e ↦ rw e (cubes_here book v t declared.view declared.table declared.extra (first_some (λ declared. cond (is_back v t declared) (cubes_in book declared) None) more) (first_grouping (filter (is_back v t) more)) e (cubes_first book v t more))
  | inr e ↦ rw e (cubes_first book v t more)
]

pub cubes_found : (book : Workbook) (v t : ℕ) (declarations : List Back)
    → slice_get (filter_map (cubes_in book) declarations) (cubes_place v t declarations) ≡ option_map (cubes_of_grouped book v t) (first_grouping (filter (is_back v t) declarations))
cubes_found book v t declarations =
    kept_first (cubes_in book) (λ (declared : Back). asks_groups declared.extra) (is_back v t) (λ declared. groups_asked book declared.view declared.table declared.extra) declarations
    ∙ cubes_first book v t declarations

-- the place of the first that passes, among those that are counted, where none before it does

pub place_found : (q p : Back → Bool) (xs : List Back) (i : ℕ) (d : Back) → i < length xs → d ≡ get_or xs i d → position_or_len p (filter q (take i xs)) ≡ length (filter q (take i xs)) → q d ≡ true → p d ≡ true
    → position_or_len p (filter q xs) ≡ length (filter q (take i xs))
place_found q p [] i d low at none asks is = absurd (omega (arith, low))
place_found q p (x ∷ xs) zero d low at none asks is = rw (ap q (sym at) ∙ asks, ap p (sym at) ∙ is) refl
place_found q p (x ∷ xs) (suc i) d low at none asks is = elim (cases_Bool (q x)) [
  | inr out ↦ (let so_far = rw out at none in rw out (place_found q p xs i d (omega (arith, low)) at so_far asks is))
  | inl inside ↦ elim (cases_Bool (p x)) [
    | inl here ↦ (let so_far = rw (inside, here) at none in absurd (omega (arith, so_far)))
    | inr past ↦
        (let so_far = rw (inside, past) at none in
        let rest = place_found q p xs i d (omega (arith, low)) at (omega (arith, so_far)) asks is in
        rw (inside, past) (omega (arith, rest)))
  ]
]

-- a declared grouping fits its table

abbrev Fits : List Kind → Grouped → Type 0
Fits kinds grouped = GroupingFits kinds grouped.keys grouped.aggs grouped.names grouped.kinds

fits_here : (kinds : List Kind) (extra : BackExtra) (more : Option Grouped) (grouped : Grouped) → ExtraFits kinds extra → (more ≡ Some grouped → Fits kinds grouped) → option_or (grouping_in extra) more ≡ Some grouped → Fits kinds grouped
fits_here kinds (extras.Grouped keys aggs names own) more grouped fits rest h =
    let is : record { keys = keys; aggs = aggs; names = names; kinds = own } ≡ grouped = cc in
    subst (Fits kinds) is fits
fits_here kinds _ more grouped fits rest h = rest h

pub grouping_fits : (tables : List TableInfo) (views v t : ℕ) (declarations : List Back) (grouped : Grouped) → All (BackFits tables views) declarations → first_grouping (filter (is_back v t) declarations) ≡ Some grouped
    → Fits (table_kinds (info_at tables t)) grouped
grouping_fits tables views v t [] grouped all h = absurd (cc)
grouping_fits tables views v t (declared ∷ more) grouped all h =
    let rest = grouping_fits tables views v t more grouped (All-tail (BackFits tables views) declared more all) in
    elim (cases_Bool (is_back v t declared)) [
      | inl e ↦
          (let here : option_or (grouping_in declared.extra) (first_grouping (filter (is_back v t) more)) ≡ Some grouped = rw e at h in
          let same : declared.table ≡ t = eqb-true declared.table t (and_parts (nat_eq declared.view v) (nat_eq declared.table t) e).1 in
          let fits : ExtraFits (table_kinds (info_at tables t)) declared.extra = subst (λ (k : ℕ). ExtraFits (table_kinds (info_at tables k)) declared.extra) same (All-head (BackFits tables views) declared more all).extra in
          fits_here (table_kinds (info_at tables t)) declared.extra (first_grouping (filter (is_back v t) more)) grouped fits rest here)
      | inr e ↦ (let there : first_grouping (filter (is_back v t) more) ≡ Some grouped = rw e at h in rest there)
    ]
