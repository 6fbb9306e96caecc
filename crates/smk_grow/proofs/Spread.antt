-- What was made for some declarations, each at the place of its declaration.
use Rattle.std.proofs.Common.{◌≡◌, ◌∙◌, ℕ, suc, ◌+◌, ◌<◌, Bool, true, false, cond, List, [], ◌∷◌, ◌++◌, length, take, drop, get_or, refl, ap, sym, arith, drop-cons, append-nil, Option, Some, None, option_map}
use Rattle.std.specs.{List.{cons_option, filter_map}, Option.option_to_list}
use Rattle.smk_base.specs.{Rels.Relation, declared.book.catalog.Back.Back, declared.book.catalog.BackExtra.BackExtra, declared.book.plan.Agg.Agg, declared.value.Kind.Kind}
use Rattle.smk_base.specs.declared.book.catalog.BackExtra.TheVariants as extras
use Rattle.smk_model.specs.Session.{Workbook}
use Rattle.smk_skip.specs.Splits.{SplitImage}
use Rattle.smk_session.specs.{Extras.{cubes_for, cubes_on, split_for, split_on}, Making.{cubes_wanted, is_wanted, split_wanted}}
use Rattle.smk_session.proofs.Declared.{kept_next}
use Rattle.smk_grow.specs.Renewed.{cubes_again, if_depends, split_again}

-- what is left, from one declaration on

cons_is : {Y : Type 0} (o : Option Y) (more : List Y) → cons_option o more ≡ option_to_list o ++ more
cons_is None more = refl
cons_is (Some y) more = refl

left_next : {Y : Type 0} (h : Back → Option Y) (xs : List Back) (i : ℕ) (x : Back) → i < length xs → x ≡ get_or xs i x → filter_map h (drop i xs) ≡ option_to_list (h x) ++ filter_map h (drop (i + 1) xs)
left_next h xs i x low is =
    let next : suc i ≡ i + 1 = omega arith in
    ap (filter_map h) (drop-cons xs i x low ∙ ap (λ (y : Back). y ∷ drop (suc i) xs) (sym is))
    ∙ cons_is (h x) (filter_map h (drop (suc i) xs))
    ∙ ap (λ (n : ℕ). option_to_list (h x) ++ filter_map h (drop n xs)) next

-- one declaration more, for which the next is put or none is, and one that asks for nothing of the kind

pub put_more : {Y : Type 0} (f : Back → Option (Option Y)) (h : Back → Option Y) (xs : List Back) (i : ℕ) (x : Back) (wanted : Bool) (one : Y) (before after : List (Option Y)) (left rest : List Y) → i < length xs → x ≡ get_or xs i x
    → f x ≡ Some (if_depends wanted one) → h x ≡ if_depends wanted one → before ≡ filter_map f (take i xs) → left ≡ filter_map h (drop i xs)
    → ((y : Y) (more : List Y) → left ≡ option_to_list (if_depends wanted y) ++ more → after ≡ before ++ if_depends wanted y ∷ []) → ((y : Y) (more : List Y) → left ≡ option_to_list (if_depends wanted y) ++ more → rest ≡ more)
    → (after ≡ filter_map f (take (i + 1) xs)) × (rest ≡ filter_map h (drop (i + 1) xs))
put_more f h xs i x wanted one before after left rest low is asks makes so_far goes put cut =
    let more = filter_map h (drop (i + 1) xs) in
    let here : left ≡ option_to_list (if_depends wanted one) ++ more = goes ∙ left_next h xs i x low is ∙ ap (λ o. option_to_list o ++ more) makes in (
      kept_next f xs i x before after low is so_far (put one more here ∙ ap (λ o. before ++ option_to_list o) (sym asks)),
      cut one more here,
    )

pub put_none : {Y : Type 0} (f : Back → Option (Option Y)) (h : Back → Option Y) (xs : List Back) (i : ℕ) (x : Back) (before : List (Option Y)) (left : List Y) → i < length xs → x ≡ get_or xs i x
    → f x ≡ None → h x ≡ None → before ≡ filter_map f (take i xs) → left ≡ filter_map h (drop i xs) → (before ≡ filter_map f (take (i + 1) xs)) × (left ≡ filter_map h (drop (i + 1) xs))
put_none f h xs i x before left low is asks makes so_far goes = (
  kept_next f xs i x before before low is so_far (sym (append-nil before) ∙ ap (λ o. before ++ option_to_list o) (sym asks)),
  goes ∙ left_next h xs i x low is ∙ ap (λ o. option_to_list o ++ filter_map h (drop (i + 1) xs)) makes,
)

-- what a declaration asks for, by its kind

never : {Y : Type 0} (b : Bool) → ◌≡◌ {A = Option Y} (cond b None None) None
never true = refl
never false = refl

abbrev pub Asks : Option ℕ → Workbook → Back → Option (Option SplitImage) → Option SplitImage → Option (Option (List Relation)) → Option (List Relation) → Type 0
Asks grown book declared split made cubes groups = (split_again grown book declared ≡ split) × (split_wanted book grown declared ≡ made) × (cubes_again grown book declared ≡ cubes) × (cubes_wanted book grown declared ≡ groups)

asked_as : (grown : Option ℕ) (book : Workbook) (declared : Back) (extra : BackExtra) (wanted : Bool) → declared.extra ≡ extra → wanted ≡ is_wanted book.catalog grown declared
    → Asks grown book declared (option_map (if_depends wanted) (split_for book declared.view declared.table extra)) (cond wanted (split_for book declared.view declared.table extra) None) (option_map (if_depends wanted) (cubes_for book declared.view declared.table extra)) (cond wanted (cubes_for book declared.view declared.table extra) None)
asked_as grown book declared extra wanted is same =
    let b = is_wanted book.catalog grown declared in
    let v = declared.view in
    let t = declared.table in (
      ap (λ (e : BackExtra). option_map (if_depends b) (split_for book v t e)) is ∙ ap (λ (w : Bool). option_map (if_depends w) (split_for book v t extra)) (sym same),
      ap (λ (e : BackExtra). cond b (split_for book v t e) None) is ∙ ap (λ (w : Bool). cond w (split_for book v t extra) None) (sym same),
      ap (λ (e : BackExtra). option_map (if_depends b) (cubes_for book v t e)) is ∙ ap (λ (w : Bool). option_map (if_depends w) (cubes_for book v t extra)) (sym same),
      ap (λ (e : BackExtra). cond b (cubes_for book v t e) None) is ∙ ap (λ (w : Bool). cond w (cubes_for book v t extra) None) (sym same),
    )

pub plain_asks : (grown : Option ℕ) (book : Workbook) (declared : Back) (wanted : Bool) → declared.extra ≡ extras.Plain → wanted ≡ is_wanted book.catalog grown declared → Asks grown book declared None None None None
plain_asks grown book declared wanted is same =
    let at = asked_as grown book declared extras.Plain wanted is same in
    (at.0, at.1 ∙ never wanted, at.2, at.3 ∙ never wanted)

pub by_asks : (grown : Option ℕ) (book : Workbook) (declared : Back) (column : ℕ) (wanted : Bool) → declared.extra ≡ extras.By column → wanted ≡ is_wanted book.catalog grown declared
    → Asks grown book declared (Some (if_depends wanted (split_on book declared.view declared.table column))) (if_depends wanted (split_on book declared.view declared.table column)) None None
by_asks grown book declared column wanted is same =
    let at = asked_as grown book declared (extras.By column) wanted is same in
    (at.0, at.1, at.2, at.3 ∙ never wanted)

pub grouped_asks : (grown : Option ℕ) (book : Workbook) (declared : Back) (keys : List ℕ) (aggs : List Agg) (names : List (List ℕ)) (kinds : List Kind) (wanted : Bool) → declared.extra ≡ extras.Grouped keys aggs names kinds → wanted ≡ is_wanted book.catalog grown declared
    → Asks grown book declared None None (Some (if_depends wanted (cubes_on book declared.view declared.table keys aggs))) (if_depends wanted (cubes_on book declared.view declared.table keys aggs))
grouped_asks grown book declared keys aggs names kinds wanted is same =
    let at = asked_as grown book declared (extras.Grouped keys aggs names kinds) wanted is same in
    (at.0, at.1 ∙ never wanted, at.2, at.3)
