-- What a growing chain gives of the parts of its table, put together, is what it gives of the table.
use Rattle.std.proofs.{Common.{◌≡◌, ◌∙◌, ℕ, ◌+◌, ◌<◌, ◌≤◌, Bool, true, false, cond, List, [], ◌∷◌, ◌++◌, length, map, take, drop, refl, sym, ap, subst, arith, get_or, nat_eq, Option, Some, None, inl, inr}, lemmas.Bool.{cases_Bool, eqb-true, le-ltb}, lemmas.List.{length-map, length-append, get_or-map, get_or-set_same, take-append-drop}}
use Rattle.smk_base.specs.{Places.{Lists, upto, pairs_of, has, inverted, composed, followed}, declared.book.plan.Agg.Agg, declared.book.need.Needed.Needed, Plans.{Grouping, Expr, Leaf, Apply, Combine}}
use Rattle.smk_keys.specs.Classes.{ClassesImage}
use Rattle.smk_model.specs.{Values.Row, Plain.{key_of, firsts, leaves, step1}, Composed.{table_at, rows_over, backs, forwards}, Locals.{singles, back1, fwd1}, Classes.classes, LineageLaws.selected_table, Selection.ScansFit, Ways.{IsOf, reaches}, Growth.{is_chain, is_growing, regrouping}, GrowthLaws.{HasGrown, both_rows}}
use Rattle.smk_base.proofs.Places.{map_map, map_upto, map_upto_agree}
use Rattle.smk_model.proofs.{Composed.lists_stand, Counts.pairs_forward, Ways.lineage_of_ways, Grows.{chain_grows, group_grows}, Thin.growing_is_thin}
use Rattle.smk_body.specs.{Locals.wanted, Halves.AreNumbered}
use Rattle.smk_body.proofs.Classing.{are_numbered, length_firsts}
use Rattle.smk_compose.specs.{declared.kept_maps.KeptMap.KeptMap, KeptMaps.kept_at, Through.{chained, Chains, is_heavy, map_at, no_map, no_need}}
use Rattle.smk_chain.specs.{Parts.{followed_maps, class_lists, both_maps, void_map, joint_map_at, joint_maps, AreSmall, Follows, AreRegrouped, MapsFit}, Runs.{tables_before, tables_behind, joint_classes}}

-- a growing chain and the first rows of its table
pub record IsPart (plan : Expr) (tables : List (List Row)) (len : ℕ) : Type 0 where
  pub growing : is_growing plan ≡ true
  pub there : selected_table plan < length tables
  pub within : len ≤ length (table_at tables (selected_table plan))
  pub few : length (table_at tables (selected_table plan)) ≤ 1048576

pub scans_below : (plan : Expr) (n : ℕ) → ScansFit n plan → selected_table plan < n
scans_below (Leaf table) n h = h
scans_below (Apply op input) n h = scans_below input n h
scans_below (Combine op left right) n h = scans_below left n h.0

-- tables before and behind

pub has_grown : (tables : List (List Row)) (t len : ℕ) → t < length tables → HasGrown t (tables_before tables t len) (tables_behind tables t len) tables
has_grown tables t len low =
    let rows = table_at tables t in
    let first : table_at (tables_before tables t len) t ≡ take len rows = get_or-set_same tables t (take len rows) [] low in
    let rest : table_at (tables_behind tables t len) t ≡ drop len rows = get_or-set_same tables t (drop len rows) [] low in
    sym (take-append-drop len rows) ∙ ap (λ z. z ++ drop len rows) (sym first) ∙ ap (λ z. table_at (tables_before tables t len) t ++ z) (sym rest)

module _ (plan : Expr) (tables : List (List Row)) (len : ℕ) (p : IsPart plan tables len) where
  abbrev t : ℕ
  t = selected_table plan

  abbrev before : List (List Row)
  before = tables_before tables t len

  abbrev behind : List (List Row)
  behind = tables_behind tables t len

  grows : HasGrown t before behind tables
  grows = has_grown tables t len p.there

  sizes : length (table_at before t) + length (table_at behind t) ≡ length (table_at tables t)
  sizes = sym (length-append (table_at before t) (table_at behind t)) ∙ ap length (sym grows)

  pub rows_few : length (rows_over plan before) + length (rows_over plan behind) ≤ 1048576
  rows_few = omega (arith, growing_is_thin.rows plan before p.growing, growing_is_thin.rows plan behind p.growing, sizes, p.few)

  few_backs : (T : List (List Row)) → pairs_of (backs plan T t).lists ≤ length (table_at T t)
  few_backs T = omega (arith, lists_stand.pairs_are plan T t, growing_is_thin.pairs plan T p.growing)

  few_forwards : (T : List (List Row)) → pairs_of (forwards plan T t).lists ≤ length (table_at T t)
  few_forwards T = omega (arith, pairs_forward.pairs_are plan T t, growing_is_thin.pairs plan T p.growing)

  small_backs : AreSmall (backs plan before t) (backs plan behind t)
  small_backs = record {
    lists = omega (arith, lists_stand.backs_long plan before t, lists_stand.backs_long plan behind t, rows_few);
    bound = omega (arith, sizes, p.few);
    few = omega (arith, few_backs before, few_backs behind, sizes, p.few);
  }

  small_forwards : AreSmall (forwards plan before t) (forwards plan behind t)
  small_forwards = record {
    lists = omega (arith, lists_stand.forwards_long plan before t, lists_stand.forwards_long plan behind t, sizes, p.few);
    bound = omega (arith, rows_few);
    few = omega (arith, few_forwards before, few_forwards behind, sizes, p.few);
  }

-- what is wanted

follows : (b : Bool) (X Y : Lists) → AreSmall X Y → Follows (wanted b X) (wanted b Y)
follows true X Y h = h
follows false X Y h = tt

both_wanted : (b : Bool) (X Y : Lists) → followed_maps (wanted b X) (wanted b Y) ≡ wanted b (followed X Y)
both_wanted true X Y = refl
both_wanted false X Y = refl

wanted_chained : (b : Bool) (A B : Lists) → chained (wanted b A) (wanted b B) ≡ wanted b (composed A B)
wanted_chained true A B = refl
wanted_chained false A B = refl

chains_wanted : (b : Bool) (A B : Lists) → A.bound ≡ length B.lists → Chains (wanted b A) (wanted b B)
chains_wanted true A B h = h
chains_wanted false A B h = tt

light_wanted : (b : Bool) (A : Lists) → pairs_of A.lists ≤ 16777216 → is_heavy (wanted b A) ≡ false
light_wanted true A h = le-ltb 16777216 (pairs_of A.lists) h
light_wanted false A h = refl

kept_same : {t : ℕ} {a b x y : Option Lists} → a ≡ b → x ≡ y → (let k : KeptMap = record { table = t; back = a; fwd = x } in k) ≡ record { table = t; back = b; fwd = y }
kept_same p q = rw (p, q) refl

-- without a grouping

module _ (plan : Expr) (tables : List (List Row)) (len : ℕ) (p : IsPart plan tables len) (chain : is_chain plan ≡ true) where
  abbrev t1 : ℕ
  t1 = selected_table plan

  abbrev before1 : List (List Row)
  before1 = tables_before tables t1 len

  abbrev behind1 : List (List Row)
  behind1 = tables_behind tables t1 len

  pub chain_fits : (n : Needed) → n.table ≡ t1 → MapsFit None n (kept_at plan before1 n) (kept_at plan behind1 n)
  chain_fits n e = record {
    back = subst (λ u. Follows (wanted n.dir.back (backs plan before1 u)) (wanted n.dir.back (backs plan behind1 u))) (sym e) (follows n.dir.back (backs plan before1 t1) (backs plan behind1 t1) (small_backs plan tables len p));
    fwd = subst (λ u. Follows (wanted n.dir.fwd (forwards plan before1 u)) (wanted n.dir.fwd (forwards plan behind1 u))) (sym e) (follows n.dir.fwd (forwards plan before1 t1) (forwards plan behind1 t1) (small_forwards plan tables len p));
    regrouped = tt;
  }

  pub chain_map : (n : Needed) → n.table ≡ t1 → both_maps None n (kept_at plan before1 n) (kept_at plan behind1 n) ≡ kept_at plan tables n
  chain_map n e =
      let grown = grows plan tables len p in
      kept_same
      (subst (λ u. followed_maps (wanted n.dir.back (backs plan before1 u)) (wanted n.dir.back (backs plan behind1 u)) ≡ wanted n.dir.back (backs plan tables u)) (sym e)
      (both_wanted n.dir.back (backs plan before1 t1) (backs plan behind1 t1) ∙ ap (wanted n.dir.back) (sym (chain_grows.backs plan before1 behind1 tables chain grown))))
      (subst (λ u. followed_maps (wanted n.dir.fwd (forwards plan before1 u)) (wanted n.dir.fwd (forwards plan behind1 u)) ≡ wanted n.dir.fwd (forwards plan tables u)) (sym e)
      (both_wanted n.dir.fwd (forwards plan before1 t1) (forwards plan behind1 t1) ∙ ap (wanted n.dir.fwd) (sym (chain_grows.forwards plan before1 behind1 tables chain grown))))

  pub chain_rows : rows_over plan before1 ++ rows_over plan behind1 ≡ rows_over plan tables
  chain_rows = sym (chain_grows.rows plan before1 behind1 tables chain (grows plan tables len p))

-- with one

module _ (keys : List ℕ) (aggs : List Agg) (input : Expr) (tables : List (List Row)) (len : ℕ) (p : IsPart (Apply (Grouping keys aggs) input) tables len) where
  abbrev plan2 : Expr
  plan2 = Apply (Grouping keys aggs) input

  abbrev t2 : ℕ
  t2 = selected_table input

  abbrev before2 : List (List Row)
  before2 = tables_before tables t2 len

  abbrev behind2 : List (List Row)
  behind2 = tables_behind tables t2 len

  abbrev both : List Row
  both = both_rows plan2 before2 behind2

  abbrev groups : ClassesImage
  groups = joint_classes (length keys) both

  abbrev keys_both : List Row
  keys_both = map (key_of (upto (length keys))) both

  numbered : AreNumbered (length both) groups
  numbered = subst (λ n. AreNumbered n groups) (length-map both (key_of (upto (length keys)))) (are_numbered keys_both)

  targets : IsOf (reaches keys_both) (back1 (regrouping keys aggs) both) (fwd1 (regrouping keys aggs) both)
  targets = lineage_of_ways.one (regrouping keys aggs) both

  forward_is : class_lists groups ≡ fwd1 (regrouping keys aggs) both
  forward_is = ap (singles (classes keys_both)) (length_firsts keys_both) ∙ sym targets.forward

  backward_is : inverted (class_lists groups) ≡ back1 (regrouping keys aggs) both
  backward_is = ap (λ n. inverted (singles (classes keys_both) n)) (length_firsts keys_both) ∙ sym targets.backward

  pub group_rows : step1 (regrouping keys aggs) both ≡ rows_over plan2 tables
  group_rows = sym (group_grows.rows keys aggs input before2 behind2 tables p.growing (grows plan2 tables len p))

  group_backs : composed (inverted (class_lists groups)) (followed (backs plan2 before2 t2) (backs plan2 behind2 t2)) ≡ backs plan2 tables t2
  group_backs = ap (λ (m : Lists). composed m (followed (backs plan2 before2 t2) (backs plan2 behind2 t2))) backward_is ∙ sym (group_grows.backs keys aggs input before2 behind2 tables p.growing (grows plan2 tables len p))

  group_forwards : composed (followed (forwards plan2 before2 t2) (forwards plan2 behind2 t2)) (class_lists groups) ≡ forwards plan2 tables t2
  group_forwards = ap (composed (followed (forwards plan2 before2 t2) (forwards plan2 behind2 t2))) forward_is ∙ sym (group_grows.forwards keys aggs input before2 behind2 tables p.growing (grows plan2 tables len p))

  long_groups : length (class_lists groups).lists ≡ length both
  long_groups = length-map groups.of (λ r. r ∷ []) ∙ numbered.long

  long_backs : length (followed (backs plan2 before2 t2) (backs plan2 behind2 t2)).lists ≡ length both
  long_backs =
      omega (
        arith,
        length-append (backs plan2 before2 t2).lists (map (map (λ i. (backs plan2 before2 t2).bound + i)) (backs plan2 behind2 t2).lists),
        length-map (backs plan2 behind2 t2).lists (map (λ i. (backs plan2 before2 t2).bound + i)),
        lists_stand.backs_long plan2 before2 t2,
        lists_stand.backs_long plan2 behind2 t2,
        length-append (rows_over plan2 before2) (rows_over plan2 behind2),
      )

  long_both : length both ≤ 1048576
  long_both = omega (arith, length-append (rows_over plan2 before2) (rows_over plan2 behind2), rows_few plan2 tables len p)

  group_map_at : (n : Needed) → AreRegrouped (Some groups) n (wanted n.dir.back (followed (backs plan2 before2 t2) (backs plan2 behind2 t2))) (wanted n.dir.fwd (followed (forwards plan2 before2 t2) (forwards plan2 behind2 t2)))
  group_map_at n =
      let X = followed (backs plan2 before2 t2) (backs plan2 behind2 t2) in
      let Y = followed (forwards plan2 before2 t2) (forwards plan2 behind2 t2) in
      let C = class_lists groups in
      record {
        few = omega (arith, numbered.long, long_both);
        short = omega (arith, numbered.few, long_both);
        below = numbered.below;
        back = chains_wanted n.dir.back (inverted C) X (long_groups ∙ sym long_backs);
        fwd = chains_wanted n.dir.fwd Y C (sym (length-append (rows_over plan2 before2) (rows_over plan2 behind2)) ∙ sym long_groups);
        few_back = ap is_heavy (wanted_chained n.dir.back (inverted C) X) ∙ light_wanted n.dir.back (composed (inverted C) X) (omega (arith, ap (λ (m : Lists). pairs_of m.lists) group_backs, few_backs plan2 tables len p tables, p.few));
        few_fwd = ap is_heavy (wanted_chained n.dir.fwd Y C) ∙ light_wanted n.dir.fwd (composed Y C) (omega (arith, ap (λ (m : Lists). pairs_of m.lists) group_forwards, few_forwards plan2 tables len p tables, p.few));
      }

  pub group_fits : (n : Needed) → n.table ≡ t2 → MapsFit (Some groups) n (kept_at plan2 before2 n) (kept_at plan2 behind2 n)
  group_fits n e = record {
    back = subst (λ u. Follows (wanted n.dir.back (backs plan2 before2 u)) (wanted n.dir.back (backs plan2 behind2 u))) (sym e) (follows n.dir.back (backs plan2 before2 t2) (backs plan2 behind2 t2) (small_backs plan2 tables len p));
    fwd = subst (λ u. Follows (wanted n.dir.fwd (forwards plan2 before2 u)) (wanted n.dir.fwd (forwards plan2 behind2 u))) (sym e) (follows n.dir.fwd (forwards plan2 before2 t2) (forwards plan2 behind2 t2) (small_forwards plan2 tables len p));
    regrouped = subst (λ u. AreRegrouped (Some groups) n (followed_maps (wanted n.dir.back (backs plan2 before2 u)) (wanted n.dir.back (backs plan2 behind2 u))) (followed_maps (wanted n.dir.fwd (forwards plan2 before2 u)) (wanted n.dir.fwd (forwards plan2 behind2 u)))) (sym e)
        (subst (λ z. AreRegrouped (Some groups) n z (followed_maps (wanted n.dir.fwd (forwards plan2 before2 t2)) (wanted n.dir.fwd (forwards plan2 behind2 t2)))) (sym (both_wanted n.dir.back (backs plan2 before2 t2) (backs plan2 behind2 t2)))
        (subst (λ z. AreRegrouped (Some groups) n (wanted n.dir.back (followed (backs plan2 before2 t2) (backs plan2 behind2 t2))) z) (sym (both_wanted n.dir.fwd (forwards plan2 before2 t2) (forwards plan2 behind2 t2))) (group_map_at n)));
  }

  pub group_map : (n : Needed) → n.table ≡ t2 → both_maps (Some groups) n (kept_at plan2 before2 n) (kept_at plan2 behind2 n) ≡ kept_at plan2 tables n
  group_map n e =
      let X = followed (backs plan2 before2 t2) (backs plan2 behind2 t2) in
      let Y = followed (forwards plan2 before2 t2) (forwards plan2 behind2 t2) in
      let C = class_lists groups in
      kept_same
      (subst (λ u. chained (wanted n.dir.back (inverted C)) (followed_maps (wanted n.dir.back (backs plan2 before2 u)) (wanted n.dir.back (backs plan2 behind2 u))) ≡ wanted n.dir.back (backs plan2 tables u)) (sym e)
      (ap (chained (wanted n.dir.back (inverted C))) (both_wanted n.dir.back (backs plan2 before2 t2) (backs plan2 behind2 t2)) ∙ wanted_chained n.dir.back (inverted C) X ∙ ap (wanted n.dir.back) group_backs))
      (subst (λ u. chained (followed_maps (wanted n.dir.fwd (forwards plan2 before2 u)) (wanted n.dir.fwd (forwards plan2 behind2 u))) (wanted n.dir.fwd C) ≡ wanted n.dir.fwd (forwards plan2 tables u)) (sym e)
      (ap (λ z. chained z (wanted n.dir.fwd C)) (both_wanted n.dir.fwd (forwards plan2 before2 t2) (forwards plan2 behind2 t2)) ∙ wanted_chained n.dir.fwd Y C ∙ ap (wanted n.dir.fwd) group_forwards))

-- all maps

-- the maps of the old rows and of the new ones for a needed table
pub fits_at : (plan : Expr) (before behind : List (List Row)) (groups : Option ClassesImage) (t : ℕ) (need : List Needed) (old new : List KeptMap) → old ≡ map (kept_at plan before) need → new ≡ map (kept_at plan behind) need
    → ((n : Needed) → n.table ≡ t → MapsFit groups n (kept_at plan before n) (kept_at plan behind n))
    → (i : ℕ) → i < length need → nat_eq (get_or need i no_need).table t ≡ true → MapsFit groups (get_or need i no_need) (map_at old i) (map_at new i)
fits_at plan before behind groups t need old new o w fit i low here =
    let n = get_or need i no_need in
    let a : map_at old i ≡ kept_at plan before n = ap (λ (k : List KeptMap). map_at k i) o ∙ get_or-map (kept_at plan before) need i no_need no_map low in
    let b : map_at new i ≡ kept_at plan behind n = ap (λ (k : List KeptMap). map_at k i) w ∙ get_or-map (kept_at plan behind) need i no_need no_map low in
    subst (λ (k : KeptMap). MapsFit groups n k (map_at new i)) (sym a) (subst (MapsFit groups n (kept_at plan before n)) (sym b) (fit n (eqb-true n.table t here)))

void_is : (plan : Expr) (tables : List (List Row)) (n : Needed) → is_growing plan ≡ true → nat_eq n.table (selected_table plan) ≡ false → void_map (length (rows_over plan tables)) (length (table_at tables n.table)) n ≡ kept_at plan tables n
void_is plan tables n growing other =
    let none : has (leaves plan) n.table ≡ false = ap (λ (l : List ℕ). has l n.table) (growing_is_thin.scans plan growing) ∙ rw other refl in
    kept_same (ap (wanted n.dir.back) (sym (lists_stand.unscanned_backs plan tables n.table none))) (ap (wanted n.dir.fwd) (sym (lists_stand.unscanned_forwards plan tables n.table none)))

pub all_maps : (plan : Expr) (tables before behind : List (List Row)) (groups : Option ClassesImage) (rows : ℕ) (need : List Needed) (old new : List KeptMap) → is_growing plan ≡ true → old ≡ map (kept_at plan before) need → new ≡ map (kept_at plan behind) need
    → rows ≡ length (rows_over plan tables) → ((n : Needed) → n.table ≡ selected_table plan → both_maps groups n (kept_at plan before n) (kept_at plan behind n) ≡ kept_at plan tables n)
    → joint_maps groups (selected_table plan) rows tables need old new ≡ map (kept_at plan tables) need
all_maps plan tables before behind groups rows need old new growing o w long is =
    let t = selected_table plan in
    map_upto_agree (joint_map_at groups t rows tables need old new) (λ i. kept_at plan tables (get_or need i no_need)) (length need) (λ i low.
    let n = get_or need i no_need in
    let a : map_at old i ≡ kept_at plan before n = ap (λ (k : List KeptMap). map_at k i) o ∙ get_or-map (kept_at plan before) need i no_need no_map low in
    let b : map_at new i ≡ kept_at plan behind n = ap (λ (k : List KeptMap). map_at k i) w ∙ get_or-map (kept_at plan behind) need i no_need no_map low in
    elim (cases_Bool (nat_eq n.table t)) [
      | inl here ↦ ap (λ z. cond z (both_maps groups n (map_at old i) (map_at new i)) (void_map rows (length (table_at tables n.table)) n)) here
          ∙ ap (λ (k : KeptMap). both_maps groups n k (map_at new i)) a ∙ ap (both_maps groups n (kept_at plan before n)) b ∙ is n (eqb-true n.table t here)
      | inr there ↦ ap (λ z. cond z (both_maps groups n (map_at old i) (map_at new i)) (void_map rows (length (table_at tables n.table)) n)) there
          ∙ ap (λ r. void_map r (length (table_at tables n.table)) n) long ∙ void_is plan tables n growing there
    ])
    ∙ sym (map_map (kept_at plan tables) (λ i. get_or need i no_need) (upto (length need))) ∙ ap (map (kept_at plan tables)) (map_upto need no_need)
