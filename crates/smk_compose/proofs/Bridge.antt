-- The maps of a plan and the definitions over the lists of its leaves.
use Rattle.std.proofs.{Common.{◌≡◌, ◌∙◌, ◌+◌, ◌<◌, ℕ, suc, Bool, true, false, cond, ◌&&◌, ◌||◌, IsTrue, List, [], ◌∷◌, length, map, drop, get_or, Option, Some, option_map, nat_lt, refl, sym, ap, arith, inl, inr}, lemmas.Bool.cases_Bool, lemmas.List.{length-append, length-map, get_or-map, get_or_append_left, get_or-append-add, get_or-drop, same_lists, get_or_default}}
use Rattle.std.specs.List.{find}
use Rattle.smk_base.specs.{Places.{Lists, has, pairs_of, empty_lists}, Plans.{Binary, Expr, Combine}, declared.book.need.Needed.Needed, Needs.is_needed}
use Rattle.smk_model.specs.{Values.Row, Plain.{leaves, width, eval}, Composed.{table_at, rows_over, backs, forwards}, Selection.is_full, NodeFaults.{NodeFault, FullRows, FullPairs, AskedTable, asked_of, pair_limit, is_crowded, last_node_fault}}
use Rattle.smk_model.proofs.{Anys.or_false, Comes.{IsPart, rows_part, rows_whole}, Composed.lists_stand, Counts.pairs_forward}
use Rattle.smk_body.specs.Locals.{wanted}
use Rattle.smk_compose.specs.{KeptMaps.{held_at, kept_at}, Walk.{AreDirected, AreWhole, WholeWhereNeeded}, Through.{is_heavy, has_heavy, node_fault, pairs_fault, or_empty, filled, map_at, no_map, no_need}, declared.kept_maps.KeptMap.KeptMap}
use Rattle.smk_compose.proofs.{Wants.mk_same, Counts.{pairs_part, pairs_unscanned}}

-- faults

pub whole_left : (op : Binary) (a b : Expr) (E tables : List (List Row)) → AreWhole (Combine op a b) E tables → AreWhole a E tables
whole_left op a b E tables are j l = are j (omega (arith, l, length-append (leaves a) (leaves b))) ∙ ap (table_at tables) (get_or_append_left (leaves a) (leaves b) 0 j l)

pub whole_right : (op : Binary) (a b : Expr) (E tables : List (List Row)) → AreWhole (Combine op a b) E tables → AreWhole b (drop (width a) E) tables
whole_right op a b E tables are j l =
    get_or-drop (width a) E j [] ∙ are (width a + j) (omega (arith, l, length-append (leaves a) (leaves b))) ∙ ap (table_at tables) (get_or-append-add (leaves a) (leaves b) j 0)

part : (plan : Expr) (E tables : List (List Row)) → AreWhole plan E tables → IsPart (leaves plan) E tables plan 0
part plan E tables are j l =
    let e : 0 + j ≡ j = omega arith in
    (omega arith, ap (λ i. get_or (leaves plan) i 0) e, ap (λ i. get_or E i []) e ∙ are j l)

-- a map in some needed direction has too many pairs just where the plan has
heavy_is : (b f h : Bool) (X Y : Lists) (n : ℕ) → IsTrue (b || f) → pairs_of X.lists ≡ n → pairs_of Y.lists ≡ n → (h ≡ false → n ≡ 0) → nat_lt pair_limit n ≡ (is_heavy (wanted (b && h) X) || is_heavy (wanted (f && h) Y))
heavy_is true true true X Y n some x y none = rw (x, y) (elim (cases_Bool (nat_lt pair_limit n)) [ inl e ↦ rw e refl | inr e ↦ rw e refl ])
heavy_is true false true X Y n some x y none = rw x (sym (or_false (nat_lt pair_limit n)))
heavy_is false true true X Y n some x y none = rw y refl
heavy_is false false true X Y n some x y none = let e : false ≡ true = some in absurd (cc)
heavy_is true true false X Y n some x y none = rw (none refl) refl
heavy_is true false false X Y n some x y none = rw (none refl) refl
heavy_is false true false X Y n some x y none = rw (none refl) refl
heavy_is false false false X Y n some x y none = let e : false ≡ true = some in absurd (cc)

crowded_is : (plan : Expr) (E tables : List (List Row)) (n : Needed) → AreWhole plan E tables → IsTrue (is_needed n) → is_crowded plan E (n.table, length (table_at tables n.table)) ≡ has_heavy (held_at plan tables n)
crowded_is plan E tables n are some =
    ap (nat_lt pair_limit) (pairs_part plan E tables n.table (part plan E tables are))
    ∙ heavy_is n.dir.back n.dir.fwd (has (leaves plan) n.table) (backs plan tables n.table) (forwards plan tables n.table) (pairs_of (backs plan tables n.table).lists) some refl (pairs_forward.both_ways plan tables n.table) (λ e. pairs_unscanned plan tables n.table e)

crowds : (plan : Expr) (E tables : List (List Row)) (need : List Needed) (node : ℕ) → AreDirected need → WholeWhereNeeded plan E tables need
    → option_map (λ (a : AskedTable). FullPairs node a.0) (find (is_crowded plan E) (asked_of tables need)) ≡ pairs_fault node (map (held_at plan tables) need)
crowds plan E tables [] node all whole = refl
crowds plan E tables (n ∷ need) node all whole =
    let are = whole (omega arith) in
    let is = crowded_is plan E tables n are (all 0 n (omega arith)) in
    let rest = crowds plan E tables need node (λ i d l. all (suc i) d (omega arith)) (λ some. are) in
    elim (cases_Bool (has_heavy (held_at plan tables n))) [
      | inl e ↦ rw (is, e) refl
      | inr e ↦ rw (is, e) rest
    ]

pub rows_same : (plan : Expr) (E tables : List (List Row)) → AreWhole plan E tables → eval plan E ≡ rows_over plan tables
rows_same plan E tables are = rows_part plan (leaves plan) E tables 0 (part plan E tables are) ∙ sym (rows_whole plan tables)

-- the fault of a plan's last node is that of its rows and maps
pub fault_same : (plan : Expr) (E tables : List (List Row)) (need : List Needed) (node : ℕ) → AreDirected need → WholeWhereNeeded plan E tables need → last_node_fault plan E (asked_of tables need) node ≡ node_fault node (eval plan E) (map (held_at plan tables) need)
fault_same plan E tables need node all whole = ap (λ (o : Option NodeFault). cond (is_full (eval plan E)) (Some (FullRows node)) o) (crowds plan E tables need node all whole)

-- what is filled in

or_empty_is : (d h : Bool) (X : Lists) (n size : ℕ) → (h ≡ false → X ≡ empty_lists n size) → or_empty d (wanted (d && h) X) n size ≡ wanted d X
or_empty_is true false X n size none = ap Some (sym (none refl))
or_empty_is _ _ X n size none = refl

filled_is : (plan : Expr) (tables : List (List Row)) (n : Needed) → filled n.dir (length (rows_over plan tables)) (length (table_at tables n.table)) (held_at plan tables n) ≡ kept_at plan tables n
filled_is plan tables n = mk_same refl
    (or_empty_is n.dir.back (has (leaves plan) n.table) (backs plan tables n.table) (length (rows_over plan tables)) (length (table_at tables n.table)) (λ e. lists_stand.unscanned_backs plan tables n.table e))
    (or_empty_is n.dir.fwd (has (leaves plan) n.table) (forwards plan tables n.table) (length (table_at tables n.table)) (length (rows_over plan tables)) (λ e. lists_stand.unscanned_forwards plan tables n.table e))

pub kept_whole : (plan : Expr) (tables : List (List Row)) (need : List Needed) (held made : List KeptMap) (rows : ℕ) → held ≡ map (held_at plan tables) need → rows ≡ length (rows_over plan tables) → length made ≡ length held
    → ((i : ℕ) → i < length need → map_at made i ≡ filled (get_or need i no_need).dir rows (length (table_at tables (get_or need i no_need).table)) (map_at held i))
    → made ≡ map (kept_at plan tables) need
kept_whole plan tables need held made rows maps size long each =
    let many : length held ≡ length need = ap (length {A = KeptMap}) maps ∙ length-map need (held_at plan tables) in
    let much : length (map (kept_at plan tables) need) ≡ length need = length-map need (kept_at plan tables) in
    same_lists made (map (kept_at plan tables) need) (omega (arith, many, much, long)) (λ i d l.
    let low : i < length need = omega (arith, many, long, l) in
    let n = get_or need i no_need in
    let at : map_at held i ≡ held_at plan tables n = ap (λ (k : List KeptMap). map_at k i) maps ∙ get_or-map (held_at plan tables) need i no_need no_map low in
    get_or_default made i d no_map l ∙ each i low
    ∙ ap (λ r. filled n.dir r (length (table_at tables n.table)) (map_at held i)) size
    ∙ ap (λ (k : KeptMap). filled n.dir (length (rows_over plan tables)) (length (table_at tables n.table)) k) at
    ∙ filled_is plan tables n
    ∙ sym (get_or-map (kept_at plan tables) need i no_need d low))
