-- The maps of a plan whose last step has two inputs, from those of its inputs.
use Rattle.std.proofs.{Common.{◌≡◌, ◌∙◌, ◌<◌, ℕ, Bool, true, false, ◌&&◌, ◌||◌, List, [], ◌∷◌, ◌++◌, length, map, get_or, Some, nat_eq, refl, sym, ap, subst, arith}, lemmas.List.{length-map, get_or-map}, lemmas.List.Folds.list_any-append}
use Rattle.smk_base.specs.{Places.{Lists, has, upto, places, members_at, composed, merged}, Plans.{Binary, Expr, Combine}, declared.book.need.Needed.Needed}
use Rattle.smk_model.specs.{Values.Row, Plain.{step2, leaves}, Lineage.{from_left, from_right}, Locals.{back_left, fwd_left, back_right, fwd_right}, Composed.{table_at, rows_over, backs, forwards}}
use Rattle.smk_base.proofs.Places.{length_upto}
use Rattle.smk_model.proofs.Composed.{backs_compose, forwards_compose, lists_stand}
use Rattle.smk_body.specs.Locals.{wanted}
use Rattle.smk_compose.specs.{KeptMaps.held_at, Through.{chained, merged_if_both, CanMerge, together, together_all, side_left, side_right, Meets, map_at, no_map, no_need}, declared.kept_maps.KeptMap.KeptMap}
use Rattle.smk_compose.proofs.{Chains.composed_sets, Wants.mk_same, Togethers.{merged_same, can_merge_along, lists_same}, Ones.{RowsWhereNeeded, first_fits, last_fits}, Alone.{IsVoid, empty_void, composed_void, void_composed, merged_left, merged_right}}

-- the wanted lists of both sides, each where its side has the table
merged_wants : (d p q : Bool) (X Y Z : Lists) → Z ≡ merged X Y → (q ≡ false → merged X Y ≡ X) → (p ≡ false → merged X Y ≡ Y) → merged_if_both (wanted (d && p) X) (wanted (d && q) Y) ≡ wanted (d && (p || q)) Z
merged_wants true true true X Y Z e l r = ap Some (sym e)
merged_wants true true false X Y Z e l r = ap Some (sym (e ∙ l refl))
merged_wants true false true X Y Z e l r = ap Some (sym (e ∙ r refl))
merged_wants _ _ _ X Y Z e l r = refl

chain_first : (w : Bool) (B X : Lists) → chained (Some B) (wanted w X) ≡ wanted w (composed B X)
chain_first true B X = refl
chain_first false B X = refl

chain_last : (w : Bool) (X F : Lists) → chained (wanted w X) (Some F) ≡ wanted w (composed X F)
chain_last true X F = refl
chain_last false X F = refl

length_mapped : (f : ℕ → List ℕ) (n : ℕ) → length (map f (upto n)) ≡ n
length_mapped f n = length-map (upto n) f ∙ length_upto n

void_backs : (plan : Expr) (tables : List (List Row)) (table : ℕ) → has (leaves plan) table ≡ false → IsVoid (backs plan tables table)
void_backs plan tables table none = subst IsVoid (sym (lists_stand.unscanned_backs plan tables table none)) (empty_void (length (rows_over plan tables)) (length (table_at tables table)))

void_forwards : (plan : Expr) (tables : List (List Row)) (table : ℕ) (F : Lists) → has (leaves plan) table ≡ false → IsVoid (composed (forwards plan tables table) F)
void_forwards plan tables table F none = subst (λ (l : Lists). IsVoid (composed l F)) (sym (lists_stand.unscanned_forwards plan tables table none)) (void_composed (length (table_at tables table)) (length (rows_over plan tables)) F)

together_is : (op : Binary) (a b : Expr) (tables : List (List Row)) (n : Needed)
    → together (side_left op (rows_over a tables) (rows_over b tables)) (side_right op (rows_over a tables) (rows_over b tables)) (held_at a tables n) (held_at b tables n) ≡ held_at (Combine op a b) tables n
together_is op a b tables n =
    let L = rows_over a tables in
    let R = rows_over b tables in
    let t = n.table in
    let p = has (leaves a) t in
    let q = has (leaves b) t in
    let X = composed (back_left op L R) (backs a tables t) in
    let Y = composed (back_right op L R) (backs b tables t) in
    let U = composed (forwards a tables t) (fwd_left op L R) in
    let V = composed (forwards b tables t) (fwd_right op L R) in
    let either : (p || q) ≡ has (leaves a ++ leaves b) t = sym (list_any-append (nat_eq t) (leaves a) (leaves b)) in
    let rows : ℕ = length (step2 op L R) in
    let longX : length X.lists ≡ rows = length-map (back_left op L R).lists (members_at (backs a tables t)) ∙ length_mapped (from_left op L R) rows in
    let longY : length Y.lists ≡ rows = length-map (back_right op L R).lists (members_at (backs b tables t)) ∙ length_mapped (from_right op L R) rows in
    let longU : length U.lists ≡ length (table_at tables t) = length-map (forwards a tables t).lists (members_at (fwd_left op L R)) ∙ lists_stand.forwards_long a tables t in
    let longV : length V.lists ≡ length (table_at tables t) = length-map (forwards b tables t).lists (members_at (fwd_right op L R)) ∙ lists_stand.forwards_long b tables t in
    mk_same refl
    (merged_same (chain_first (n.dir.back && p) (back_left op L R) (backs a tables t)) (chain_first (n.dir.back && q) (back_right op L R) (backs b tables t))
    ∙ merged_wants n.dir.back p q X Y (backs (Combine op a b) tables t) (backs_compose.two op a b tables t)
    (λ e. merged_left X Y (composed_sets (back_left op L R) (backs a tables t)) (composed_void (back_right op L R) (backs b tables t) (void_backs b tables t e)))
    (λ e. merged_right X Y (longX ∙ sym longY) refl (composed_sets (back_right op L R) (backs b tables t)) (composed_void (back_left op L R) (backs a tables t) (void_backs a tables t e)))
    ∙ ap (λ w. wanted (n.dir.back && w) (backs (Combine op a b) tables t)) either)
    (merged_same (chain_last (n.dir.fwd && p) (forwards a tables t) (fwd_left op L R)) (chain_last (n.dir.fwd && q) (forwards b tables t) (fwd_right op L R))
    ∙ merged_wants n.dir.fwd p q U V (forwards (Combine op a b) tables t) (forwards_compose.two op a b tables t)
    (λ e. merged_left U V (composed_sets (forwards a tables t) (fwd_left op L R)) (void_forwards b tables t (fwd_right op L R) e))
    (λ e. merged_right U V (longU ∙ sym longV) refl (composed_sets (forwards b tables t) (fwd_right op L R)) (void_forwards a tables t (fwd_left op L R) e))
    ∙ ap (λ w. wanted (n.dir.fwd && w) (forwards (Combine op a b) tables t)) either)

pub maps_together : (op : Binary) (a b : Expr) (tables : List (List Row)) (need : List Needed)
    → together_all (side_left op (rows_over a tables) (rows_over b tables)) (side_right op (rows_over a tables) (rows_over b tables)) (map (held_at a tables) need) (map (held_at b tables) need) ≡ map (held_at (Combine op a b) tables) need
maps_together op a b tables [] = refl
maps_together op a b tables (n ∷ need) = rw (together_is op a b tables n, maps_together op a b tables need) refl

-- what the merge asks

can_merge_wants : (w v : Bool) (X Y : Lists) → length X.lists ≡ length Y.lists → X.bound ≡ Y.bound → CanMerge (wanted w X) (wanted v Y)
can_merge_wants true true X Y long bound = (long, bound)
can_merge_wants _ _ X Y long bound = tt

meets_at : (op : Binary) (a b : Expr) (tables : List (List Row)) (n : Needed)
    → Meets (side_left op (rows_over a tables) (rows_over b tables)) (side_right op (rows_over a tables) (rows_over b tables)) (held_at a tables n) (held_at b tables n)
meets_at op a b tables n =
    let L = rows_over a tables in
    let R = rows_over b tables in
    let t = n.table in
    let back_a = n.dir.back && has (leaves a) t in
    let back_b = n.dir.back && has (leaves b) t in
    let fwd_a = n.dir.fwd && has (leaves a) t in
    let fwd_b = n.dir.fwd && has (leaves b) t in
    let X = composed (back_left op L R) (backs a tables t) in
    let Y = composed (back_right op L R) (backs b tables t) in
    let U = composed (forwards a tables t) (fwd_left op L R) in
    let V = composed (forwards b tables t) (fwd_right op L R) in
    let rows : ℕ = length (step2 op L R) in
    let longX : length X.lists ≡ rows = length-map (back_left op L R).lists (members_at (backs a tables t)) ∙ length_mapped (from_left op L R) rows in
    let longY : length Y.lists ≡ rows = length-map (back_right op L R).lists (members_at (backs b tables t)) ∙ length_mapped (from_right op L R) rows in
    let longU : length U.lists ≡ length (table_at tables t) = length-map (forwards a tables t).lists (members_at (fwd_left op L R)) ∙ lists_stand.forwards_long a tables t in
    let longV : length V.lists ≡ length (table_at tables t) = length-map (forwards b tables t).lists (members_at (fwd_right op L R)) ∙ lists_stand.forwards_long b tables t in
    let left_size : length (fwd_left op L R).lists ≡ length L = length_mapped (λ i. places (λ o. has (from_left op L R o) i) rows) (length L) in
    let right_size : length (fwd_right op L R).lists ≡ length R = length_mapped (λ i. places (λ o. has (from_right op L R o) i) rows) (length R) in
    record {
      left = record {
        back = first_fits back_a (back_left op L R) (backs a tables t) (sym (lists_stand.backs_long a tables t));
        fwd = last_fits fwd_a (forwards a tables t) (fwd_left op L R) (sym left_size);
      };
      right = record {
        back = first_fits back_b (back_right op L R) (backs b tables t) (sym (lists_stand.backs_long b tables t));
        fwd = last_fits fwd_b (forwards b tables t) (fwd_right op L R) (sym right_size);
      };
      matches = record {
        back = can_merge_along (sym (chain_first back_a (back_left op L R) (backs a tables t))) (sym (chain_first back_b (back_right op L R) (backs b tables t))) (can_merge_wants back_a back_b X Y (longX ∙ sym longY) refl);
        fwd = can_merge_along (sym (chain_last fwd_a (forwards a tables t) (fwd_left op L R))) (sym (chain_last fwd_b (forwards b tables t) (fwd_right op L R))) (can_merge_wants fwd_a fwd_b U V (longU ∙ sym longV) refl);
      };
    }

-- where something is needed

pub two_held : (op : Binary) (a b : Expr) (tables : List (List Row)) (need : List Needed) (L R : List Row) (lefts rights : List KeptMap)
    → RowsWhereNeeded a tables need L → RowsWhereNeeded b tables need R → lefts ≡ map (held_at a tables) need → rights ≡ map (held_at b tables) need
    → together_all (side_left op L R) (side_right op L R) lefts rights ≡ map (held_at (Combine op a b) tables) need
two_held op a b tables [] L R lefts rights l r ls rs = lists_same (side_left op L R) (side_right op L R) ls rs
two_held op a b tables (n ∷ need) L R lefts rights l r ls rs =
    ap (λ (M : List Row). together_all (side_left op M R) (side_right op M R) lefts rights) (l (omega arith))
    ∙ ap (λ (M : List Row). together_all (side_left op (rows_over a tables) M) (side_right op (rows_over a tables) M) lefts rights) (r (omega arith))
    ∙ lists_same (side_left op (rows_over a tables) (rows_over b tables)) (side_right op (rows_over a tables) (rows_over b tables)) ls rs
    ∙ maps_together op a b tables (n ∷ need)

pub two_all_meet : (op : Binary) (a b : Expr) (tables : List (List Row)) (need : List Needed) (L R : List Row) (lefts rights : List KeptMap)
    → RowsWhereNeeded a tables need L → RowsWhereNeeded b tables need R → lefts ≡ map (held_at a tables) need → rights ≡ map (held_at b tables) need
    → (i : ℕ) → i < length lefts → Meets (side_left op L R) (side_right op L R) (map_at lefts i) (map_at rights i)
two_all_meet op a b tables need L R lefts rights l r ls rs i low =
    let M = rows_over a tables in
    let N = rows_over b tables in
    let inside : i < length need = omega (arith, low, ap (length {A = KeptMap}) ls, length-map need (held_at a tables)) in
    let some : 0 < length need = omega arith in
    let left : map_at lefts i ≡ held_at a tables (get_or need i no_need) = ap (λ (k : List KeptMap). map_at k i) ls ∙ get_or-map (held_at a tables) need i no_need no_map inside in
    let right : map_at rights i ≡ held_at b tables (get_or need i no_need) = ap (λ (k : List KeptMap). map_at k i) rs ∙ get_or-map (held_at b tables) need i no_need no_map inside in
    let here = meets_at op a b tables (get_or need i no_need) in
    let one = subst (λ (k : KeptMap). Meets (side_left op M N) (side_right op M N) k (held_at b tables (get_or need i no_need))) (sym left) here in
    let two = subst (λ (k : KeptMap). Meets (side_left op M N) (side_right op M N) (map_at lefts i) k) (sym right) one in
    let three = subst (λ (K : List Row). Meets (side_left op K N) (side_right op K N) (map_at lefts i) (map_at rights i)) (sym (l some)) two in
    subst (λ (K : List Row). Meets (side_left op L K) (side_right op L K) (map_at lefts i) (map_at rights i)) (sym (r some)) three
