-- The maps of a scan.
use Rattle.std.proofs.{Common.{◌≡◌, ◌∙◌, ◌<◌, ◌≤◌, ℕ, zero, suc, Bool, true, false, ◌&&◌, ◌||◌, List, [], ◌∷◌, length, map, get_or, Some, None, nat_eq, nat_lt, eqb-true, refl, sym, ap, arith, inl, inr}, lemmas.Bool.cases_Bool, lemmas.List.map-append, lemmas.List.Sums.sum_by_push}
use Rattle.std.specs.List.{find}
use Rattle.smk_base.specs.{Plans.Leaf, Places.{Lists, upto, pairs_of, own_lists}, declared.book.need.Needed.Needed}
use Rattle.smk_model.specs.{Values.Row, Composed.{table_at, backs, forwards}, NodeFaults.pair_limit}
use Rattle.smk_model.proofs.Composed.{backs_compose, forwards_compose}
use Rattle.smk_body.specs.Locals.{wanted}
use Rattle.smk_compose.specs.{KeptMaps.held_at, Through.{is_heavy, has_heavy, scan_at}}
use Rattle.smk_compose.proofs.Wants.{mk_same, map_agree}

wanted_scan : (e d : Bool) (X Y : Lists) → (e ≡ true → X ≡ Y) → wanted (e && d) X ≡ wanted (d && (e || false)) Y
wanted_scan true true X Y h = ap Some (h refl)
wanted_scan true false X Y h = refl
wanted_scan false true X Y h = refl
wanted_scan false false X Y h = refl

scan_is : (table : ℕ) (tables : List (List Row)) (n : Needed) → scan_at table (length (table_at tables table)) n ≡ held_at (Leaf table) tables n
scan_is table tables n = mk_same refl
    (wanted_scan (nat_eq n.table table) n.dir.back (own_lists (length (table_at tables table))) (backs (Leaf table) tables n.table) (λ e.
    sym (backs_compose.scan table tables) ∙ ap (λ t. backs (Leaf table) tables t) (sym (eqb-true n.table table e))))
    (wanted_scan (nat_eq n.table table) n.dir.fwd (own_lists (length (table_at tables table))) (forwards (Leaf table) tables n.table) (λ e.
    sym (forwards_compose.scan table tables) ∙ ap (λ t. forwards (Leaf table) tables t) (sym (eqb-true n.table table e))))

pub scan_held : (table : ℕ) (tables : List (List Row)) (need : List Needed) (leaf : List Row) → (0 < length need → leaf ≡ table_at tables table) → map (scan_at table (length leaf)) need ≡ map (held_at (Leaf table) tables) need
scan_held table tables [] leaf whole = refl
scan_held table tables (n ∷ need) leaf whole =
    ap (λ (L : List Row). map (scan_at table (length L)) (n ∷ need)) (whole (omega arith))
    ∙ map_agree (scan_at table (length (table_at tables table))) (held_at (Leaf table) tables) (n ∷ need) (λ i d l. scan_is table tables (get_or (n ∷ need) i d))

-- a scan has few pairs

pub pairs_own : (n : ℕ) → pairs_of (own_lists n).lists ≡ n
pairs_own zero = refl
pairs_own (suc n) =
    ap pairs_of (map-append (λ (i : ℕ). i ∷ []) (upto n) (n ∷ []))
    ∙ omega (arith, sum_by_push (length {A = ℕ}) (own_lists n).lists (n ∷ []), pairs_own n)

light_own : (w : Bool) (n : ℕ) → n ≤ 1048576 → is_heavy (wanted w (own_lists n)) ≡ false
light_own false n few = refl
light_own true n few = let e = pairs_own n in elim (cases_Bool (nat_lt pair_limit (pairs_of (own_lists n).lists))) [
  | inl h ↦ absurd (grind (arith, h, e, few))
  | inr h ↦ h
]

pub light_scan : (table n : ℕ) (need : List Needed) → n ≤ 1048576 → find has_heavy (map (scan_at table n) need) ≡ None
light_scan table n [] few = refl
light_scan table n (x ∷ xs) few =
    let back = light_own (nat_eq x.table table && x.dir.back) n few in
    let fwd = light_own (nat_eq x.table table && x.dir.fwd) n few in
    rw (back, fwd) (light_scan table n xs few)
