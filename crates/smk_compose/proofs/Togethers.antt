-- The maps of both inputs of a step, one after the other.
use Rattle.std.proofs.Common.{◌≡◌, ◌∙◌, ◌<◌, ◌≤◌, ℕ, zero, suc, List, [], ◌∷◌, length, get_or, Option, refl, sym, ap, subst, arith}
use Rattle.smk_base.specs.{Places.Lists, declared.book.plan.Dir.Dir, Plans.Binary, Rels.Relation}
use Rattle.smk_model.specs.{Values.Row, Plain.step2, Locals.{back_left, fwd_left, back_right, fwd_right}}
use Rattle.smk_body.specs.{Locals.{side_of, local2}, declared.keep.local.Side.Side, declared.keep.local.Local.Local, declared.keep.local.Want.Want}
use Rattle.smk_compose.specs.{Through.{merged_if_both, CanMerge, together, together_all, want_of, right_of, map_at, no_map, side_left, side_right, pairs_fault, node_fault}, declared.kept_maps.KeptMap.KeptMap}
use Rattle.smk_compose.proofs.Wants.{mk_same, full, chained_back, chained_fwd, few_fault}

pub together_long : (ls rs : Side) (lefts rights : List KeptMap) → length lefts ≡ length rights → length (together_all ls rs lefts rights) ≡ length lefts
together_long ls rs [] rights long = refl
together_long ls rs (l ∷ lefts) [] long = absurd (omega arith)
together_long ls rs (l ∷ lefts) (r ∷ rights) long = let e : length lefts ≡ length rights = omega arith in omega (arith, together_long ls rs lefts rights e)

pub together_at : (ls rs : Side) (lefts rights : List KeptMap) (i : ℕ) (d : KeptMap) → length lefts ≡ length rights → i < length lefts → get_or (together_all ls rs lefts rights) i d ≡ together ls rs (map_at lefts i) (map_at rights i)
together_at ls rs [] rights i d long low = absurd (omega arith)
together_at ls rs (l ∷ lefts) [] i d long low = absurd (omega arith)
together_at ls rs (l ∷ lefts) (r ∷ rights) zero d long low = refl
together_at ls rs (l ∷ lefts) (r ∷ rights) (suc i) d long low = together_at ls rs lefts rights i d (omega arith) (omega arith)

pub together_agree : (ls rs ms ns : Side) (lefts rights : List KeptMap)
    → ((i : ℕ) → i < length lefts → i < length rights → together ls rs (map_at lefts i) (map_at rights i) ≡ together ms ns (map_at lefts i) (map_at rights i))
    → together_all ls rs lefts rights ≡ together_all ms ns lefts rights
together_agree ls rs ms ns (l ∷ lefts) (r ∷ rights) h =
    let here : together ls rs l r ≡ together ms ns l r = h 0 (omega arith) (omega arith) in
    let rest : together_all ls rs lefts rights ≡ together_all ms ns lefts rights = together_agree ls rs ms ns lefts rights (λ i p q. h (suc i) (omega arith) (omega arith)) in
    rw (here, rest) refl
together_agree ls rs ms ns _ _ h = refl

pub merged_same : {a b x y : Option Lists} → a ≡ b → x ≡ y → merged_if_both a x ≡ merged_if_both b y
merged_same p q = rw (p, q) refl

pub together_wanted : (B F C G : Lists) (lefts rights : List KeptMap)
    → together_all (side_of (want_of lefts) B F) (side_of (want_of rights) C G) lefts rights ≡ together_all (full B F) (full C G) lefts rights
together_wanted B F C G lefts rights = together_agree (side_of (want_of lefts) B F) (side_of (want_of rights) C G) (full B F) (full C G) lefts rights (λ i p q.
    mk_same refl
    (merged_same (chained_back lefts B i no_map p) (chained_back rights C i no_map q))
    (merged_same (chained_fwd lefts F i no_map p) (chained_fwd rights G i no_map q)))

-- the maps of a step with two inputs
pub two_maps : (op : Binary) (L R : List Row) (lefts rights : List KeptMap) (want : Want) (m : Local) → want.left ≡ want_of lefts → want.right ≡ want_of rights → m ≡ local2 op L R want
    → together_all m.left (right_of m) lefts rights ≡ together_all (side_left op L R) (side_right op L R) lefts rights
two_maps op L R lefts rights want m left right is =
    ap (λ (l : Local). together_all l.left (right_of l) lefts rights) is
    ∙ ap (λ (w : Dir). together_all (side_of w (back_left op L R) (fwd_left op L R)) (side_of want.right (back_right op L R) (fwd_right op L R)) lefts rights) left
    ∙ ap (λ (w : Dir). together_all (side_of (want_of lefts) (back_left op L R) (fwd_left op L R)) (side_of w (back_right op L R) (fwd_right op L R)) lefts rights) right
    ∙ together_wanted (back_left op L R) (fwd_left op L R) (back_right op L R) (fwd_right op L R) lefts rights

pub lists_same : (ls rs : Side) {us vs xs ys : List KeptMap} → us ≡ vs → xs ≡ ys → together_all ls rs us xs ≡ together_all ls rs vs ys
lists_same ls rs p q = rw (p, q) refl

-- the fault of a step with two inputs is that of its maps by the lineage that is wanted
pub two_fault_is : (op : Binary) (L R : List Row) {lefts rights us vs : List KeptMap} {want : Want} {m : Local} (node : ℕ) → want.left ≡ want_of lefts → want.right ≡ want_of rights → m ≡ local2 op L R want → us ≡ lefts → vs ≡ rights → length (step2 op L R) ≤ 1048576
    → pairs_fault node (together_all m.left (right_of m) us vs) ≡ node_fault node (step2 op L R) (together_all (side_left op L R) (side_right op L R) lefts rights)
two_fault_is op L R {lefts} {rights} {us} {vs} {want} {m} node left right is p q few =
    ap (pairs_fault node) (lists_same m.left (right_of m) p q ∙ two_maps op L R lefts rights want m left right is) ∙ sym (few_fault node (step2 op L R) (together_all (side_left op L R) (side_right op L R) lefts rights) few)

-- what a merge of wanted lists asks
pub can_merge_along : {a b x y : Option Lists} → a ≡ b → x ≡ y → CanMerge a x → CanMerge b y
can_merge_along {a} {b} {x} {y} p q h = subst (λ (z : Option Lists). CanMerge b z) q (subst (λ (z : Option Lists). CanMerge z x) p h)

-- what holds of the rows and maps of both inputs holds of equal ones
pub same_inputs : (P : Relation → List KeptMap → Relation → List KeptMap → Type 0) {a b x y : Relation} {j k m n : List KeptMap} → a ≡ b → j ≡ k → x ≡ y → m ≡ n → P a j x m → P b k y n
same_inputs P {a} {b} {x} {y} {j} {k} {m} {n} p q r s h = subst (P b k y) s (subst (λ (v : Relation). P b k v m) r (subst (λ (l : List KeptMap). P b l x m) q (subst (λ (v : Relation). P v j x m) p h)))
