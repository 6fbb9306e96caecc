-- A step that gives its lists in the directions in which its inputs have maps does for them what all its lists would do.
use Rattle.std.proofs.{Common.{◌≡◌, ◌∙◌, ◌<◌, ◌≤◌, ℕ, suc, Bool, true, false, List, [], ◌∷◌, length, map, get_or, Option, Some, is_some, refl, sym, ap, arith, inl, inr}, lemmas.Bool.cases_Bool, lemmas.List.Folds.list_any_at}
use Rattle.smk_base.specs.{Places.Lists, declared.book.plan.Dir.Dir, Plans.Unary}
use Rattle.smk_model.specs.{Values.Row, Plain.step1, Locals.{back1, fwd1}, Selection.is_full}
use Rattle.smk_model.proofs.Sizes.{adds_no_rows}
use Rattle.smk_body.specs.{Locals.{wanted, side_of, local1}, declared.keep.local.Local.Local, declared.keep.local.Side.Side}
use Rattle.smk_compose.specs.{Through.{chained, through, has_back, has_fwd, want_of, side1, pairs_fault, node_fault}, declared.kept_maps.KeptMap.KeptMap}

abbrev pub mk : ℕ → Option Lists → Option Lists → KeptMap
mk table back fwd = record { table = table; back = back; fwd = fwd }

pub mk_same : {s t : ℕ} {a b x y : Option Lists} → s ≡ t → a ≡ b → x ≡ y → mk s a x ≡ mk t b y
mk_same p q r = rw (p, q, r) refl

pub lists_same : {a b : List (List ℕ)} {m n : ℕ} → a ≡ b → m ≡ n → (let x : Lists = record { lists = a; bound = m } in x) ≡ record { lists = b; bound = n }
lists_same p q = rw (p, q) refl

abbrev pub full : Lists → Lists → Side
full B F = record { back = Some B; fwd = Some F }

pub map_agree : {X Y : Type 0} (f g : X → Y) (xs : List X) → ((i : ℕ) (d : X) → i < length xs → f (get_or xs i d) ≡ g (get_or xs i d)) → map f xs ≡ map g xs
map_agree f g [] h = refl
map_agree f g (x ∷ xs) h = let rest : map f xs ≡ map g xs = map_agree f g xs (λ i d l. h (suc i) d (omega arith)) in let here : f x ≡ g x = h 0 x (omega arith) in rw (rest, here) refl

first_wanted : (w : Bool) (B : Lists) (b : Option Lists) → (is_some b ≡ true → w ≡ true) → chained (wanted w B) b ≡ chained (Some B) b
first_wanted false B (Some x) h = let e : false ≡ true = h refl in absurd (cc)
first_wanted _ B _ h = refl

second_wanted : (w : Bool) (F : Lists) (f : Option Lists) → (is_some f ≡ true → w ≡ true) → chained f (wanted w F) ≡ chained f (Some F)
second_wanted false F (Some x) h = let e : false ≡ true = h refl in absurd (cc)
second_wanted _ F _ h = refl

back_wants : (maps : List KeptMap) (i : ℕ) (d : KeptMap) → i < length maps → is_some (get_or maps i d).back ≡ true → (want_of maps).back ≡ true
back_wants maps i d low h = list_any_at has_back maps i d low h

fwd_wants : (maps : List KeptMap) (i : ℕ) (d : KeptMap) → i < length maps → is_some (get_or maps i d).fwd ≡ true → (want_of maps).fwd ≡ true
fwd_wants maps i d low h = list_any_at has_fwd maps i d low h

pub through_wanted : (maps : List KeptMap) (B F : Lists) → map (through (side_of (want_of maps) B F)) maps ≡ map (through (full B F)) maps
through_wanted maps B F = map_agree (through (side_of (want_of maps) B F)) (through (full B F)) maps (λ i d low.
    let k = get_or maps i d in
    mk_same refl (first_wanted (want_of maps).back B k.back (back_wants maps i d low)) (second_wanted (want_of maps).fwd F k.fwd (fwd_wants maps i d low)))

-- the maps of a step with one input
pub one_maps : (op : Unary) (L : List Row) (below : List KeptMap) (want : Dir) (m : Local) → want ≡ want_of below → m ≡ local1 op L want → map (through m.left) below ≡ map (through (side1 op L)) below
one_maps op L below want m asked is =
    ap (λ (l : Local). map (through l.left) below) is
    ∙ ap (λ (w : Dir). map (through (side_of w (back1 op L) (fwd1 op L))) below) asked
    ∙ through_wanted below (back1 op L) (fwd1 op L)

-- a node with few rows has the fault of its pairs
pub few_fault : (node : ℕ) (rows : List Row) (maps : List KeptMap) → length rows ≤ 1048576 → node_fault node rows maps ≡ pairs_fault node maps
few_fault node rows maps few = elim (cases_Bool (is_full rows)) [
  | inl e ↦ absurd (grind (arith, e, few))
  | inr e ↦ rw e refl
]

one_few : (op : Unary) (L : List Row) → length L ≤ 1048576 → length (step1 op L) ≤ 1048576
one_few op L few = omega (arith, few, adds_no_rows op L)

-- the fault of a step with one input is that of its maps by the lineage that is wanted
pub one_fault_is : (op : Unary) (L : List Row) {below maps : List KeptMap} {want : Dir} {m : Local} (node : ℕ) → want ≡ want_of below → m ≡ local1 op L want → maps ≡ below → length L ≤ 1048576
    → pairs_fault node (map (through m.left) maps) ≡ node_fault node (step1 op L) (map (through (side1 op L)) below)
one_fault_is op L {below} {maps} {want} {m} node asked is same few =
    ap (λ (l : List KeptMap). pairs_fault node (map (through m.left) l)) same ∙ ap (pairs_fault node) (one_maps op L below want m asked is) ∙ sym (few_fault node (step1 op L) (map (through (side1 op L)) below) (one_few op L few))

pub chained_back : (maps : List KeptMap) (B : Lists) (i : ℕ) (d : KeptMap) → i < length maps → chained (wanted (want_of maps).back B) (get_or maps i d).back ≡ chained (Some B) (get_or maps i d).back
chained_back maps B i d low = first_wanted (want_of maps).back B (get_or maps i d).back (back_wants maps i d low)

pub chained_fwd : (maps : List KeptMap) (F : Lists) (i : ℕ) (d : KeptMap) → i < length maps → chained (get_or maps i d).fwd (wanted (want_of maps).fwd F) ≡ chained (get_or maps i d).fwd (Some F)
chained_fwd maps F i d low = second_wanted (want_of maps).fwd F (get_or maps i d).fwd (fwd_wants maps i d low)
