-- The maps of an input that a step has still to pass, while its lists are handed on.
use Rattle.std.proofs.{Common.{◌≡◌, ◌∙◌, ◌<◌, ◌+◌, ℕ, Bool, true, List, [], ◌∷◌, length, map, drop, get_or, Option, Some, None, is_some, refl, sym, ap, subst, arith, slice_set}, lemmas.Bool.or_right, lemmas.List.{length-drop, get_or-drop, get_or-map, drop-drop, drop-set-lt}, lemmas.List.Folds.list_any_at}
use Rattle.std.specs.List.{list_any}
use Rattle.smk_base.specs.Places.{Lists}
use Rattle.smk_body.specs.declared.keep.local.Side.{Side}
use Rattle.smk_compose.specs.{Through.{chained, Chains, through, merged_maps, together, together_all, Passes, Matches, Meets, has_back, has_fwd, map_at, no_map, Serves, IsAhead}, declared.kept_maps.KeptMap.KeptMap}
use Rattle.smk_compose.proofs.{Wants.mk_same, Togethers.together_at}

-- one map

chained_none : (s : Option Lists) → chained s None ≡ None
chained_none None = refl
chained_none (Some a) = refl

chains_none : (s : Option Lists) → Chains s None
chains_none None = tt
chains_none (Some a) = tt

first_same : (s f b : Option Lists) → (is_some b ≡ true → s ≡ f) → chained s b ≡ chained f b
first_same s f None h = chained_none s ∙ sym (chained_none f)
first_same s f (Some b) h = ap (λ (x : Option Lists). chained x (Some b)) (h refl)

last_same : (s f b : Option Lists) → (is_some b ≡ true → s ≡ f) → chained b s ≡ chained b f
last_same s f None h = refl
last_same s f (Some b) h = ap (chained (Some b)) (h refl)

first_passes : (s f b : Option Lists) → (is_some b ≡ true → s ≡ f) → Chains f b → Chains s b
first_passes s f None h passes = chains_none s
first_passes s f (Some b) h passes = subst (λ (x : Option Lists). Chains x (Some b)) (sym (h refl)) passes

last_passes : (s f b : Option Lists) → (is_some b ≡ true → s ≡ f) → Chains b f → Chains b s
last_passes s f None h passes = tt
last_passes s f (Some b) h passes = subst (λ (x : Option Lists). Chains (Some b) x) (sym (h refl)) passes

-- the next map

pub same_at : (below maps : List KeptMap) (i : ℕ) → drop i maps ≡ drop i below → map_at maps i ≡ map_at below i
same_at below maps i rest =
    let e : i + 0 ≡ i = omega arith in
    ap (map_at maps) (sym e) ∙ sym (get_or-drop i maps 0 no_map) ∙ ap (λ (t : List KeptMap). get_or t 0 no_map) rest ∙ get_or-drop i below 0 no_map ∙ ap (map_at below) e

some_here : (t : KeptMap → Bool) (below : List KeptMap) (i : ℕ) → i < length below → t (map_at below i) ≡ true → list_any t (drop i below) ≡ true
some_here t below i low is =
    let e : i + 0 ≡ i = omega arith in
    let here : get_or (drop i below) 0 no_map ≡ map_at below i = get_or-drop i below 0 no_map ∙ ap (map_at below) e in
    list_any_at t (drop i below) 0 no_map (omega (arith, length-drop i below)) (ap t here ∙ is)

back_here : (first side : Side) (below maps : List KeptMap) (i : ℕ) → i < length below → IsAhead first below side maps i → is_some (map_at below i).back ≡ true → side.back ≡ first.back
back_here first side below maps i low ahead is = ahead.serves.back (some_here has_back below i low is)

fwd_here : (first side : Side) (below maps : List KeptMap) (i : ℕ) → i < length below → IsAhead first below side maps i → is_some (map_at below i).fwd ≡ true → side.fwd ≡ first.fwd
fwd_here first side below maps i low ahead is = ahead.serves.fwd (some_here has_fwd below i low is)

pub ahead_through : (first side : Side) (below maps : List KeptMap) (i : ℕ) → i < length below → IsAhead first below side maps i → through side (map_at maps i) ≡ through first (map_at below i)
ahead_through first side below maps i low ahead =
    let k = map_at below i in
    ap (through side) (same_at below maps i ahead.rest)
    ∙ mk_same refl (first_same side.back first.back k.back (back_here first side below maps i low ahead)) (last_same side.fwd first.fwd k.fwd (fwd_here first side below maps i low ahead))

pub ahead_passes : (first side : Side) (below maps : List KeptMap) (i : ℕ) → i < length below → IsAhead first below side maps i → Passes first (map_at below i) → Passes side (map_at maps i)
ahead_passes first side below maps i low ahead passes =
    let k = map_at below i in
    subst (Passes side) (sym (same_at below maps i ahead.rest)) (record {
      back = first_passes side.back first.back k.back (back_here first side below maps i low ahead) passes.back;
      fwd = last_passes side.fwd first.fwd k.fwd (fwd_here first side below maps i low ahead) passes.fwd;
    })

pub pass_here : (first side : Side) (below maps : List KeptMap) (i : ℕ) → i < length below → IsAhead first below side maps i → map_at (map (through first) below) i ≡ through side (map_at maps i)
pass_here first side below maps i low ahead = get_or-map (through first) below i no_map no_map low ∙ sym (ahead_through first side below maps i low ahead)

pub meet_here : (fl fr ls rs : Side) (xs ys lefts rights : List KeptMap) (i : ℕ) → length xs ≡ length ys → i < length xs → IsAhead fl xs ls lefts i → IsAhead fr ys rs rights i
    → map_at (together_all fl fr xs ys) i ≡ together ls rs (map_at lefts i) (map_at rights i)
meet_here fl fr ls rs xs ys lefts rights i long low left right =
    let l = ahead_through fl ls xs lefts i low left in
    let r = ahead_through fr rs ys rights i (omega (arith, long, low)) right in
    together_at fl fr xs ys i no_map long low ∙ sym (ap (λ (k : KeptMap). merged_maps k (through rs (map_at rights i))) l ∙ ap (merged_maps (through fl (map_at xs i))) r)

-- what a step with two inputs asks of the next maps
pub ahead_meets : (fl fr ls rs : Side) (xs ys lefts rights : List KeptMap) (i : ℕ) → length xs ≡ length ys → i < length xs → IsAhead fl xs ls lefts i → IsAhead fr ys rs rights i
    → Meets fl fr (map_at xs i) (map_at ys i) → Meets ls rs (map_at lefts i) (map_at rights i)
ahead_meets fl fr ls rs xs ys lefts rights i long low left right meets =
    let inside : i < length ys = omega (arith, long, low) in
    let l = ahead_through fl ls xs lefts i low left in
    let r = ahead_through fr rs ys rights i inside right in
    record {
      left = ahead_passes fl ls xs lefts i low left meets.left;
      right = ahead_passes fr rs ys rights i inside right meets.right;
      matches = subst (λ (k : KeptMap). Matches k (through rs (map_at rights i))) (sym l) (subst (Matches (through fl (map_at xs i))) (sym r) meets.matches);
    }

-- what is left behind it

some_later : (t : KeptMap → Bool) (xs : List KeptMap) → list_any t (drop 1 xs) ≡ true → list_any t xs ≡ true
some_later t [] h = h
some_later t (x ∷ xs) h = or_right (t x) (list_any t xs) h

later : (t : KeptMap → Bool) (below : List KeptMap) (i : ℕ) → list_any t (drop (i + 1) below) ≡ true → list_any t (drop i below) ≡ true
later t below i h = some_later t (drop i below) (ap (list_any t) (drop-drop 1 i below) ∙ h)

-- the lists that are served stay, and the maps behind the next one do
pub ahead_next : (first side next : Side) (below maps made : List KeptMap) (i : ℕ) → IsAhead first below side maps i → length made ≡ length maps → drop (i + 1) made ≡ drop (i + 1) maps → Serves side next (drop (i + 1) maps) → IsAhead first below next made (i + 1)
ahead_next first side next below maps made i ahead long behind serves =
    let rest : drop (i + 1) maps ≡ drop (i + 1) below = sym (drop-drop 1 i maps) ∙ ap (drop 1) ahead.rest ∙ drop-drop 1 i below in
    record {
      long = long ∙ ahead.long;
      rest = behind ∙ rest;
      serves = record {
        back = λ h. serves.back (ap (list_any has_back) rest ∙ h) ∙ ahead.serves.back (later has_back below i h);
        fwd = λ h. serves.fwd (ap (list_any has_fwd) rest ∙ h) ∙ ahead.serves.fwd (later has_fwd below i h);
      };
    }

pub set_behind : (maps : List KeptMap) (i : ℕ) (k : KeptMap) → drop (i + 1) (slice_set maps i k) ≡ drop (i + 1) maps
set_behind maps i k = drop-set-lt (i + 1) maps i k (omega arith)
