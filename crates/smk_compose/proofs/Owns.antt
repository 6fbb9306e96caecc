-- Maps composed with an identity.
use Rattle.std.proofs.{Common.{◌≡◌, ◌∙◌, ℕ, Bool, true, false, cond, List, [], ◌∷◌, length, map, get_or, nat_eq, nat_lt, Option, Some, None, IfSome, refl, sym, ap, subst, All, arith, inl, inr}, lemmas.Bool.cases_Bool, lemmas.List.Elements.All-get_or, lemmas.List.length-map}
use Rattle.std.specs.List.{list_any}
use Rattle.smk_base.specs.Places.{Lists, IsPlaces, upto, has, list_at, own_lists, pairs_of, members_at, composed}
use Rattle.smk_rid.specs.Maps.{IsMap}
use Rattle.smk_rid.proofs.Sets.{is_below}
use Rattle.smk_base.proofs.Places.{length_upto, map_map, map_upto, map_upto_agree, same_below, get_or_map_upto}
use Rattle.smk_model.proofs.Anys.{any_below, or_false}
use Rattle.smk_body.specs.Locals.{wanted}
use Rattle.smk_model.specs.NodeFaults.{pair_limit}
use Rattle.smk_compose.specs.Through.{chained, is_heavy, Chains}
use Rattle.smk_compose.proofs.Wants.{map_agree, lists_same}

-- the places that a set reaches through an identity are the set
own_members : (n : ℕ) (A : List ℕ) → IsPlaces n A → members_at (own_lists n) A ≡ A
own_members n A set =
    same_below (λ r. list_any (λ i. has (list_at (own_lists n) i) r) A) (has A) n (λ r low.
    any_below (λ i. has (list_at (own_lists n) i) r) (nat_eq r) n A (is_below n A set) (λ i l.
    ap (λ (x : List ℕ). has x r) (get_or_map_upto (λ (k : ℕ). k ∷ []) n i [] l) ∙ or_false (nat_eq r i)))
    ∙ set

pub composed_own : (a b : Lists) → IsMap a → b ≡ own_lists (length b.lists) → a.bound ≡ length b.lists → composed a b ≡ a
composed_own a b is own bound =
    let n = length b.lists in
    let sets : All (IsPlaces n) a.lists = subst (λ k. All (IsPlaces k) a.lists) bound is.sets in
    ap (composed a) own
    ∙ lists_same (map_agree (members_at (own_lists n)) (λ (A : List ℕ). A) a.lists (λ i d low. own_members n (get_or a.lists i d) (sets i d low)) ∙ map_own a.lists) (sym bound)
  where
    map_own : (xs : List (List ℕ)) → map (λ (A : List ℕ). A) xs ≡ xs
    map_own [] = refl
    map_own (x ∷ xs) = ap (λ t. x ∷ t) (map_own xs)

pub own_composed : (a b : Lists) → IsMap b → a ≡ own_lists (length a.lists) → a.bound ≡ length b.lists → composed a b ≡ b
own_composed a b is own bound =
    let m = length a.lists in
    let long : m ≡ length b.lists = sym (ap (λ (x : Lists). x.bound) own) ∙ bound in
    ap (λ (x : Lists). composed x b) (own ∙ ap own_lists long)
    ∙ lists_same
    (map_map (members_at b) (λ (i : ℕ). i ∷ []) (upto (length b.lists))
    ∙ map_upto_agree (λ i. members_at b (i ∷ [])) (λ i. list_at b i) (length b.lists) (λ i low.
    same_below (λ r. list_any (λ k. has (list_at b k) r) (i ∷ [])) (has (list_at b i)) b.bound (λ r l. or_false (has (list_at b i) r))
    ∙ All-get_or (IsPlaces b.bound) b.lists i [] low is.sets)
    ∙ map_upto b.lists []) refl

own_long : (n : ℕ) → length (own_lists n).lists ≡ n
own_long n = length-map (upto n) (λ (i : ℕ). i ∷ []) ∙ length_upto n

-- what is composed with a scan's own lists, where they are wanted, from either side

pub own_back : (w : Bool) (S : Option Lists) (n : ℕ) → IfSome S IsMap → Chains S (wanted w (own_lists n)) → chained S (wanted w (own_lists n)) ≡ cond w S None
own_back false None n is c = refl
own_back false (Some a) n is c = refl
own_back true None n is c = refl
own_back true (Some a) n is c = ap Some (composed_own a (own_lists n) is (sym (ap own_lists (own_long n))) c)

pub own_fwd : (w : Bool) (S : Option Lists) (n : ℕ) → IfSome S IsMap → Chains (wanted w (own_lists n)) S → chained (wanted w (own_lists n)) S ≡ cond w S None
own_fwd false None n is c = refl
own_fwd false (Some b) n is c = refl
own_fwd true None n is c = refl
own_fwd true (Some b) n is c = ap Some (own_composed (own_lists n) b is (sym (ap own_lists (own_long n))) c)

pub own_light : (w : Bool) (S : Option Lists) → IfSome S IsMap → is_heavy (cond w S None) ≡ false
own_light false S is = refl
own_light true None is = refl
own_light true (Some a) is = elim (cases_Bool (nat_lt pair_limit (pairs_of a.lists))) [
  | inl h ↦ absurd (grind (arith, h, is.few))
  | inr h ↦ h
]
