-- The views that links name, and what is asked of them one after the other.
use Rattle.std.proofs.{Common.{◌≡◌, ℕ, ◌+◌, ◌<◌, ◌≤◌, Bool, true, false, ◌&&◌, ◌||◌, List, [], ◌∷◌, length, take, get_or, refl, ap, sym, ◌∙◌, arith, nat_eq, All, inl, inr}, lemmas.Bool.{cases_Bool, eq-eqb, and_parts}, lemmas.List.Elements.{All-append, All-head, All-tail}, lemmas.List.Folds.{list_any-append, list_any_at}, lemmas.List.Sums.{sum_by_more, sum_by-take-le}}
use Rattle.std.specs.List.{filter, flat_map, list_any, sum_by}
use Rattle.smk_base.specs.{CatalogImage.CatalogImage, Places.has, declared.book.catalog.LinkInfo.LinkInfo}
use Rattle.smk_model.specs.{Catalogs.LinkFits, Session.linked, Workload.{declares_fwd, is_fwd, is_link, is_linked}}

-- a view is among those that links name where a link names it

pub has_linked : (p : LinkInfo → Bool) (links : List LinkInfo) (w : ℕ) → has (flat_map (λ (link : LinkInfo). link.to) (filter p links)) w ≡ list_any (λ (link : LinkInfo). p link && has link.to w) links
has_linked p [] w = refl
has_linked p (link ∷ links) w = elim (cases_Bool (p link)) [
  | inl h ↦ rw h (list_any-append (nat_eq w) link.to _ ∙ ap (λ b. has link.to w || b) (has_linked p links w))
  | inr h ↦ rw h (has_linked p links w)
]

pub or_right : (a : Bool) → (a || true) ≡ true
or_right true = refl
or_right false = refl

linked_of : (v t w : ℕ) (links : List LinkInfo) → list_any (λ (link : LinkInfo). is_link v t link && has link.to w) links ≡ true → list_any (is_linked w t) links ≡ true
linked_of v t w [] h = h
linked_of v t w (link ∷ links) h = elim (cases_Bool (is_link v t link && has link.to w)) [
  | inl e ↦ (let p = and_parts (is_link v t link) (has link.to w) e in let q = and_parts (nat_eq link.view v) (nat_eq link.table t) p.0 in rw (p.1, q.1) refl)
  | inr e ↦ (let rest = rw e at h in rw (linked_of v t w links rest) (or_right (is_linked w t link)))
]

-- so the forward query of the table to it is declared
pub linked_declares : (catalog : CatalogImage) (v t w : ℕ) → has (linked catalog v t) w ≡ true → declares_fwd catalog w t ≡ true
linked_declares catalog v t w h =
    rw (linked_of v t w catalog.links (sym (has_linked (is_link v t) catalog.links w) ∙ h)) (or_right (list_any (is_fwd w t) catalog.fwds))

linked_low_of : (p : LinkInfo → Bool) (tables views : ℕ) (links : List LinkInfo) → All (LinkFits tables views) links → All (λ w. w < views) (flat_map (λ (link : LinkInfo). link.to) (filter p links))
linked_low_of p tables views [] h = λ k d l. absurd (omega arith)
linked_low_of p tables views (link ∷ links) h = elim (cases_Bool (p link)) [
  | inl e ↦ rw e (All-append (λ w. w < views) link.to _ (All-head (LinkFits tables views) link links h).to (linked_low_of p tables views links (All-tail (LinkFits tables views) link links h)))
  | inr e ↦ rw e (linked_low_of p tables views links (All-tail (LinkFits tables views) link links h))
]

pub linked_low : (catalog : CatalogImage) (tables views v t : ℕ) → All (LinkFits tables views) catalog.links → All (λ w. w < views) (linked catalog v t)
linked_low catalog tables views v t h = linked_low_of (is_link v t) tables views catalog.links h

pub has_item : (xs : List ℕ) (i d : ℕ) → i < length xs → has xs (get_or xs i d) ≡ true
has_item xs i d low = list_any_at (nat_eq (get_or xs i d)) xs i d low (eq-eqb (get_or xs i d) (get_or xs i d) refl)

-- the looks so far, and of one more

pub looks_next : {X : Type 0} (f : X → ℕ) (xs : List X) (i start before after : ℕ) (d : X) → i < length xs → before ≤ start + sum_by f (take i xs) → after ≤ before + f (get_or xs i d)
    → after ≤ start + sum_by f (take (i + 1) xs)
looks_next f xs i start before after d low so_far here = omega (arith, so_far, here, sum_by_more f xs i d low)

pub looks_all : {X : Type 0} (f : X → ℕ) (xs : List X) (i start after : ℕ) → after ≤ start + sum_by f (take i xs) → after ≤ start + sum_by f xs
looks_all f xs i start after h = omega (arith, h, sum_by-take-le f xs i)

-- they are some of all
pub looks_so_far : {X : Type 0} (f : X → ℕ) (xs : List X) (i start before after : ℕ) (d : X) → i < length xs → before ≤ start + sum_by f (take i xs) → after ≤ before + f (get_or xs i d) → after ≤ start + sum_by f xs
looks_so_far f xs i start before after d low so_far here = looks_all f xs (i + 1) start after (looks_next f xs i start before after d low so_far here)
