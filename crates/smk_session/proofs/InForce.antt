-- What brushes change of the contents that are kept, and what they leave.
use Rattle.std.proofs.{Common.{◌≡◌, ℕ, ◌<◌, Bool, true, false, cond, List, [], ◌∷◌, ◌++◌, length, map, set, get_or, refl, ap, sym, ◌∙◌, subst, arith, nat_eq, Option, Some, None, All, inl, inr}, lemmas.Bool.{cases_Bool, eqb-true, eq-eqb, false≢true, and_parts}, lemmas.List.{length-map, length-set, get_or-set_same, get_or-set_other}, lemmas.List.Elements.{All-nil, All-cons, All-head, All-tail}}
use Rattle.std.specs.List.{filter, list_all, list_any}
use Rattle.smk_base.specs.{CatalogImage.CatalogImage, Places.{has, places, upto}, Rels.Relation, declared.brush.BrushOn.BrushOn, declared.list.table_rids.Pick.Pick}
use Rattle.smk_model.specs.{Values.Row, Plain.{eval, rows_over}, Selection.over, Replies.content_of, Session.{State, concerns, content, is_brush, linked, picks_for, rows_of_table, view_at, with_brush, without_brush}}
use Rattle.smk_base.proofs.Places.{get_or_map_upto, length_upto, map_upto, map_upto_agree}
use Rattle.smk_model.proofs.Replies.{first_contents}
use Rattle.smk_session.specs.{Answers.placed, Sessions.{content_kept, follows}, declared.turn.Content.Content}

-- a brush more or less, and a test that no brush of its view and table passes

any_kept : {X : Type 0} (p : X → Bool) (xs : List X) → list_any p xs ≡ list_any (λ x. true) (filter p xs)
any_kept p [] = refl
any_kept p (x ∷ xs) = elim (cases_Bool (p x)) [
  | inl h ↦ rw h refl
  | inr h ↦ rw h (any_kept p xs)
]

pub without_kept : (p : BrushOn → Bool) (v t : ℕ) (brushes : List BrushOn) → ((b : BrushOn) → is_brush v t b ≡ true → p b ≡ false) → filter p (without_brush v t brushes) ≡ filter p brushes
without_kept p v t [] h = refl
without_kept p v t (b ∷ bs) h = elim (cases_Bool (is_brush v t b)) [
  | inl e ↦ rw (e, h b e) (without_kept p v t bs h)
  | inr e ↦ rw e (ap (λ l. cond (p b) (b ∷ l) l) (without_kept p v t bs h))
]

replaced : (p : BrushOn → Bool) (brush : BrushOn) (brushes : List BrushOn) → p brush ≡ false → ((b : BrushOn) → is_brush brush.view brush.table b ≡ true → p b ≡ false)
    → filter p (map (λ old. cond (is_brush brush.view brush.table old) brush old) brushes) ≡ filter p brushes
replaced p brush [] unnamed h = refl
replaced p brush (b ∷ bs) unnamed h = elim (cases_Bool (is_brush brush.view brush.table b)) [
  | inl e ↦ rw (e, unnamed, h b e) (replaced p brush bs unnamed h)
  | inr e ↦ rw e (ap (λ l. cond (p b) (b ∷ l) l) (replaced p brush bs unnamed h))
]

-- where there is none, it takes no place
pub none_replaced : (brush : BrushOn) (brushes : List BrushOn) → list_any (is_brush brush.view brush.table) brushes ≡ false → map (λ old. cond (is_brush brush.view brush.table old) brush old) brushes ≡ brushes
none_replaced brush [] h = refl
none_replaced brush (b ∷ bs) h = elim (cases_Bool (is_brush brush.view brush.table b)) [
  | inl e ↦ (let there = rw e at h in absurd (false≢true (sym there)))
  | inr e ↦ (let rest = rw e at h in rw e (ap (λ l. b ∷ l) (none_replaced brush bs rest)))
]

itself : (brush : BrushOn) → is_brush brush.view brush.table brush ≡ true
itself brush = rw (eq-eqb brush.view brush.view refl, eq-eqb brush.table brush.table refl) refl

pub put_last : {X : Type 0} (p : X → Bool) (xs : List X) (x : X) → p x ≡ false → filter p (xs ++ x ∷ []) ≡ filter p xs
put_last p [] x h = rw h refl
put_last p (y ∷ ys) x h = ap (λ l. cond (p y) (y ∷ l) l) (put_last p ys x h)

pub with_kept : (p : BrushOn → Bool) (brush : BrushOn) (brushes : List BrushOn) → ((b : BrushOn) → is_brush brush.view brush.table b ≡ true → p b ≡ false) → filter p (with_brush brush brushes) ≡ filter p brushes
with_kept p brush brushes h = elim (cases_Bool (list_any (is_brush brush.view brush.table) brushes)) [
  | inl e ↦ rw e (replaced p brush brushes (h brush (itself brush)) h)
  | inr e ↦ rw e (put_last p brushes brush (h brush (itself brush)))
]

-- a brush of a view and a table concerns no view that their links don't name

pub unfollowed : (catalog : CatalogImage) (v t w : ℕ) (b : BrushOn) → has (linked catalog v t) w ≡ false → is_brush v t b ≡ true → follows catalog w b ≡ false
unfollowed catalog v t w b unnamed is =
    let p = and_parts (nat_eq b.view v) (nat_eq b.table t) is in
    ap (λ i. has (linked catalog i b.table) w) (eqb-true b.view v p.0) ∙ ap (λ i. has (linked catalog v i) w) (eqb-true b.table t p.1) ∙ unnamed

pub unconcerned : (catalog : CatalogImage) (v t w u : ℕ) (b : BrushOn) → has (linked catalog v t) w ≡ false → is_brush v t b ≡ true → concerns catalog w u b ≡ false
unconcerned catalog v t w u b unnamed is = elim (cases_Bool (nat_eq b.table u)) [
  | inl e ↦ rw e (subst (λ k. has (linked catalog b.view k) w ≡ false) (eqb-true b.table u e) (unfollowed catalog v t w b unnamed is))
  | inr e ↦ rw e refl
]

-- the same brushes concern a view: its content is the same

abbrev under_brushes : List (List Row) → List BrushOn → State
under_brushes tables brushes = record { tables = tables; brushes = brushes }

abbrev pick_of : ℕ → List ℕ → Pick
pick_of t rids = record { table = t; rids = rids }

same_picks : (catalog : CatalogImage) (tables : List (List Row)) (bs cs : List BrushOn) (w : ℕ) → ((u : ℕ) → filter (concerns catalog w u) bs ≡ filter (concerns catalog w u) cs)
    → picks_for catalog (under_brushes tables bs) w ≡ picks_for catalog (under_brushes tables cs) w
same_picks catalog tables bs cs w same = map_upto_agree _ _ (length tables) (λ t low. ap (λ (l : List BrushOn). pick_of t (places (λ rid. list_all (λ (brush : BrushOn). has brush.rids rid) l) (length (rows_of_table (under_brushes tables []) t)))) (same t))

same_content : (catalog : CatalogImage) (tables : List (List Row)) (bs cs : List BrushOn) (w : ℕ) → ((u : ℕ) → filter (concerns catalog w u) bs ≡ filter (concerns catalog w u) cs)
    → content catalog (under_brushes tables bs) w ≡ content catalog (under_brushes tables cs) w
same_content catalog tables bs cs w same = ap (λ (picks : List Pick). eval (view_at catalog w).plan (over (view_at catalog w).plan tables picks)) (same_picks catalog tables bs cs w same)

abbrev rel_of : CatalogImage → ℕ → List Row → Relation
rel_of catalog w rows = record { kinds = (view_at catalog w).kinds; rows = rows }

same_kept : (catalog : CatalogImage) (tables : List (List Row)) (bs cs : List BrushOn) (w : ℕ) → ((u : ℕ) → filter (concerns catalog w u) bs ≡ filter (concerns catalog w u) cs) → filter (follows catalog w) bs ≡ filter (follows catalog w) cs
    → content_kept catalog (under_brushes tables bs) w ≡ content_kept catalog (under_brushes tables cs) w
same_kept catalog tables bs cs w same following =
    let some : list_any (follows catalog w) bs ≡ list_any (follows catalog w) cs = any_kept (follows catalog w) bs ∙ ap (list_any (λ x. true)) following ∙ sym (any_kept (follows catalog w) cs) in
    ap (λ (rows : List Row). cond (list_any (follows catalog w) bs) (Some (rel_of catalog w rows)) None) (same_content catalog tables bs cs w same)
    ∙ ap (λ (b : Bool). cond b (Some (content_of catalog (under_brushes tables cs) w)) None) some

pub brush_leaves : (catalog : CatalogImage) (tables : List (List Row)) (brush : BrushOn) (brushes : List BrushOn) (w : ℕ) → has (linked catalog brush.view brush.table) w ≡ false
    → content_kept catalog (under_brushes tables (with_brush brush brushes)) w ≡ content_kept catalog (under_brushes tables brushes) w
brush_leaves catalog tables brush brushes w unnamed = same_kept catalog tables (with_brush brush brushes) brushes w
    (λ u. with_kept (concerns catalog w u) brush brushes (λ b is. unconcerned catalog brush.view brush.table w u b unnamed is))
    (with_kept (follows catalog w) brush brushes (λ b is. unfollowed catalog brush.view brush.table w b unnamed is))

pub clear_leaves : (catalog : CatalogImage) (tables : List (List Row)) (v t : ℕ) (brushes : List BrushOn) (w : ℕ) → has (linked catalog v t) w ≡ false
    → content_kept catalog (under_brushes tables (without_brush v t brushes)) w ≡ content_kept catalog (under_brushes tables brushes) w
clear_leaves catalog tables v t brushes w unnamed = same_kept catalog tables (without_brush v t brushes) brushes w
    (λ u. without_kept (concerns catalog w u) v t brushes (λ b is. unconcerned catalog v t w u b unnamed is))
    (without_kept (follows catalog w) v t brushes (λ b is. unfollowed catalog v t w b unnamed is))

-- where no brush concerns a view, its content is its first content

unconcerned_by_all : (catalog : CatalogImage) (w u : ℕ) (brushes : List BrushOn) → list_any (follows catalog w) brushes ≡ false → filter (concerns catalog w u) brushes ≡ []
unconcerned_by_all catalog w u [] unnamed = refl
unconcerned_by_all catalog w u (b ∷ bs) unnamed = elim (cases_Bool (follows catalog w b)) [
  | inl h ↦ (let there = rw h at unnamed in absurd (false≢true (sym there)))
  | inr h ↦ (let rest = rw h at unnamed in ap (λ (c : Bool). cond c (b ∷ filter (concerns catalog w u) bs) (filter (concerns catalog w u) bs)) (alone h) ∙ unconcerned_by_all catalog w u bs rest)
]
  where
    alone : follows catalog w b ≡ false → concerns catalog w u b ≡ false
    alone h = elim (cases_Bool (nat_eq b.table u)) [
      | inl e ↦ rw e (subst (λ k. has (linked catalog b.view k) w ≡ false) (eqb-true b.table u e) h)
      | inr e ↦ rw e refl
    ]

pub untouched : (catalog : CatalogImage) (tables : List (List Row)) (brushes : List BrushOn) (w : ℕ) → list_any (follows catalog w) brushes ≡ false
    → content catalog (under_brushes tables brushes) w ≡ rows_over (view_at catalog w).plan tables
untouched catalog tables brushes w unnamed = same_content catalog tables brushes [] w (λ u. unconcerned_by_all catalog w u brushes unnamed) ∙ first_contents (record { catalog = catalog; tables = tables }) w

-- contents that are put in their places

set_upto : {X : Type 0} (f : ℕ → X) (n w : ℕ) (x : X) → set (map f (upto n)) w x ≡ map (λ k. cond (nat_eq k w) x (f k)) (upto n)
set_upto f n w x =
    let long : length (set (map f (upto n)) w x) ≡ n = length-set (map f (upto n)) w x ∙ length-map (upto n) f ∙ length_upto n in
    sym (map_upto (set (map f (upto n)) w x) x)
    ∙ ap (λ m. map (λ k. get_or (set (map f (upto n)) w x) k x) (upto m)) long
    ∙ map_upto_agree _ _ n (λ k low. here k low)
  where
    here : (k : ℕ) → k < n → get_or (set (map f (upto n)) w x) k x ≡ cond (nat_eq k w) x (f k)
    here k low = elim (cases_Bool (nat_eq k w)) [
      | inl e ↦ rw e (ap (λ i. get_or (set (map f (upto n)) w x) i x) (eqb-true k w e) ∙ get_or-set_same (map f (upto n)) w x x (omega (arith, low, eqb-true k w e, length-map (upto n) f, length_upto n)))
      | inr e ↦ rw e (get_or-set_other (map f (upto n)) w k x x (λ same. false≢true (sym e ∙ eq-eqb k w same)) ∙ get_or_map_upto f n k x low)
    ]

abbrev fresh : (ℕ → Option Relation) → ℕ → Content
fresh g w = record { view = w; rel = g w }

placed_all : (f g : ℕ → Option Relation) (n : ℕ) (ws : List ℕ) → placed (map (fresh g) ws) (map f (upto n)) ≡ map (λ k. cond (has ws k) (g k) (f k)) (upto n)
placed_all f g n [] = refl
placed_all f g n (w ∷ ws) =
    ap (λ (l : List (Option Relation)). set l w (g w)) (placed_all f g n ws)
    ∙ set_upto (λ k. cond (has ws k) (g k) (f k)) n w (g w)
    ∙ map_upto_agree _ _ n (λ k low. later k)
  where
    later : (k : ℕ) → cond (nat_eq k w) (g w) (cond (has ws k) (g k) (f k)) ≡ cond (has (w ∷ ws) k) (g k) (f k)
    later k = elim (cases_Bool (nat_eq k w)) [
      | inl e ↦ rw e (ap g (sym (eqb-true k w e)))
      | inr e ↦ rw e refl
    ]

pub placed_are : (f g : ℕ → Option Relation) (n : ℕ) (ws : List ℕ) → ((w : ℕ) → w < n → has ws w ≡ false → g w ≡ f w) → placed (map (fresh g) ws) (map f (upto n)) ≡ map g (upto n)
placed_are f g n ws same = placed_all f g n ws ∙ map_upto_agree _ _ n (λ k low. elim (cases_Bool (has ws k)) [
  | inl h ↦ rw h refl
  | inr h ↦ rw h (sym (same k low h))
])

-- the last content of a list is put first
pub placed_last : (fresh : List Content) (content : Content) (contents : List (Option Relation)) → placed (fresh ++ content ∷ []) contents ≡ placed fresh (set contents content.view content.rel)
placed_last [] content contents = refl
placed_last (c ∷ more) content contents = ap (λ (l : List (Option Relation)). set l c.view c.rel) (placed_last more content contents)

known_but_last : (n : ℕ) (fresh : List Content) (content : Content) → All (λ (c : Content). c.view < n) (fresh ++ content ∷ []) → All (λ (c : Content). c.view < n) fresh
known_but_last n [] content h = All-nil (λ (c : Content). c.view < n)
known_but_last n (f ∷ fs) content h = All-cons (λ (c : Content). c.view < n) f fs (All-head (λ (c : Content). c.view < n) f (fs ++ content ∷ []) h) (known_but_last n fs content (All-tail (λ (c : Content). c.view < n) f (fs ++ content ∷ []) h))

pub still_known : (n m : ℕ) (all fresh : List Content) (content : Content) → all ≡ fresh ++ content ∷ [] → n ≡ m → All (λ (c : Content). c.view < n) all → All (λ (c : Content). c.view < m) fresh
still_known n m all fresh content are same h =
    subst (λ (k : ℕ). All (λ (c : Content). c.view < k) fresh) same (known_but_last n fresh content (subst (λ (l : List Content). All (λ (c : Content). c.view < n) l) are h))
