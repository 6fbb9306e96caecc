-- What is kept of a view: the lists to a table, exactly where the query is declared.
use Rattle.std.proofs.{Common.{◌≡◌, ℕ, zero, suc, ◌<◌, ◌≤◌, Bool, true, false, ◌&&◌, ◌||◌, cond, List, [], ◌∷◌, map, refl, ap, ◌∙◌, arith, nat_eq, Option, Some, None, option_map, ok_or, Ok, Err, inl, inr, find, length}, lemmas.Bool.{cases_lt, cases_Bool, eq-eqb, ne_eqb}, lemmas.List.Elements.filter-append, lemmas.List.Folds.find-append}
use Rattle.std.specs.{List.filter, Option.{option_or, option_and_then}}
use Rattle.smk_base.specs.{CatalogImage.CatalogImage, Places.{Lists, upto, places}, Plans.Expr, Needs.is_needed, declared.reply.Refusal.TheVariants.Undeclared}
use Rattle.smk_model.specs.{Values.Row, Composed.{backs, forwards}, Workload.{declares_back, declares_fwd, needed_at, needs}}
use Rattle.smk_base.proofs.Places.{filter_map, map_map}
use Rattle.smk_body.specs.Locals.{wanted}
use Rattle.smk_compose.specs.{KeptMaps.kept_at, declared.kept_maps.KeptMap.KeptMap}
use Rattle.smk_session.specs.Kept.{is_of_table, kept_back, kept_fwd}

-- the place t among the places that pass

pub find_mapped : {X Y : Type 0} (p : Y → Bool) (f : X → Y) (xs : List X) → find p (map f xs) ≡ option_map f (find (λ x. p (f x)) xs)
find_mapped p f [] = refl
find_mapped p f (x ∷ xs) = elim (cases_Bool (p (f x))) [
  | inl t ↦ rw t refl
  | inr n ↦ rw n (find_mapped p f xs)
]

last_found : (q : ℕ → Bool) (n t : ℕ) → find (λ i. nat_eq i t) (filter q (n ∷ [])) ≡ cond (nat_eq n t && q n) (Some n) None
last_found q n t = elim (cases_Bool (q n)) [
  | inl h ↦ elim (cases_Bool (nat_eq n t)) [ inl e ↦ rw (h, e) refl | inr e ↦ rw (h, e) refl ]
  | inr h ↦ elim (cases_Bool (nat_eq n t)) [ inl e ↦ rw (h, e) refl | inr e ↦ rw (h, e) refl ]
]

one_more : (q : ℕ → Bool) (n t : ℕ) → find (λ i. nat_eq i t) (places q (suc n)) ≡ option_or (find (λ i. nat_eq i t) (places q n)) (cond (nat_eq n t && q n) (Some n) None)
one_more q n t =
    ap (find (λ i. nat_eq i t)) (filter-append q (upto n) (n ∷ []))
    ∙ find-append (λ i. nat_eq i t) (filter q (upto n)) (filter q (n ∷ []))
    ∙ ap (option_or (find (λ i. nat_eq i t) (filter q (upto n)))) (last_found q n t)

pub past : (q : ℕ → Bool) (n t : ℕ) → n ≤ t → find (λ i. nat_eq i t) (places q n) ≡ None
past q zero t h = refl
past q (suc n) t h = one_more q n t ∙ rw (past q n t (omega arith), ne_eqb n t (λ e. absurd (omega arith))) refl

or_none : {X : Type 0} (o : Option X) → option_or o None ≡ o
or_none (Some x) = refl
or_none None = refl

pub found : (q : ℕ → Bool) (n t : ℕ) → t < n → find (λ i. nat_eq i t) (places q n) ≡ cond (q t) (Some t) None
found q zero t h = absurd (omega arith)
found q (suc n) t h = one_more q n t ∙ elim (cases_lt t n) [
  | inl l ↦ rw (found q n t l, ne_eqb n t (λ e. absurd (omega arith))) (or_none (cond (q t) (Some t) None))
  | inr g ↦ (let e : n ≡ t = omega arith in rw (past q n t g, e, eq-eqb t t refl) refl)
]

-- what is kept of a table

mapped_cond : {X Y : Type 0} (f : X → Y) (b : Bool) (x : X) → option_map f (cond b (Some x) None) ≡ cond b (Some (f x)) None
mapped_cond f true x = refl
mapped_cond f false x = refl

kept_of : (catalog : CatalogImage) (plan : Expr) (tables : List (List Row)) (v t : ℕ) → t < length catalog.tables
    → find (is_of_table t) (map (kept_at plan tables) (needs catalog v)) ≡ cond (is_needed (needed_at catalog v t)) (Some (kept_at plan tables (needed_at catalog v t))) None
kept_of catalog plan tables v t low =
    let n : ℕ = length catalog.tables in
    let q : ℕ → Bool = λ i. is_needed (needed_at catalog v i) in
    let h : ℕ → KeptMap = λ i. kept_at plan tables (needed_at catalog v i) in
    ap (λ l. find (is_of_table t) (map (kept_at plan tables) l)) (filter_map is_needed (needed_at catalog v) (upto n))
    ∙ ap (find (is_of_table t)) (map_map (kept_at plan tables) (needed_at catalog v) (places q n))
    ∙ find_mapped (is_of_table t) h (places q n)
    ∙ ap (option_map h) (found q n t low)
    ∙ mapped_cond h (q t) t

back_where : (b f : Bool) (t : ℕ) (m n : Lists)
    → ok_or (option_and_then (λ (k : KeptMap). k.back) (cond (b || f) (Some (record { table = t; back = wanted b m; fwd = wanted f n })) None)) Undeclared ≡ cond b (Ok m) (Err Undeclared)
back_where true f t m n = refl
back_where false true t m n = refl
back_where false false t m n = refl

fwd_where : (b f : Bool) (t : ℕ) (m n : Lists)
    → ok_or (option_and_then (λ (k : KeptMap). k.fwd) (cond (b || f) (Some (record { table = t; back = wanted b m; fwd = wanted f n })) None)) Undeclared ≡ cond f (Ok n) (Err Undeclared)
fwd_where true true t m n = refl
fwd_where true false t m n = refl
fwd_where false true t m n = refl
fwd_where false false t m n = refl

pub kept_back_is : (catalog : CatalogImage) (plan : Expr) (tables : List (List Row)) (v t : ℕ) → t < length catalog.tables
    → kept_back (map (kept_at plan tables) (needs catalog v)) t ≡ cond (declares_back catalog v t) (Ok (backs plan tables t)) (Err Undeclared)
kept_back_is catalog plan tables v t low =
    ap (λ k. ok_or (option_and_then (λ (k : KeptMap). k.back) k) Undeclared) (kept_of catalog plan tables v t low)
    ∙ back_where (declares_back catalog v t) (declares_fwd catalog v t) t (backs plan tables t) (forwards plan tables t)

pub kept_fwd_is : (catalog : CatalogImage) (plan : Expr) (tables : List (List Row)) (v t : ℕ) → t < length catalog.tables
    → kept_fwd (map (kept_at plan tables) (needs catalog v)) t ≡ cond (declares_fwd catalog v t) (Ok (forwards plan tables t)) (Err Undeclared)
kept_fwd_is catalog plan tables v t low =
    ap (λ k. ok_or (option_and_then (λ (k : KeptMap). k.fwd) k) Undeclared) (kept_of catalog plan tables v t low)
    ∙ fwd_where (declares_back catalog v t) (declares_fwd catalog v t) t (backs plan tables t) (forwards plan tables t)
