-- The records of a text, one after the other: each takes at least a byte and leaves the reader where another may begin.
use Rattle.std.proofs.Common.{Bor, ◌≡◌, ◌∙◌, ◌<◌, ◌≤◌, ◌-◌, ◌+◌, ℕ, zero, suc, Bool, true, false, List, [], ◌∷◌, length, Option, Some, None, IsSome, is_some, refl, sym, ap, subst, arith, true≢false, inl, add-one}
use Rattle.std.specs.Bool.{OnTrue, OnFalse}
use Rattle.csv.specs.{Machine.{Read, next_record, step, is_end, ends_at_end, fields_after, field_after}, Reading.{ReadRecord, ReadsNext, NextIs, default_config, records_from, records_next, strip_bom}, declared.parser.State.State, declared.reader.Reader.Reader}
use Rattle.csv.specs.declared.parser.State.TheVariants as st
use Rattle.smk_base.specs.Marks.{begins_with_mark}
use Rattle.smk_table.specs.CsvReader.{is_start, records_after, text_left, records_left, IsBetween}

ends_start : (s : State) (c : ℕ) → is_end (step default_config s c).1 ≡ true → is_start (step default_config s c).0 ≡ true
ends_start st.StartRecord c h = grind arith
ends_start _ c h = grind arith

pub some_is : {X : Type 0} (a b : X) → Some a ≡ Some b → a ≡ b
some_is a b e = cc

-- a record leaves a state in which another may begin, and takes a byte
pub record Goes (p : Read) (size : ℕ) : Type 0 where
  pub starts : is_start p.1 ≡ true
  pub shorter : length p.2 ≤ size - 1

pub goes : (s : State) (f : List (List ℕ)) (x xs : List ℕ) (p : Read) → next_record default_config s f x xs ≡ Some p → Goes p (length xs)
unfolding next_record
goes s f x [] p h = by (ends_at_end s) refl
  where
    by : (b : Bool) → ends_at_end s ≡ b → Goes p 0
    by true e = subst (λ (q : Read). Goes q 0) (some_is _ p (rw e at h)) (record { starts = refl; shorter = omega arith })
    by false e = absurd (let bad : None ≡ Some p = rw e at h in cc)
goes s f x (c ∷ rest) p h = by (is_end (step default_config s c).1) refl (λ g. goes (step default_config s c).0 _ _ rest p g)
  where
    by : (b : Bool) → is_end (step default_config s c).1 ≡ b
        → (next_record default_config (step default_config s c).0 (fields_after (step default_config s c).1 f x) (field_after (step default_config s c).1 c x) rest ≡ Some p → Goes p (length rest))
        → Goes p (suc (length rest))
    by true e more = subst (λ (q : Read). Goes q (suc (length rest))) (some_is _ p (rw e at h)) (record { starts = ends_start s c e; shorter = omega arith })
    by false e more = let g = more (rw e at h) in record { starts = g.starts; shorter = let less : length p.2 ≤ length rest - 1 = g.shorter in omega arith }

none_starts : (s : State) → is_start s ≡ true → next_record default_config s [] [] [] ≡ None
unfolding next_record
none_starts st.StartRecord h = refl
none_starts st.AfterCr h = refl
none_starts _ h = absurd (true≢false (sym h))

pub not_empty : (s : State) (xs : List ℕ) (p : Read) → is_start s ≡ true → next_record default_config s [] [] xs ≡ Some p → 0 < length xs
not_empty s [] p start h = absurd (let bad : None ≡ Some p = sym (none_starts s start) ∙ h in cc)
not_empty s (c ∷ rest) p start h = omega arith

-- enough steps are enough
records_from-enough : (n m : ℕ) (s : State) (xs : List ℕ) → is_start s ≡ true → length xs < n → length xs < m → records_from default_config n s xs ≡ records_from default_config m s xs
unfolding records_from
records_from-enough zero m s xs start p q = absurd (omega arith)
records_from-enough (suc n) zero s xs start p q = absurd (omega arith)
records_from-enough (suc n) (suc m) s xs start p q = by (next_record default_config s [] [] xs) refl (λ r. records_from-enough n m r.1 r.2)
  where
    by : (o : Option Read) → next_record default_config s [] [] xs ≡ o
        → ((r : Read) → is_start r.1 ≡ true → length r.2 < n → length r.2 < m → records_from default_config n r.1 r.2 ≡ records_from default_config m r.1 r.2)
        → records_next (records_from default_config n) (next_record default_config s [] [] xs) ≡ records_next (records_from default_config m) (next_record default_config s [] [] xs)
    by None e same = rw e refl
    by (Some r) e same =
        let g = goes s [] [] xs r e in
        let some : 0 < length xs = not_empty s xs r start e in
        let less : length r.2 ≤ length xs - 1 = g.shorter in
        rw e (ap (λ t. r.0 ∷ t) (same r g.starts (omega arith) (omega arith)))

-- no record, or one and then those after it
pub records_after-none : (s : State) (xs : List ℕ) → next_record default_config s [] [] xs ≡ None → records_after s xs ≡ []
unfolding records_after records_from
records_after-none s xs e = rw (add-one, e) refl

pub records_after-some : (s : State) (xs : List ℕ) (p : Read) → is_start s ≡ true → next_record default_config s [] [] xs ≡ Some p → records_after s xs ≡ p.0 ∷ records_after p.1 p.2
unfolding records_after records_from
records_after-some s xs p start e =
    let g = goes s [] [] xs p e in
    let some : 0 < length xs = not_empty s xs p start e in
    let less : length p.2 ≤ length xs - 1 = g.shorter in
    rw (add-one, e) (ap (λ t. p.0 ∷ t) (records_from-enough (length xs) (length p.2 + 1) p.1 p.2 g.starts (omega arith) (omega arith)))

-- a text that begins with no byte order mark stays as it is
pub strip_bom-none : (xs : List ℕ) → begins_with_mark xs ≡ false → strip_bom xs ≡ xs
unfolding strip_bom
strip_bom-none [] h = refl
strip_bom-none (a ∷ []) h = refl
strip_bom-none (a ∷ b ∷ []) h = refl
strip_bom-none (a ∷ b ∷ c ∷ rest) h = rw h refl

-- what a read does to a reader of a slice between two records
read_some : (s : State) (y : List ℕ) (k : Option (List ℕ)) (f : List (List ℕ)) (t : State) → is_start s ≡ true → ReadsNext default_config s (Some y) k true f t
    → (z : List ℕ) × (k ≡ Some z) × (is_start t ≡ true) × (records_after s y ≡ f ∷ records_after t z)
read_some s y None f t start = λ h. absurd h
read_some s y (Some z) f t start = by (next_record default_config s [] [] y) refl
  where
    by : (o : Option Read) → next_record default_config s [] [] y ≡ o → NextIs o true f t z → (w : List ℕ) × (Some z ≡ Some w) × (is_start t ≡ true) × (records_after s y ≡ f ∷ records_after t w)
    by None e h = absurd (true≢false h)
    by (Some p) e h =
        let g = goes s [] [] y p e in
        (z, refl, rw h.2 g.starts, records_after-some s y p start e ∙ rw (h.1, h.2, h.3) refl)

read_none : (s : State) (y : List ℕ) (k : Option (List ℕ)) (f : List (List ℕ)) (t : State) → ReadsNext default_config s (Some y) k false f t → records_after s y ≡ []
read_none s y None f t = λ h. absurd h
read_none s y (Some z) f t = by (next_record default_config s [] [] y) refl
  where
    by : (o : Option Read) → next_record default_config s [] [] y ≡ o → NextIs o false f t z → records_after s y ≡ []
    by None e h = records_after-none s y e
    by (Some p) e h = absurd (true≢false (sym h.0))

told_is : (o : Option (List ℕ)) → IsSome o → (y : List ℕ) × (o ≡ Some y)
told_is None h = absurd (true≢false (sym h))
told_is (Some y) h = (y, refl)

pub records_left_is : (a : Reader (Bor (List ℕ))) (y : List ℕ) → text_left a ≡ Some y → records_left a ≡ records_after a.state y
unfolding records_left
records_left_is a y e = rw e refl

pub reads-found : (a b : Reader (Bor (List ℕ))) (f : List (List ℕ)) → IsBetween a → ReadRecord (λ (s : Bor (List ℕ)). Some s.now) a b true f → b.first ≡ true
    → IsBetween b × (records_left a ≡ f ∷ records_left b)
reads-found a b f at r first =
    let y = told_is (text_left a) at.told in
    let next = read_some a.state y.0 _ f b.state at.starts (rw (at.plain, y.1) at r.0) in
    let rest : text_left b ≡ Some next.0 = rw r.1 next.1 in (
      record { untrimmed = r.3 ∙ at.untrimmed; ready = inl first; plain = r.2 ∙ at.plain; told = ap is_some rest; starts = next.2 },
      records_left_is a y.0 y.1 ∙ next.3 ∙ ap (λ l. f ∷ l) (sym (records_left_is b next.0 rest)),
    )

pub reads-ended : (a b : Reader (Bor (List ℕ))) (f : List (List ℕ)) → IsBetween a → ReadRecord (λ (s : Bor (List ℕ)). Some s.now) a b false f → records_left a ≡ []
reads-ended a b f at r =
    let y = told_is (text_left a) at.told in
    records_left_is a y.0 y.1 ∙ read_none a.state y.0 _ f b.state (rw (at.plain, y.1) at r.0)

-- the clauses of a read that gave an answer
pub found-says : (a b : Reader (Bor (List ℕ))) (f : List (List ℕ)) (found : Bool) → IsBetween a → ReadRecord (λ (s : Bor (List ℕ)). Some s.now) a b found f → b.first ≡ true
    → OnTrue found (IsBetween b × (records_left a ≡ f ∷ records_left b))
found-says a b f true at r first = reads-found a b f at r first
found-says a b f false at r first = tt

pub ended-says : (a b : Reader (Bor (List ℕ))) (f : List (List ℕ)) (found : Bool) → IsBetween a → ReadRecord (λ (s : Bor (List ℕ)). Some s.now) a b found f → OnFalse found (records_left a ≡ [])
ended-says a b f true at r = tt
ended-says a b f false at r = reads-ended a b f at r
