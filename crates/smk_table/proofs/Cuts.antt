-- A text that is cut where a record may begin is read in its parts.
use Rattle.std.proofs.{Common.{◌≡◌, ◌∙◌, ◌<◌, ◌≤◌, ◌-◌, ℕ, zero, suc, Bool, true, false, List, [], ◌∷◌, ◌++◌, length, Option, Some, None, refl, sym, ap, subst, arith, true≢false, add-one, inl, inr, ap₂}, lemmas.Bool.cases_Bool}
use Rattle.std.specs.Prelude.{◌⊎◌}
use Rattle.csv.specs.{Machine.{Read, next_record, step, is_end, ends_at_end, ends_with, fields_after, field_after}, Reading.{default_config, records, records_from}, declared.parser.State.State}
use Rattle.csv.specs.declared.parser.Terminator.TheVariants as term
use Rattle.csv.specs.declared.parser.State.TheVariants as st
use Rattle.csv.specs.declared.parser.Action.TheVariants as act
use Rattle.smk_table.specs.{Cuts.{state_after, IsWhole}, CsvReader.{is_start, records_after}}
use Rattle.smk_table.proofs.RecordsAfter.{goes, some_is, not_empty, records_after-none, records_after-some}

none_some : {X : Type 0} {Y : Type 0} (p : X) → ◌≡◌ {A = Option X} None (Some p) → Y
none_some p e = absurd (cc)

-- whether a record is begun in a state
abbrev is_inside : State → Bool
is_inside st.InComment = false
is_inside st.StartRecord = false
is_inside st.AfterCr = false
is_inside _ = true

inside_not_start : (s : State) → is_inside s ≡ true → is_start s ≡ true → ⊥
inside_not_start st.StartRecord i h = true≢false (sym i)
inside_not_start st.AfterCr i h = true≢false (sym i)
inside_not_start _ i h = true≢false (sym h)

-- a begun record stays begun until it ends
stays_inside : (s : State) (c : ℕ) → is_inside s ≡ true → is_end (step default_config s c).1 ≡ false → is_inside (step default_config s c).0 ≡ true
stays_inside st.InComment c i h = absurd (true≢false (sym i))
stays_inside st.StartRecord c i h = absurd (true≢false (sym i))
stays_inside st.AfterCr c i h = absurd (true≢false (sym i))
stays_inside _ c i h = grind arith

not_ended_at_end : (s : State) → is_start s ≡ true → ends_at_end s ≡ false
not_ended_at_end st.StartRecord h = refl
not_ended_at_end st.AfterCr h = refl
not_ended_at_end _ h = absurd (true≢false (sym h))

-- a begun record has its end in a text behind which another may begin
inside_ends : (s : State) (f : List (List ℕ)) (x a : List ℕ) → is_inside s ≡ true → is_start (state_after s a) ≡ true → next_record default_config s f x a ≡ None → ⊥
unfolding next_record state_after
inside_ends s f x [] i w h = inside_not_start s i w
inside_ends s f x (c ∷ a) i w h = by (is_end (step default_config s c).1) refl (λ j. inside_ends (step default_config s c).0 _ _ a j w)
  where
    by : (b : Bool) → is_end (step default_config s c).1 ≡ b
        → (is_inside (step default_config s c).0 ≡ true → next_record default_config (step default_config s c).0 (fields_after (step default_config s c).1 f x) (field_after (step default_config s c).1 c x) a ≡ None → ⊥)
        → ⊥
    by true e more = none_some _ (sym (rw e at h))
    by false e more = more (stays_inside s c i e) (rw e at h)

-- a record that a text has is the same where another text comes behind it
record Goes_on (s : State) (f : List (List ℕ)) (x a b : List ℕ) (p : Read) : Type 0 where
  same : next_record default_config s f x (a ++ b) ≡ Some (p.0, p.1, p.2 ++ b)
  rest : state_after p.1 p.2 ≡ state_after s a

goes_on : (s : State) (f : List (List ℕ)) (x a b : List ℕ) (p : Read) → is_start (state_after s a) ≡ true → next_record default_config s f x a ≡ Some p → Goes_on s f x a b p
unfolding next_record state_after
goes_on s f x [] b p w h = none_some p (rw (not_ended_at_end s w) at h)
goes_on s f x (c ∷ a) b p w h = by (is_end (step default_config s c).1) refl (goes_on (step default_config s c).0 _ _ a b p w)
  where
    by : (e : Bool) → is_end (step default_config s c).1 ≡ e
        → (next_record default_config (step default_config s c).0 (fields_after (step default_config s c).1 f x) (field_after (step default_config s c).1 c x) a ≡ Some p
        → Goes_on (step default_config s c).0 (fields_after (step default_config s c).1 f x) (field_after (step default_config s c).1 c x) a b p)
        → Goes_on s f x (c ∷ a) b p
    by true e more =
        subst (λ (q : Read). Goes_on s f x (c ∷ a) b q) (some_is _ p (rw e at h)) (record { same = rw e refl; rest = refl })
    by false e more = let g = more (rw e at h) in record { same = rw e g.same; rest = g.rest }

-- a byte between two records begins one, or leaves things as they are
record Waits (s : State) (c : ℕ) : Type 0 where
  starts : is_start (step default_config s c).0 ≡ true
  skips : (step default_config s c).1 ≡ act.Skip

record Begins (s : State) (c : ℕ) : Type 0 where
  inside : is_inside (step default_config s c).0 ≡ true
  goes : is_end (step default_config s c).1 ≡ false

begins : (s : State) (c : ℕ) → is_start s ≡ true → Waits s c ⊎ Begins s c
begins s c h = elim (cases_Bool (ends_with term.CRLF c)) [
  | inl end ↦ inl (waits s c h end)
  | inr more ↦ inr (record { inside = inside s c h more; goes = goes s c h more })
]
  where
    waits : (s : State) (c : ℕ) → is_start s ≡ true → ends_with term.CRLF c ≡ true → Waits s c
    waits st.StartRecord c h e = record { starts = rw e refl; skips = rw e refl }
    waits st.AfterCr c h e = record { starts = grind arith; skips = grind arith }
    waits _ c h e = absurd (true≢false (sym h))

    inside : (s : State) (c : ℕ) → is_start s ≡ true → ends_with term.CRLF c ≡ false → is_inside (step default_config s c).0 ≡ true
    inside st.StartRecord c h e = grind arith
    inside st.AfterCr c h e = grind arith
    inside _ c h e = absurd (true≢false (sym h))

    goes : (s : State) (c : ℕ) → is_start s ≡ true → ends_with term.CRLF c ≡ false → is_end (step default_config s c).1 ≡ false
    goes st.StartRecord c h e = grind arith
    goes st.AfterCr c h e = grind arith
    goes _ c h e = absurd (true≢false (sym h))

-- a text without a record leaves things as they are
no_record : (s : State) (a b : List ℕ) → is_start s ≡ true → is_start (state_after s a) ≡ true → next_record default_config s [] [] a ≡ None
    → next_record default_config s [] [] (a ++ b) ≡ next_record default_config (state_after s a) [] [] b
unfolding next_record state_after
no_record s [] b start w h = refl
no_record s (c ∷ a) b start w h = by (begins s c start) (λ q. no_record (step default_config s c).0 a b q w)
  where
    by : Waits s c ⊎ Begins s c
        → (is_start (step default_config s c).0 ≡ true → next_record default_config (step default_config s c).0 [] [] a ≡ None
        → next_record default_config (step default_config s c).0 [] [] (a ++ b) ≡ next_record default_config (state_after (step default_config s c).0 a) [] [] b)
        → next_record default_config s [] [] (c ∷ a ++ b) ≡ next_record default_config (state_after s (c ∷ a)) [] [] b
    by (inl v) more = rw v.skips (more v.starts (rw v.skips at h))
    by (inr v) more = absurd (inside_ends (step default_config s c).0 _ _ a v.inside w (rw v.goes at h))

-- behind the end of a line it makes no difference which of its bytes came last
same_start : (s : State) (c : ℕ) → is_start s ≡ true → step default_config s c ≡ step default_config st.StartRecord c
same_start st.StartRecord c h = refl
same_start st.AfterCr c h = grind arith
same_start _ c h = absurd (true≢false (sym h))

same_next : (s : State) (a : List ℕ) → is_start s ≡ true → next_record default_config s [] [] a ≡ next_record default_config st.StartRecord [] [] a
unfolding next_record
same_next s [] h = rw (not_ended_at_end s h) refl
same_next s (c ∷ a) h = rw (same_start s c h) refl

same_after : (s : State) (a : List ℕ) → is_start s ≡ true → records_after s a ≡ records default_config a
unfolding records_after records_from
same_after s a h = rw (add-one, same_next s a h) refl

nothing : (s : State) → is_start s ≡ true → next_record default_config s [] [] [] ≡ None
unfolding next_record
nothing s h = rw (not_ended_at_end s h) refl

from_after : (a : List ℕ) → records default_config a ≡ records_after st.StartRecord a
unfolding records_after
from_after a = refl

-- what begins alike goes on alike
through : (s : State) (a : List ℕ) (t : State) (b : List ℕ) → is_start s ≡ true → is_start t ≡ true → next_record default_config s [] [] a ≡ next_record default_config t [] [] b → records_after s a ≡ records_after t b
through s a t b start begin h = by (next_record default_config t [] [] b) refl
  where
    by : (o : Option Read) → next_record default_config t [] [] b ≡ o → records_after s a ≡ records_after t b
    by None e = records_after-none s a (h ∙ e) ∙ sym (records_after-none t b e)
    by (Some p) e = records_after-some s a p start (h ∙ e) ∙ sym (records_after-some t b p begin e)

cuts_nothing : (s : State) (b : List ℕ) → is_start s ≡ true → records_after s b ≡ records_after s [] ++ records_after (state_after s []) b
unfolding state_after
cuts_nothing s b start = ap (λ r. r ++ records_after s b) (sym (records_after-none s [] (nothing s start)))

-- the records of two texts behind one another, by how long the first is
cuts : (n : ℕ) (s : State) (a b : List ℕ) → length a ≤ n → is_start s ≡ true → is_start (state_after s a) ≡ true
    → records_after s (a ++ b) ≡ records_after s a ++ records_after (state_after s a) b
cuts zero s [] b l start w = cuts_nothing s b start
cuts zero s (c ∷ a) b l start w = absurd (omega arith)
cuts (suc n) s a b l start w = by (next_record default_config s [] [] a) refl (λ t c d. cuts n t c d)
  where
    by : (o : Option Read) → next_record default_config s [] [] a ≡ o
        → ((t : State) (c d : List ℕ) → length c ≤ n → is_start t ≡ true → is_start (state_after t c) ≡ true → records_after t (c ++ d) ≡ records_after t c ++ records_after (state_after t c) d)
        → records_after s (a ++ b) ≡ records_after s a ++ records_after (state_after s a) b
    by None e more = through s (a ++ b) (state_after s a) b start w (no_record s a b start w e) ∙ ap (λ r. r ++ records_after (state_after s a) b) (sym (records_after-none s a e))
    by (Some p) e more =
        let g = goes_on s [] [] a b p w e in
        let k = goes s [] [] a p e in
        let some : 0 < length a = not_empty s a p start e in
        let less : length p.2 ≤ length a - 1 = k.shorter in
        let whole : is_start (state_after p.1 p.2) ≡ true = ap is_start g.rest ∙ w in
        records_after-some s (a ++ b) (p.0, p.1, p.2 ++ b) start g.same
        ∙ ap (λ r. p.0 ∷ r) (more p.1 p.2 b (omega arith) k.starts whole ∙ ap (λ t. records_after p.1 p.2 ++ records_after t b) g.rest)
        ∙ ap (λ r. r ++ records_after (state_after s a) b) (sym (records_after-some s a p start e))

-- a text that is cut where a record may begin has the records of the one part and then those of the other
pub cuts_records : (a b : List ℕ) → IsWhole a → records default_config (a ++ b) ≡ records default_config a ++ records default_config b
cuts_records a b w = from_after (a ++ b) ∙ cuts (length a) st.StartRecord a b (omega arith) refl w ∙ ap₂ (λ r q. r ++ q) (sym (from_after a)) (same_after (state_after st.StartRecord a) b w)
