-- Each text has one own reading, and one that begins with a dot is no line of a script.
use Rattle.std.specs.{Prelude.{◌⊎◌, drop, ◌==◌, Option, Some, None}, List.prefix_len}
use Rattle.std.proofs.{Common.{◌≡◌, ◌+◌, ℕ, suc, true, List, [], ◌∷◌, ap, sym, ◌∙◌, subst, refl, arith, inl, inr}, lemmas.Bool.{cases_Bool, eqb-true}, lemmas.List.Folds.length-prefix_len}
use Rattle.smk_base.specs.{Trees.AskStepImage, declared.book.token.TokenKind.TokenKind, declared.fault.BookFault.BookFault, declared.fault.BookFault.TheVariants.BadToken}
use Rattle.smk_base.specs.declared.book.token.TokenKind.TheVariants as kinds
use Rattle.smk_model.specs.{Lines.place_of, Rules.ASelected, TokenReadings.{any_fault, selected_fault}, OwnLineLaws.OwnLinesAreRead, OwnLines.{RowsPart, OwnLine, Selected, Lead, WholeLine, BeforeTable, BeforeLine, lead_of, in_place, begins_with_dot, is_own, first_dot, OwnReading, Owns, Misses, before_line, IsOwnReading, without_lead, alone, not_alone, of_table, of_no_table, of_line}, Spelled.AreSelected, Readings.{Reading, Unread, IsReading, says_nothing, asks, leaves}, Tokens.{Token, is_gap, tokens, tokens_from, head_of, HasNoToken}}
use Rattle.smk_model.proofs.{Shapes.{faultless_finish, has_tree}, LimitsKept.selected_keep_limits, OneOutcome.same_reading, SomeOutcome.some_line, OneTree.one_tree}

-- a token that can't be read, and nothing else
abbrev bad_at : ℕ → List Token
bad_at n = record { at = n; kind = kinds.Bad; text = [] } ∷ []

-- where the first byte behind blanks is a dot, no token can be read at its place
dot_tokens : (text : List ℕ) (place : ℕ) → begins_with_dot (drop (prefix_len is_gap text) text) ≡ true
    → tokens_from 0 place text ≡ bad_at (place + prefix_len is_gap text)
dot_tokens [] place h = absurd (cc)
dot_tokens (b ∷ bs) place h = elim (cases_Bool (is_gap b)) [
  | inl p ↦ (
      let up : 1 + prefix_len is_gap bs ≡ suc (prefix_len is_gap bs) = omega arith in
      let rest : begins_with_dot (drop (1 + prefix_len is_gap bs) (b ∷ bs)) ≡ true = rw p at h in
      let far : place + 1 + prefix_len is_gap bs ≡ place + (1 + prefix_len is_gap bs) = omega arith in
      rw p (dot_tokens bs (place + 1) (ap (λ n. begins_with_dot (drop n (b ∷ bs))) (sym up) ∙ rest) ∙ ap bad_at far)
      )
  | inr p ↦ (
      let dot : (b == 46) ≡ true = rw p at h in
      let here : place ≡ place + 0 = omega arith in
      rw (eqb-true b 46 dot) (ap bad_at here)
      )
]

own_tokens : (text : List ℕ) → is_own text ≡ true → tokens text ≡ bad_at (first_dot text)
own_tokens text h =
    let far : first_dot text ≡ prefix_len is_gap text = length-prefix_len is_gap text in
    let there : 0 + prefix_len is_gap text ≡ first_dot text = omega (arith, far) in
    dot_tokens text 0 (ap (λ n. begins_with_dot (drop n text)) (sym far) ∙ h) ∙ ap bad_at there

apart : (text : List ℕ) (reading : Reading) → is_own text ≡ true → IsReading text reading → reading ≡ Unread (first_dot text)
apart text reading own (says_nothing h) = let end = sym h ∙ ap (λ ts. (head_of ts).kind) (own_tokens text own) in absurd (cc)
apart text reading own (asks n w f) = let fault : any_fault (tokens text) ≡ Some (BadToken (first_dot text)) = ap any_fault (own_tokens text own) in absurd (cc)
apart text reading own (leaves {fault = found} n f p) =
    let fault : any_fault (tokens text) ≡ Some (BadToken (first_dot text)) = ap any_fault (own_tokens text own) in
    let same : found ≡ BadToken (first_dot text) = cc in
    ap Unread (sym p ∙ ap place_of same)

-- what a text says, by what it begins with
abbrev Says : List ℕ → Option (Lead × List ℕ) → OwnReading → Type 0
Says text None own = own ≡ Misses (first_dot text)
Says text (Some (WholeLine line, rest)) own = (HasNoToken rest × (own ≡ Owns line)) ⊎ ((HasNoToken rest → ⊥) × (own ≡ Misses (first_dot text)))
Says text (Some (BeforeTable part, rest)) own =
    ((fault : BookFault) × (selected_fault (tokens (in_place text rest)) ≡ Some fault) × (own ≡ Misses (place_of fault)))
    ⊎ ((table : List ℕ) × (steps : List AskStepImage) × AreSelected (tokens (in_place text rest)) table steps × (selected_fault (tokens (in_place text rest)) ≡ None) × (own ≡ Owns (Selected part table steps)))
Says text (Some (BeforeLine becomes, rest)) own = (reading : Reading) × IsReading (in_place text rest) reading × (own ≡ before_line text becomes reading)

says : {text : List ℕ} {own : OwnReading} → IsOwnReading text own → Says text (lead_of text) own
says {text} (without_lead e) = subst (λ l. Says text l (Misses (first_dot text))) (sym e) refl
says {text} (alone {own = line} e h) = subst (λ l. Says text l (Owns line)) (sym e) (inl (h, refl))
says {text} (not_alone e h) = subst (λ l. Says text l (Misses (first_dot text))) (sym e) (inr (h, refl))
says {text} (of_table {part = part} {table = table} {steps = steps} e s n) = subst (λ l. Says text l (Owns (Selected part table steps))) (sym e) (inr (table, steps, s, n, refl))
says {text} (of_no_table {fault = fault} e f) = subst (λ l. Says text l (Misses (place_of fault))) (sym e) (inl (fault, f, refl))
says {text} (of_line {becomes = becomes} {reading = reading} e r) = subst (λ l. Says text l (before_line text becomes reading)) (sym e) (reading, r, refl)

same_said : (text : List ℕ) (lead : Option (Lead × List ℕ)) (a b : OwnReading) → Says text lead a → Says text lead b → a ≡ b
same_said text None a b p q = p ∙ sym q
same_said text (Some (WholeLine line, rest)) a b (inl (h, p)) (inl (k, q)) = p ∙ sym q
same_said text (Some (WholeLine line, rest)) a b (inl (h, p)) (inr (k, q)) = absurd (k h)
same_said text (Some (WholeLine line, rest)) a b (inr (h, p)) (inl (k, q)) = absurd (h k)
same_said text (Some (WholeLine line, rest)) a b (inr (h, p)) (inr (k, q)) = p ∙ sym q
same_said text (Some (BeforeTable part, rest)) a b (inl (f, h, p)) (inl (g, k, q)) = let same : f ≡ g = cc in p ∙ ap (λ fault. Misses (place_of fault)) same ∙ sym q
same_said text (Some (BeforeTable part, rest)) a b (inl (f, h, p)) (inr (u, us, s, k, q)) = absurd (cc)
same_said text (Some (BeforeTable part, rest)) a b (inr (t, ts, r, h, p)) (inl (g, k, q)) = absurd (cc)
same_said text (Some (BeforeTable part, rest)) a b (inr (t, ts, r, h, p)) (inr (u, us, s, k, q)) = p ∙ ap (λ (said : List ℕ × List AskStepImage). Owns (Selected part said.0 said.1)) (one_tree ASelected _ (t, ts) (u, us) refl r s) ∙ sym q
same_said text (Some (BeforeLine becomes, rest)) a b (x, r, p) (y, s, q) = p ∙ ap (before_line text becomes) (same_reading r s) ∙ sym q

one_own : (text : List ℕ) (a b : OwnReading) → IsOwnReading text a → IsOwnReading text b → a ≡ b
one_own text a b p q = same_said text (lead_of text) a b (says p) (says q)

-- a faultless list of tokens names a table, and steps over its rows
some_selected : (text : List ℕ) → selected_fault (tokens text) ≡ None → (table : List ℕ) × (steps : List AskStepImage) × AreSelected (tokens text) table steps
some_selected text e = let r = has_tree ASelected refl refl (tokens text) (faultless_finish ASelected refl refl text e) e in (r.0.0, r.0.1, r.1)

some_own : (text : List ℕ) → (own : OwnReading) × IsOwnReading text own
some_own text = by (lead_of text) refl
  where
    ended : (line : OwnLine) (rest : List ℕ) → lead_of text ≡ Some (WholeLine line, rest) → (k : TokenKind) → (head_of (tokens rest)).kind ≡ k → (own : OwnReading) × IsOwnReading text own
    ended line rest e kinds.End q = (_, alone e q)
    ended line rest e _ q = (_, not_alone e (λ h. absurd (cc)))

    named : (part : Option RowsPart) (rest : List ℕ) → lead_of text ≡ Some (BeforeTable part, rest) → (f : Option BookFault) → selected_fault (tokens (in_place text rest)) ≡ f → (own : OwnReading) × IsOwnReading text own
    named part rest e None f = let r = some_selected (in_place text rest) f in (_, of_table e r.2 f)
    named part rest e (Some fault) f = (_, of_no_table e f)

    by : (lead : Option (Lead × List ℕ)) → lead_of text ≡ lead → (own : OwnReading) × IsOwnReading text own
    by None e = (_, without_lead e)
    by (Some (WholeLine line, rest)) e = ended line rest e (head_of (tokens rest)).kind refl
    by (Some (BeforeTable part, rest)) e = named part rest e (selected_fault (tokens (in_place text rest))) refl
    by (Some (BeforeLine becomes, rest)) e = let r = some_line (in_place text rest) in (_, of_line e r.1)

pub own_lines_are_read : OwnLinesAreRead
own_lines_are_read = record { some = some_own; one = one_own; apart = apart; limits = selected_keep_limits }
