-- A text without a quote that ends a line is whole.
use Rattle.std.proofs.{Common.{◌≡◌, ◌∙◌, ◌-◌, ℕ, suc, Bool, true, false, List, [], ◌∷◌, ◌++◌, length, take, drop, get_or, refl, sym, ap, arith, true≢false, take-append-drop}, lemmas.Bool.and_parts}
use Rattle.std.specs.List.{list_all}
use Rattle.csv.specs.{Machine.step, Reading.{default_config, records}, declared.parser.State.State}
use Rattle.csv.specs.declared.parser.State.TheVariants as st
use Rattle.smk_table.specs.{Cuts.{state_after, is_unquoted, IsWhole, AreLines}, CsvReader.is_start}
use Rattle.smk_table.proofs.Cuts.{cuts_records}

-- a state of a text without quotes
abbrev is_flat : State → Bool
is_flat st.StartRecord = true
is_flat st.AfterCr = true
is_flat st.StartField = true
is_flat st.InField = true
is_flat _ = false

stays_flat : (s : State) (c : ℕ) → is_flat s ≡ true → is_unquoted c ≡ true → is_flat (step default_config s c).0 ≡ true
stays_flat st.StartRecord c f q = grind arith
stays_flat st.AfterCr c f q = grind arith
stays_flat st.StartField c f q = grind arith
stays_flat st.InField c f q = grind arith
stays_flat _ c f q = absurd (true≢false (sym f))

line_ends : (s : State) → is_flat s ≡ true → is_start (step default_config s 10).0 ≡ true
line_ends st.StartRecord f = refl
line_ends st.AfterCr f = refl
line_ends st.StartField f = refl
line_ends st.InField f = refl
line_ends _ f = absurd (true≢false (sym f))

ends_line : (s : State) (c : ℕ) (a : List ℕ) → is_flat s ≡ true → list_all is_unquoted (c ∷ a) ≡ true → get_or (c ∷ a) (length a) 10 ≡ 10 → is_start (state_after s (c ∷ a)) ≡ true
unfolding state_after
ends_line s c [] f q e = rw e (line_ends s f)
ends_line s c (d ∷ a) f q e =
    let both = and_parts (is_unquoted c) (list_all is_unquoted (d ∷ a)) q in
    ends_line (step default_config s c).0 d a (stays_flat s c f both.0) both.1 e

nothing_whole : IsWhole []
unfolding state_after
nothing_whole = refl

lines_are_whole : (a : List ℕ) → AreLines a → IsWhole a
lines_are_whole [] h = nothing_whole
lines_are_whole (c ∷ a) h = ends_line st.StartRecord c a refl h.unquoted (let e : suc (length a) - 1 ≡ length a = omega arith in rw e at h.ended)

pub cuts_lines : (text : List ℕ) (n : ℕ) → AreLines (take n text) → records default_config text ≡ records default_config (take n text) ++ records default_config (drop n text)
cuts_lines text n h = ap (records default_config) (sym (take-append-drop n text)) ∙ cuts_records (take n text) (drop n text) (lines_are_whole (take n text) h)
