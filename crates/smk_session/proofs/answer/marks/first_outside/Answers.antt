use Rattle.std.proofs.{Common.{◌≡◌, ℕ, nat_le, ap, sym, ◌∙◌, Bor, option_map, find, rules, tests}, lemmas.Iterator.YieldsList-from_slice, lemmas.Iterator.Search.find_from_yields_List}
use Rattle.smk_session.proofs.answer.marks.first_outside.Goals as goal

pub returns-in-Some : goal.returns-in-Some
returns-in-Some c =
    let first : option_map (λ (x : Bor ℕ). x.now) c.find.result ≡ find (nat_le c.args.rows) c.as_slice.result.now =
    find_from_yields_List (nat_le c.args.rows) _ _ c.find.result c.find.ensures.ran (YieldsList-from_slice c.as_slice.result.now cc) (λ x b q k. search (rules, tests)) in
    rw c.in-Listed.is (ap (option_map (λ (x : Bor ℕ). x.now)) (sym c.in-Some.is) ∙ first ∙ ap (find (nat_le c.args.rows)) c.as_slice.ensures)

pub returns-in-None : goal.returns-in-None
returns-in-None c =
    let first : option_map (λ (x : Bor ℕ). x.now) c.find.result ≡ find (nat_le c.args.rows) c.as_slice.result.now =
    find_from_yields_List (nat_le c.args.rows) _ _ c.find.result c.find.ensures.ran (YieldsList-from_slice c.as_slice.result.now cc) (λ x b q k. search (rules, tests)) in
    rw c.in-Listed.is (ap (option_map (λ (x : Bor ℕ). x.now)) (sym c.in-None.is) ∙ first ∙ ap (find (nat_le c.args.rows)) c.as_slice.ensures)
