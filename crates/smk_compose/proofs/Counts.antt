-- The number of pairs of a plan whose leaves have whole tables.
use Rattle.std.proofs.{Common.{◌≡◌, ◌∙◌, ◌<◌, ℕ, zero, suc, false, List, [], length, refl, sym, ap, arith}, lemmas.List.Sums.sum_by_push, lemmas.List.Folds.sum_by-replicate}
use Rattle.std.specs.List.{sum_by}
use Rattle.smk_base.specs.{Places.{Lists, upto, places, pairs_of, has}, Plans.Expr}
use Rattle.smk_model.specs.{Values.Row, Plain.{leaves, eval}, Annotated.{pairs, relates}, Composed.{table_at, rows_over, backs}}
use Rattle.smk_base.proofs.Places.{same_below}
use Rattle.smk_model.proofs.{Comes.{rows_in, comes, IsPart, rows_part, reaches_part}, Composed.{sum_by_map, backs_by, lists_stand}}

sum_agree : (f g : ℕ → ℕ) (k : ℕ) → ((o : ℕ) → o < k → f o ≡ g o) → sum_by f (upto k) ≡ sum_by g (upto k)
sum_agree f g zero h = refl
sum_agree f g (suc k) h = omega (arith, sum_by_push f (upto k) k, sum_by_push g (upto k) k, h k (omega arith), sum_agree f g k (λ o l. h o (omega arith)))

pub pairs_part : (plan : Expr) (E tables : List (List Row)) (table : ℕ) → IsPart (leaves plan) E tables plan 0 → pairs plan E table (length (table_at tables table)) ≡ pairs_of (backs plan tables table).lists
pairs_part plan E tables table part =
    let f = comes plan tables table in
    let n = length (table_at tables table) in
    sum_agree (λ o. length (places (relates plan E table o) n)) (λ o. length (places (f o) n)) (length (eval plan E)) (λ o low.
    ap length (same_below (relates plan E table o) (f o) n (λ rid l. reaches_part plan (leaves plan) E tables 0 table part o rid low)))
    ∙ ap (λ (L : List Row). sum_by (λ o. length (places (f o) n)) (upto (length L))) (rows_part plan (leaves plan) E tables 0 part)
    ∙ sym (sum_by_map length (λ o. places (f o) n) (upto (length (rows_in plan tables))))
    ∙ sym (ap (λ (m : Lists). pairs_of m.lists) (backs_by plan tables table))

pub pairs_unscanned : (plan : Expr) (tables : List (List Row)) (table : ℕ) → has (leaves plan) table ≡ false → pairs_of (backs plan tables table).lists ≡ 0
pairs_unscanned plan tables table none =
    let void : List ℕ = [] in
    ap (λ (m : Lists). pairs_of m.lists) (lists_stand.unscanned_backs plan tables table none) ∙ omega (arith, sum_by-replicate (length {A = ℕ}) (length (rows_over plan tables)) void)
