-- The rids that reach a mark.
use Rattle.std.proofs.{Common.{◌<◌, ◌≤◌, ℕ, Bool, true, false, cond, List, length, nat_lt, All, arith}, lemmas.List.Elements.All-filter}
use Rattle.std.specs.List.{list_all}
use Rattle.smk_base.specs.Places.{Lists, list_at}
use Rattle.smk_marks.specs.{Marks.{reads_none, kept}, Views.looks_of_reach, declared.view.KeptView.KeptView}
use Rattle.smk_marks.proofs.Marked.{few_kept}

pub kept_inside : (m : Lists) (n : ℕ) (S : List ℕ) → All (λ s. s < n) S → All (λ s. s < n) (kept m S)
kept_inside m n S all = All-filter (λ s. nat_lt 0 (length (list_at m s))) (λ s. s < n) S all

pub kept_few : (m : Lists) (S : List ℕ) → length (kept m S) ≤ length S
kept_few m S = few_kept (λ s. nat_lt 0 (length (list_at m s))) S

-- so they are at most as many looks as rids
pub looks_few : (view : KeptView) (S : List ℕ) → looks_of_reach view S ≤ length S
looks_few view S = by (list_all reads_none view.plan.aggs.now)
  where
    by : (b : Bool) → cond b 0 (length (kept view.forward.now S)) ≤ length S
    by true = omega arith
    by false = kept_few view.forward.now S
