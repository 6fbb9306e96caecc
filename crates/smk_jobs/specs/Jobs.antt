-- What the results of jobs are, in their order.
use Rattle.std.specs.Prelude.{◌≡◌, List, [], ◌∷◌, Result, MatchResult}

-- e is the first fault of the jobs: a job gives it, and those before it give values
abbrev pub FirstFault : {J T E : Type 0} → (J → Result T E → Type 0) → List J → E → Type 0
FirstFault Gives [] e = ⊥
FirstFault {T = T} {E = E} Gives (job ∷ jobs) e = (r : Result T E) × Gives job r × MatchResult r (λ _. FirstFault Gives jobs e) (λ fault. fault ≡ e)
