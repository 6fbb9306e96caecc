-- What each step of a report has written.
use Rattle.std.specs.Prelude.{ℕ, List, Option, Result, Ok, Err}
use Rattle.smk_outside.specs.Outside.{Appends, AppendsPart}
use Rattle.smk_inputs.specs.{declared.stop.Stop.Stop, declared.stop.Stop.TheVariants.{At, Unwritten, Exhausted}}

-- the text was appended, or only a part of it since `out` failed
abbrev pub Puts : {X : Type 0} → List ℕ → Type 0 → Option (List ℕ) → Option (List ℕ) → Result X Stop → Type 0
Puts text rose before after (Ok x) = Appends before after text
Puts text rose before after (Err Unwritten) = AppendsPart before after text × rose
Puts text rose before after (Err _) = ⊥

-- the same for a text in pieces; memory may run out between them
abbrev pub PutsPieces : {X : Type 0} → List ℕ → Type 0 → Option (List ℕ) → Option (List ℕ) → Result X Stop → Type 0
PutsPieces text rose before after (Ok x) = Appends before after text
PutsPieces text rose before after (Err (At fault)) = ⊥
PutsPieces text rose before after (Err Unwritten) = AppendsPart before after text × rose
PutsPieces text rose before after (Err Exhausted) = AppendsPart before after text
