-- The answers of the calls that work out what a rule of typing gives.
use Rattle.std.specs.Prelude.{◌≡◌, ◌≢◌, Result, Err, Ok, MatchResult}
use Rattle.smk_base.specs.{declared.book.type_fault.TypeFault.TypeFault, declared.book.type_fault.TypeFault.TheVariants.NoMemory}
use Rattle.smk_model.specs.Names.{Typed}

-- the fault is the rule's, unless memory ran out
abbrev pub Fails : {A : Type 0} → TypeFault → Typed A → Type 0
Fails fault found = fault ≢ NoMemory → found ≡ Err fault

-- the answer, read by `seen`, is what the rule gives, unless memory ran out
abbrev pub Finds : {X A : Type 0} → Result X TypeFault → Typed A → (X → A) → Type 0
Finds result found seen = MatchResult result (λ x. found ≡ Ok (seen x)) (λ fault. Fails fault found)
