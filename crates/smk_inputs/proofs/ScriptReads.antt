-- The bytes of a script, and what its lines say.
use Rattle.std.proofs.Common.{◌≡◌, ◌∙◌, ℕ, List, [], ◌∷◌, ◌++◌, Option, Some, None, Result, Ok, Err, refl, ap, subst, inl, inr}
use Rattle.smk_model.specs.{Readings.{Reading, IsReading, AreReadings, AreReadingsOf, no_line, one_line}, Outcome.{Held, file_bytes, read, unread, lines_read, no_script, a_script}}
use Rattle.smk_model.proofs.OneOutcome.{same_reading}
use Rattle.smk_inputs.specs.{declared.stop.Stop.Stop, declared.stop.Stop.TheVariants.{At, Unwritten, Exhausted}, Collecting.{ReadsNamed, OpensBytes}}

-- one line more
pub readings_more : (texts : List (List ℕ)) (readings : List Reading) (text : List ℕ) (reading : Reading) → AreReadings texts readings → IsReading text reading → AreReadings (texts ++ text ∷ []) (readings ++ reading ∷ [])
readings_more texts readings text reading no_line is = one_line is no_line
readings_more texts readings text reading (one_line here rest) is = one_line here (readings_more _ _ text reading rest is)

-- the readings of lines begin with those of the first of them
pub rest_said : (texts behind : List (List ℕ)) (done said : List Reading) → AreReadings texts done → AreReadings (texts ++ behind) said → (more : List Reading) × (said ≡ done ++ more)
rest_said _ behind _ said no_line is = (said, refl)
rest_said _ behind _ _ (one_line {reading = r} {texts = texts} {readings = done} here first) (one_line {readings = said} this rest) =
    let more = rest_said texts behind done said first rest in
    let same = same_reading this here in
    (more.0, ap (λ s. s ∷ said) same ∙ ap (λ l. r ∷ l) more.1)

-- a run without a script
nothing_said : (readings : List Reading) → AreReadings [] readings → readings ≡ []
nothing_said _ no_line = refl

pub no_bytes : {X : Type 0} (bytes : X → List ℕ) (held : Option Held) (rose : Type 0) (script : Option (List ℕ)) (x : X) → script ≡ None → bytes x ≡ [] → OpensBytes held rose script bytes (Ok x)
no_bytes bytes (Some held) rose script x none empty =
    λ readings are.
    let nothing : readings ≡ [] = nothing_said readings (subst (λ (l : List ℕ). AreReadingsOf l readings) empty are) in
    rw (none, nothing) no_script
no_bytes bytes None rose script x none empty = tt

-- the script's file
pub bytes_read : {X : Type 0} (bytes : X → List ℕ) (held : Option Held) (rose : Type 0) (name : List ℕ) (script : Option (List ℕ)) (r : Result X Stop) → script ≡ Some name
    → ReadsNamed held rose name (λ h answer. file_bytes h name ≡ answer) bytes r → OpensBytes held rose script bytes r
bytes_read {X} bytes held rose name script r some is = rw some (by held r is)
  where
    by : (held : Option Held) (r : Result X Stop) → ReadsNamed held rose name (λ h answer. file_bytes h name ≡ answer) bytes r → OpensBytes held rose (Some name) bytes r
    by (Some held) (Ok x) is = λ readings are. a_script (read is (lines_read are))
    by (Some held) (Err (At fault)) (inl is) = inl (a_script (unread is))
    by (Some held) (Err (At fault)) (inr (up, e)) = inr (up, (name, refl, e))
    by (Some held) (Err Unwritten) is = is
    by (Some held) (Err Exhausted) is = tt
    by None (Ok x) is = tt
    by None (Err (At fault)) is = is
    by None (Err Unwritten) is = is
    by None (Err Exhausted) is = tt
