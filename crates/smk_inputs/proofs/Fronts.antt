-- What the front of a file says of the whole.
use Rattle.std.proofs.{Common.{◌≡◌, ◌∙◌, ◌<◌, ◌≤◌, ℕ, List, length, take, Option, Some, None, Ok, Err, ap, arith, inl}, lemmas.List.{take_all, length-take}, lemmas.Bool.Decides.nat_tests}
use Rattle.std.specs.Option.{IsSomeAnd, ok_or}
use Rattle.smk_base.specs.declared.fault.Fault.TheVariants.{FileLong, Unread}
use Rattle.smk_outside.specs.Outside.{IsFrontOf}
use Rattle.smk_model.specs.{Names.◌>>=◌, Outcome.{Held, kept_short, file_bytes}}
use Rattle.smk_inputs.specs.{declared.stop.Stop.TheVariants.At, Collecting.ReadsNamed}

-- a front that passes the limit
passed : (found : Option (List ℕ)) (name front : List ℕ) → IsSomeAnd found (λ whole. front ≡ take 67108865 whole) → 67108864 < length front
    → (ok_or found (Unread name) >>= kept_short name) ≡ Err (FileLong name)
passed None name front is h = absurd is
passed (Some whole) name front is h =
    let long : 67108864 < length whole = omega (arith, h, ap length is, length-take {A = ℕ} 67108865 whole) in
    grind (arith, nat_tests)

-- a front within the limit is the whole
within : (found : Option (List ℕ)) (name front : List ℕ) → IsSomeAnd found (λ whole. front ≡ take 67108865 whole) → length front ≤ 67108864
    → (ok_or found (Unread name) >>= kept_short name) ≡ Ok front
within None name front is h = absurd is
within (Some whole) name front is h =
    let short : length whole ≤ 67108864 = omega (arith, h, ap length is, length-take {A = ℕ} 67108865 whole) in
    let same : front ≡ whole = is ∙ take_all 67108865 whole (omega arith) in
    rw same (grind (arith, nat_tests))

pub long_front : {X : Type 0} (image : X → List ℕ) (held : Option Held) (rose : Type 0) (name front file : List ℕ)
    → IsFrontOf held name 67108864 front → 67108864 < length front → file ≡ name
    → ReadsNamed held rose name (λ held answer. file_bytes held name ≡ answer) image (Err (At (FileLong file)))
long_front image (Some held) rose name front file is h same = inl (rw same (passed (held name) name front is h))
long_front image None rose name front file is h same = tt

pub whole_front : {X : Type 0} (image : X → List ℕ) (held : Option Held) (rose : Type 0) (name : List ℕ) (front : X)
    → IsFrontOf held name 67108864 (image front) → length (image front) ≤ 67108864
    → ReadsNamed held rose name (λ held answer. file_bytes held name ≡ answer) image (Ok front)
whole_front image (Some held) rose name front is h = within (held name) name (image front) is h
whole_front image None rose name front is h = tt
