-- What all parts have made, from what each has.
use Rattle.std.proofs.{Common.{◌∙◌, ℕ, List, get_or, subst, arith}, lemmas.Slice.Zip.AllZip-long}
use Rattle.std.specs.List.{AllZip}
use Rattle.smk_base.specs.Places.{upto}
use Rattle.smk_base.proofs.{RelRows.AllZip-at, Places.{length_upto, get_or_upto}}
use Rattle.smk_jobs.specs.Cuts.{AreParts}

-- in the form in which parts are told by their numbers
pub are_parts : {X : Type 0} (Q : ℕ → X → Type 0) (n : ℕ) (made : List X) → AllZip Q (upto n) made → AreParts Q n made
are_parts Q n made all =
    (AllZip-long Q (upto n) made all ∙ length_upto n, λ p d below. subst (λ m. Q m (get_or made p d)) (get_or_upto n p 0 below) (AllZip-at Q (upto n) made p 0 d all (omega (arith, below, length_upto n))))
