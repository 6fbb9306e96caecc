-- A way as it is held, and its bounds.
use Rattle.std.specs.Prelude.{◌≡◌, ℕ, ◌<◌, ◌≤◌, ◌+◌, List, All, length, map, Option, IfSome}
use Rattle.smk_base.specs.{declared.rel.TheConstants.ROW_LIMIT, Places.{Lists, inverted, upto}}
use Rattle.smk_model.specs.{Locals.singles, Ways.{Way, Own, Sources, Targets}}
use Rattle.smk_keys.specs.Classes.{ClassesImage}
use Rattle.smk_body.specs.{Halves.AreNumbered, declared.keep.way.Held.Held}
use Rattle.smk_body.specs.declared.keep.way.Held.TheVariants as held

-- so many numbers from one on
abbrev pub stretch : ℕ → ℕ → List ℕ
stretch from len = map (λ i. from + i) (upto len)

abbrev pub way_of : Held → Way
way_of (held.Own n) = Own n
way_of (held.Sources of inputs fwd) = Sources of.items inputs
way_of (held.Targets of outputs back) = Targets of.items outputs
way_of (held.Stretch from len outputs) = Targets (stretch from len) outputs

-- at most 1,048,576 numbers below a bound
pub record AreBelow (bound : ℕ) (of : List ℕ) : Type 0 where
  pub few : length of ≤ ROW_LIMIT
  pub below : All (λ r. r < bound) of

-- the group of each of at most 1,048,576 rows
pub record IsPartition (groups : ClassesImage) : Type 0 where
  pub few : length groups.of ≤ ROW_LIMIT
  pub numbered : AreNumbered (length groups.of) groups

-- these are the lists of such numbers in the other direction, if they are made
abbrev pub AreTurned : ℕ → List ℕ → Option Lists → Type 0
AreTurned bound of made = IfSome made (λ lists. lists ≡ inverted (singles of bound))

abbrev pub IsHeld : Held → Type 0
IsHeld (held.Own n) = n ≤ ROW_LIMIT
IsHeld (held.Sources of inputs fwd) = AreBelow inputs of.items × AreTurned inputs of.items fwd
IsHeld (held.Targets of outputs back) = AreBelow outputs of.items × AreTurned outputs of.items back
IsHeld (held.Stretch from len outputs) = (from + len ≤ outputs) × (outputs ≤ ROW_LIMIT)
