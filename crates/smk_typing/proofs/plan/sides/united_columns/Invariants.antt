use Rattle.std.proofs.Common.{◌≡◌, map, take, length}
use Rattle.std.specs.List.{zip}
use Rattle.smk_model.specs.TypedSteps.{united_column}
use Rattle.smk_typing.proofs.plan.sides.united_columns.Given as goal

abbrev pub invariant-loop-place : goal.invariant-loop-place
invariant-loop-place l = (l.columns ≡ map united_column (take l.place (zip l.lefts l.rights))) × (length l.columns ≡ l.place)
