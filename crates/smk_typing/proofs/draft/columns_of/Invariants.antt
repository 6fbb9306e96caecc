use Rattle.std.proofs.Common.{◌≡◌, map, take, length}
use Rattle.smk_model.specs.Typing.{column_of}
use Rattle.smk_typing.proofs.draft.columns_of.Given as goal

abbrev pub invariant-loop-col : goal.invariant-loop-col
invariant-loop-col l = (l.columns ≡ map column_of (take l.col-index l.col-items)) × (length l.columns ≡ l.col-index)
