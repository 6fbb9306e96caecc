-- The limits and the forms that own lines keep.
use Rattle.std.specs.Prelude.{◌≡◌, cond, true}
use Rattle.smk_model.specs.{Limits.{KeepsAsk, KeepsSteps}, OwnLines.{OwnLine, Selected, Narrowed, NarrowedAsk, Brief, OwnReading, Owns, has_rows, has_rows_behind, moves_brushes}}

-- steps keep their limits, and a script's line is of a form that may come after its words
abbrev pub KeepsOwn : OwnLine → Type 0
KeepsOwn (Selected part table steps) = KeepsSteps steps
KeepsOwn (Narrowed part now asked) = cond now (has_rows_behind asked) (has_rows asked) ≡ true
KeepsOwn (NarrowedAsk part now asked) = KeepsAsk asked
KeepsOwn (Brief asked) = moves_brushes asked ≡ true
KeepsOwn _ = Unit {0}

abbrev pub KeepsOwnReading : OwnReading → Type 0
KeepsOwnReading (Owns own) = KeepsOwn own
KeepsOwnReading _ = Unit {0}
