-- The limits that the lines of a script keep.
use Rattle.smk_base.specs.Trees.{AnyLineImage, AskedLine}
use Rattle.smk_model.specs.{Limits.KeepsAsk, Readings.{Reading, Asks}}

-- a line of the grammar keeps the limits of its kind
abbrev pub KeepsLine : AnyLineImage → Type 0
KeepsLine (AskedLine asked) = KeepsAsk asked
KeepsLine _ = Unit {0}

abbrev pub KeepsReading : Reading → Type 0
KeepsReading (Asks line) = KeepsLine line
KeepsReading _ = Unit {0}
