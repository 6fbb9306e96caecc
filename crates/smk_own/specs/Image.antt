-- Own lines as the definitions see them.
use Rattle.std.specs.Prelude.{ℕ, ◌-◌, min, map, Option, Some, None, option_map}
use Rattle.smk_base.specs.TreeImage.{ask_image, ask_step_image}
use Rattle.smk_model.specs.OwnLines as owns
use Rattle.smk_own.specs.{declared.own_line.Part.Part, declared.own_line.OwnLine.OwnLine, declared.own_line.OwnLine.TheVariants.{Schema, Help, Selected, Narrowed, NarrowedAsk, Brief, BriefProfile}, declared.own_line.OwnReading.OwnReading, declared.own_line.OwnReading.TheVariants.{Owns, Misses}}

abbrev pub part_image : Option Part → Option owns.RowsPart
part_image part = option_map (λ p. record { from = p.from; below = p.below }) part

-- where a part begins among so many members, and how many it has
abbrev pub span_of : Option owns.RowsPart → ℕ → ℕ × ℕ
span_of None count = (0, count)
span_of (Some part) count = (min part.from count, min part.below count - min part.from count)

abbrev pub own_image : OwnLine → owns.OwnLine
own_image Schema = owns.Schema
own_image Help = owns.Help
own_image (Selected part table steps) = owns.Selected (part_image part) table (map ask_step_image steps)
own_image (Narrowed part now line) = owns.Narrowed (part_image part) now line
own_image (NarrowedAsk part now line) = owns.NarrowedAsk (part_image part) now (ask_image line)
own_image (Brief line) = owns.Brief line
own_image (BriefProfile view) = owns.BriefProfile view

abbrev pub own_reading_image : OwnReading → owns.OwnReading
own_reading_image (Owns own) = owns.Owns (own_image own)
own_reading_image (Misses at) = owns.Misses at
