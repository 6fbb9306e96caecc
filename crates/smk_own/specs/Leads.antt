-- The first words of own lines, as the definitions see them.
use Rattle.std.specs.Prelude.{Option}
use Rattle.smk_base.specs.Trees.{AnyLineImage}
use Rattle.smk_model.specs.OwnLines as owns
use Rattle.smk_own.specs.{Image.part_image, declared.reading.Lead.Lead, declared.reading.Lead.TheVariants.{Schema, Help, Selected, Before}, declared.reading.Words.Words, declared.reading.Words.TheVariants.{Narrowed, Brief}}

-- the own line that a script's line becomes after such words
abbrev pub line_behind : Words → AnyLineImage → Option owns.OwnLine
line_behind (Narrowed part now) = owns.narrowed (part_image part) now
line_behind Brief = owns.brief

abbrev pub lead_image : Lead → owns.Lead
lead_image Schema = owns.WholeLine owns.Schema
lead_image Help = owns.WholeLine owns.Help
lead_image (Selected part) = owns.BeforeTable (part_image part)
lead_image (Before words) = owns.BeforeLine (line_behind words)
