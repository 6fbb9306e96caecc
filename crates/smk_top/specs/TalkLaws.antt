-- Lines are cut in the same way when they are heard and in a script.
use Rattle.std.specs.Prelude.{◌≡◌, ℕ, List}
use Rattle.smk_model.specs.Lines.{lines}
use Rattle.smk_outside.specs.StreamTalk.{lines_of}

-- the lines heard in some bytes are those of a script with these bytes. A script is read without the byte order marks at its start, and so is the first line of a conversation
abbrev pub LinesAreOne : Type 0
LinesAreOne = (bytes : List ℕ) → lines_of bytes ≡ lines bytes
