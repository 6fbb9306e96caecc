-- A sink over a stream, as contracts see it.
use Rattle.std.specs.Prelude.{ℕ, List, Option}
use Rattle.std.specs.Io.KnownBytes as known
use Rattle.smk_outside.specs.Outside.{IsPrefix}

-- the stream, and how many calls have failed
pub record CountedStream (W : Type 0) : Type 0 where
  pub stream : W
  pub faults : ℕ

-- where the bytes of a stream are known, some of these were appended, from the first on
abbrev pub AppendsKnownPart : Option (List ℕ) → Option (List ℕ) → List ℕ → Type 0
AppendsKnownPart before after bytes = (part : List ℕ) × IsPrefix part bytes × known.Appends before after part
