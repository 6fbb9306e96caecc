-- An object over a reader and a writer, as contracts see it.
use Rattle.std.specs.{Prelude.{◌≡◌, ◌≢◌, ℕ, ◌<◌, ◌≤◌, ⊤, Bool, true, false, List, [], ◌∷◌, ◌++◌, length, All, Option, Some, None, Result, Ok, Err, OnSome, IfSome, ◌==◌, if◌then◌else◌}, Option.option_map, Io.{StopsAt, IsEmptyOrEndsWith}, Io.BufRead.{take_through, drop_through, strip_last}}
use Rattle.std.specs.Io.KnownBytes as known
use Rattle.smk_outside.specs.{declared.talk.heard.Heard.Heard, declared.talk.heard.Heard.TheVariants.{Line, Long, End}, declared.talk.heard.TalkFault.TalkFault, declared.talk.heard.TalkFault.TheVariants.{Failed, NoMemory}, Told.Told}

-- the reader, the writer, and how many calls have failed
pub record CountedStreams (R W : Type 0) : Type 0 where
  pub reader : R
  pub writer : W
  pub faults : ℕ

-- a line without its LF, and without a CR as its last byte
abbrev pub without_end : List ℕ → List ℕ
without_end line = strip_last 13 (strip_last 10 line)

-- the first line of bytes, and the bytes behind it
abbrev pub first_line : List ℕ → List ℕ
first_line bytes = without_end (take_through 10 bytes)

abbrev pub later_lines : List ℕ → List ℕ
later_lines bytes = drop_through 10 bytes

-- the lines of bytes: cut behind each LF. passed are the bytes of the line so far
abbrev pub lines_after : List ℕ → List ℕ → List (List ℕ)
lines_after passed [] = cut passed
  where
    cut : List ℕ → List (List ℕ)
    cut [] = []
    cut (b ∷ bs) = strip_last 13 (b ∷ bs) ∷ []
lines_after passed (b ∷ bs) = if b == 10 then strip_last 13 passed ∷ lines_after [] bs else lines_after (passed ++ b ∷ []) bs

abbrev pub lines_of : List ℕ → List (List ℕ)
lines_of bytes = lines_after [] bytes

-- it tells the lines of the reader and what the writer got, where these tell their bytes
abbrev pub told_by : {R W : Type 0} → (R → Option (List ℕ)) → (W → Option (List ℕ)) → CountedStreams R W → Told
told_by remaining contents streams = record { history = None; left = option_map lines_of (remaining streams.reader); said = contents streams.writer }

-- what was heard is the first line of these bytes, and those behind it are left
abbrev pub HearsFrom : ℕ → List ℕ → Option (List ℕ) → Result Heard TalkFault → Type 0
HearsFrom limit bytes after (Ok (Line line)) = (line.items ≡ first_line bytes) × (after ≡ Some (later_lines bytes)) × (bytes ≢ [])
HearsFrom limit bytes after (Ok Long) = (limit < length (first_line bytes)) × (after ≡ Some (later_lines bytes)) × (bytes ≢ [])
HearsFrom limit bytes after (Ok End) = (bytes ≡ []) × (after ≡ Some [])
HearsFrom limit bytes after (Err NoMemory) = (after ≡ Some (later_lines bytes)) × (bytes ≢ [])
HearsFrom limit bytes after (Err Failed) = ⊤

-- where the bytes of the reader are known
abbrev pub HearsBytes : ℕ → Option (List ℕ) → Option (List ℕ) → Result Heard TalkFault → Type 0
HearsBytes limit before after result = IfSome before (λ bytes. HearsFrom limit bytes after result)

-- a line that is given is within the limit
abbrev pub IsShort : ℕ → Heard → Type 0
IsShort limit (Line line) = length line.items ≤ limit
IsShort limit _ = ⊤

-- what was heard, if these bytes are the line with its end
abbrev pub IsHeard : ℕ → List ℕ → Heard → Type 0
IsHeard limit line (Line heard) = (line ≢ []) × (heard.items ≡ without_end line) × (length (without_end line) ≤ limit)
IsHeard limit line Long = (line ≢ []) × (limit < length (without_end line))
IsHeard limit line End = line ≡ []

-- these bytes were taken: up to the first LF or the end; or as many as were asked for, without an LF; or fewer, for lack of memory
abbrev pub TakesFront : ℕ → Option (List ℕ) → Option (List ℕ) → List ℕ → Result Bool TalkFault → Type 0
TakesFront most before after line (Ok true) = IfSome before (λ bytes. (line ≡ take_through 10 bytes) × (after ≡ Some (later_lines bytes)))
TakesFront most before after line (Ok false) = All (λ x. x ≢ 10) line × (most ≤ length line) × known.Consumes before after line
TakesFront most before after line (Err NoMemory) = All (λ x. x ≢ 10) line × known.Consumes before after line × IfSome before (λ bytes. bytes ≢ [])
TakesFront most before after line (Err Failed) = ⊤

-- these bytes were taken: up to the first LF or the end, or some without an LF, or none, for lack of memory
abbrev pub AreTaken : Option (List ℕ) → Option (List ℕ) → List ℕ → Result Bool TalkFault → Type 0
AreTaken before after bytes (Ok true) = known.Consumes before after bytes × StopsAt bytes 10 × IsEmptyOrEndsWith bytes 10 × (length bytes ≡ 0 → OnSome before (known.IsAtEnd after))
AreTaken before after bytes (Ok false) = known.Consumes before after bytes × All (λ x. x ≢ 10) bytes
AreTaken before after bytes (Err NoMemory) = known.Consumes before after bytes × (bytes ≡ []) × IfSome before (λ whole. whole ≢ [])
AreTaken before after bytes (Err Failed) = ⊤

-- such bytes were appended
abbrev pub SomeTaken : Option (List ℕ) → Option (List ℕ) → List ℕ → List ℕ → Result Bool TalkFault → Type 0
SomeTaken before after old new result = (part : List ℕ) × (new ≡ old ++ part) × AreTaken before after part result
