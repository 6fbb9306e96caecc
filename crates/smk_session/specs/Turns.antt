-- The answer to a line, and what it changes in a session.
use Rattle.std.specs.Prelude.{IfSome}
use Rattle.smk_model.specs.Session.{State}
use Rattle.smk_session.specs.{Answers.{ChangesOver, next_of}, Sessions.{SessionImage, state_of}, declared.turn.Turn.Turn}

-- a change comes with a reply that is no refusal, and the brushes and contents after it are right
abbrev pub IsTurnOf : SessionImage → Turn → Type 0
IsTurnOf session turn = IfSome turn.change (ChangesOver session.catalog session.tables session.contents turn.reply)

-- the state of a session after a turn: with its brushes in force, or as it was if nothing changes
abbrev pub state_turned : SessionImage → Turn → State
state_turned session turn = next_of (state_of session) turn.change
