-- What a turn tells: its reply, with its lists or without them, and the next state.
use Rattle.std.specs.Prelude.{◌≡◌, Bool, cond, Ok}
use Rattle.smk_base.specs.declared.reply.Reply.{Reply}
use Rattle.smk_model.specs.{OwnTexts.{brushed_rids, unlisted}, Replies.Asked, Session.State}
use Rattle.smk_session.specs.declared.turn.Turn.{Turn}

-- the reply of a turn is this one, with its lists or without them, and the turn counts the rids
pub record IsTold (listed : Bool) (turn : Turn) (whole : Reply) : Type 0 where
  pub reply : turn.reply ≡ cond listed whole (unlisted whole)
  pub count : turn.count ≡ brushed_rids whole

-- a reply that has no lists to leave out
pub record HasNoLists (reply : Reply) : Type 0 where
  pub same : unlisted reply ≡ reply
  pub none : brushed_rids reply ≡ 0

-- the answer is the turn's reply, with its lists or without them, and this state
pub record Tells (listed : Bool) (turn : Turn) (next : State) (asked : Asked (Reply × State)) : Type 0 where
  pub whole : Reply
  pub asked_for : asked ≡ Ok (whole, next)
  pub told : IsTold listed turn whole
