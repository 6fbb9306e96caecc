use Rattle.std.proofs.Common.{[], ◌∷◌}
use Rattle.smk_outside.proofs.Telling.{SaysFront-more, SaysFront-after, Rose-after}
use Rattle.smk_top.proofs.talking.say_block.Goals as goal

pub returns-in-Err-clause-gives : goal.returns-in-Err-clause-gives
returns-in-Err-clause-gives g c = (SaysFront-more (g.T.Talk.told c.args.talk.now) (g.T.Talk.told c.say.new.self) (c.args.text.now ∷ []) ((10 ∷ []) ∷ []) c.in-Err.ensures.front, c.in-Err.ensures.cause)

pub returns-in-Err-say-clause-gives : goal.returns-in-Err-say-clause-gives
returns-in-Err-say-clause-gives g c =
    (SaysFront-after (g.T.Talk.told c.args.talk.now) (g.T.Talk.told c.say.new.self) (g.T.Talk.told c.say-2.new.self) (c.args.text.now ∷ []) ((10 ∷ []) ∷ []) c.in-Ok.ensures.ok c.in-Err-say.ensures.front, Rose-after _ _ _ c.say.ensures.later c.in-Err-say.ensures.cause)
