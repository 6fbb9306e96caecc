-- The texts of the first views were said.
use Rattle.std.proofs.Common.{◌≤◌, take}
use Rattle.smk_outside.specs.Saying.{Says}
use Rattle.smk_model.specs.ViewTexts.{view_texts}
use Rattle.smk_session.specs.Sessions.{workbook_of}
use Rattle.smk_top.proofs.talking.say_opening.Given as goal

abbrev pub invariant-loop-number : goal.invariant-loop-number
invariant-loop-number g l = record {
  said : Says (g.T.Talk.told l.fn.talk) (g.T.Talk.told l.talk) (take l.number (view_texts (workbook_of l.session)));
  later : g.T.Talk.faults l.fn.talk ≤ g.T.Talk.faults l.talk;
}
