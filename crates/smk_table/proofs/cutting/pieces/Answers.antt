use Rattle.std.proofs.{Common.{◌≡◌, ◌∙◌, length, ap, arith, false}, lemmas.List.length_push, lemmas.Grind.common_steps}
use Rattle.smk_base.specs.Marks.{begins_with_mark}
use Rattle.smk_table.proofs.PieceSteps.{piece_read, unmarked_take}
use Rattle.smk_table.proofs.cutting.pieces.Goals as goal

pub loop-preserved : goal.loop-preserved
loop-preserved c =
    let inv = c.loop.invariant in
    let rest = c.loop.rest.now in
    let cut = c.in-Some.ensures in
    let halves = c.split_at.ensures in
    let made = c.in_ok-push.ensures.items in
    let plain : begins_with_mark c.split_at.result.0.now ≡ false = ap begins_with_mark halves.front ∙ unmarked_take c.in-Some.n rest inv.first in
    record {
      read = piece_read c.loop.parts.items c.push.new.self.items c.split_at.result.0 c.args.text.now rest c.split_at.result.1.now c.in-Some.n inv.read halves.front halves.back cut.lines made;
      unmarked = rw made (grind (arith, common_steps, plain, inv.unmarked));
      few = omega (arith, inv.few, ap length made, length_push c.loop.parts.items c.split_at.result.0);
      first = ap begins_with_mark halves.back ∙ cut.unmarked;
    }
