use Rattle.std.proofs.Common.{◌∙◌, ◌++◌, ap, arith, take}
use Rattle.smk_report.proofs.Numbers.{behind, line_is, spaced}
use Rattle.smk_report.proofs.lines.add_numbers.Goals as goal

pub loop-done-preserved : goal.loop-done-preserved
loop-done-preserved c =
    let room = c.put_numbers-from.new.room in
    let len = c.put_numbers-from.ensures.len ∙ c.loop-done.invariant.len in
    let next = c.min-next.ensures in
    record {
      text = c.in_ok-extend_from_slice-2.ensures.items ∙ behind c.loop-done.text.items room c.args.numbers.now c.extend_from_slice.new.self.items c.put_numbers-from.result 2046 c.loop-done.done c.min-next.result (omega (arith, next, c.loop-done.invariant.done)) len c.loop-done.invariant.text c.put_numbers-from.ensures.bytes;
      done = omega (arith, next);
      len = len;
    }

pub returns : goal.returns
returns c = line_is c.loop-done.text.items c.args.text.now.items c.push.new.self.items c.args.word.now c.args.numbers.now c.loop-done.done (omega (arith, c.loop-done-test.false))
    (c.loop-done.invariant.text ∙ ap (λ l. l ++ spaced (take c.loop-done.done c.args.numbers.now)) c.in_ok-extend_from_slice.ensures.items) c.in_ok-push.ensures.items
