use Rattle.std.proofs.Common.{arith, length, ap}
use Rattle.smk_rid.proofs.{Codes.{one_none, one_some, pairs_more}, hold.code.count_before.Goals.{then-number, else-number}}
use Rattle.smk_rid.proofs.hold.code.count_before.Goals as goal

pub loop-k-preserved : goal.loop-k-preserved
loop-k-preserved g c =
    let more = pairs_more g.C.Code.number_of c.args.codes.now c.loop-k.k c.index-codes-k.result c.number.result (omega (arith, c.loop-k-test.true, c.requires.in_range)) c.index-codes-k.is c.number.ensures in
    elim c.if-number.branch [
      | then-number w ↦ omega (arith, w.count-is, c.loop-k.invariant, more, ap length (one_some c.number.result w.if-number.true))
      | else-number w ↦ omega (arith, w.count-is, c.loop-k.invariant, more, ap length (one_none c.number.result w.if-number.false))
    ]
