use Rattle.std.proofs.Common.{◌∙◌, ap, arith, length}
use Rattle.smk_marks.proofs.Looks.{kept_few, kept_inside}
use Rattle.smk_marks.proofs.reached.reach_rows.Goals as goal

pub choose-requires-clause-inside : goal.choose-requires-clause-inside
choose-requires-clause-inside g c = rw (c.as_slice.ensures.value ∙ c.in_ok-rids.ensures) (kept_inside c.args.forward.now (length c.args.table.now.rows) c.args.chosen.now c.requires.inside)

pub choose-requires-clause-few : goal.choose-requires-clause-few
choose-requires-clause-few g c = omega (arith, ap length (c.as_slice.ensures.value ∙ c.in_ok-rids.ensures), kept_few c.args.forward.now c.args.chosen.now, c.requires.few)

pub returns-in_err-rows-clause-looks : goal.returns-in_err-rows-clause-looks
returns-in_err-rows-clause-looks g c = omega (arith, c.choose.ensures.looks, ap length (c.as_slice.ensures.value ∙ c.in_ok-rids.ensures))

pub returns-clause-looks : goal.returns-clause-looks
returns-clause-looks g c = omega (arith, c.choose.ensures.looks, ap length (c.as_slice.ensures.value ∙ c.in_ok-rids.ensures))
