use Rattle.std.proofs.lemmas.Result.{IfOk-weaker}
use Rattle.smk_base.specs.IntColumns.{numbers_of}
use Rattle.smk_keys.proofs.Rowed.{AreNumbers-codes_range, AreNumbers-ints_range}
use Rattle.smk_keys.proofs.columns.column_numbers.Goals as goal

pub returns-in_ok-from_slice-in-Text : goal.returns-in_ok-from_slice-in-Text
returns-in_ok-from_slice-in-Text c =
    rw (c.in_ok-from_slice-in-Text.ensures.items, c.len.ensures.count, c.dict.ensures)
    (AreNumbers-codes_range c.args.c c.args.rel.now.rows c.codes.result.now c.args.from c.args.to _ c.codes.ensures.equal c.codes.ensures.within c.requires.order c.requires.within)

pub returns-in-Int : goal.returns-in-Int
returns-in-Int c =
    IfOk-weaker c.int_numbers.result _ _ (λ made are. AreNumbers-ints_range c.args.c c.args.rel.now.rows (numbers_of c.ints.result) c.args.from c.args.to _ _ c.ints.ensures are) c.int_numbers.ensures
