use Rattle.std.proofs.Common.{◌∙◌, ap}
use Rattle.smk_base.specs.Ints.{int_of, numeral_int, before_blanks}
use Rattle.smk_base.proofs.read.read_among_blanks.Goals as goal

pub returns : goal.returns
unfolding int_of
returns c = c.read_numeral.ensures ∙ ap numeral_int (c.without_blanks_behind.ensures ∙ ap before_blanks c.without_blanks_before.ensures)
