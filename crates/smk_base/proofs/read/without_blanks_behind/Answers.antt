use Rattle.std.proofs.Common.{◌∙◌, sym}
use Rattle.smk_base.proofs.Blanks.{drops_blank, keeps_other}
use Rattle.smk_base.proofs.read.without_blanks_behind.Goals as goal

pub loop-rest-preserved : goal.loop-rest-preserved
loop-rest-preserved c = drops_blank c.loop-rest.rest.now c.in-len1-up.len_at_least c.if-not-is_blank_byte.ensures ∙ c.loop-rest.invariant

pub returns-then-not-is_blank_byte : goal.returns-then-not-is_blank_byte
returns-then-not-is_blank_byte c = sym (keeps_other c.loop-rest.rest.now c.in-len1-up.len_at_least c.if-not-is_blank_byte.ensures) ∙ c.loop-rest.invariant
