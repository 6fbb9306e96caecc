use Rattle.std.proofs.Common.{List, ◌∙◌, sym, ap}
use Rattle.smk_parse.{specs.Vocabulary.Token, specs.Vocabulary.Configuration, specs.Vocabulary.PlanCounts, proofs.Texts.gap_goes, proofs.Texts.token_goes}
use Rattle.smk_parse.proofs.reader.Reader.behind.Goals as goal

abbrev state : PlanCounts → List Token → Configuration
state c ts = record { rest = ts; counts = c }

pub loop-len-preserved : goal.loop-len-preserved
loop-len-preserved c = let r = gap_goes c.args.text.now c.loop-len.place c.in-Between.len c.loop-len.invariant.within (sym c.in-Between.ensures.is) c.in-Between.ensures.within in record { within = r.0; left = sym r.1 ∙ c.loop-len.invariant.left }

pub returns-in-Begins : goal.returns-in-Begins
returns-in-Begins c = ap (state (record { nodes = c.args.nodes; compares = c.args.compares })) (sym (token_goes c.args.text.now c.loop-len.place c.in-Begins.len c.in-Begins.kind c.loop-len.invariant.within (sym c.in-Begins.ensures.is) c.in-Begins.ensures.within).0 ∙ c.loop-len.invariant.left)

pub invariant_of-result : goal.invariant_of-result
invariant_of-result c = (token_goes c.args.text.now c.loop-len.place c.in-Begins.len c.in-Begins.kind c.loop-len.invariant.within (sym c.in-Begins.ensures.is) c.in-Begins.ensures.within).1
