use Rattle.std.proofs.{Common.{rules, ◌∙◌}, lemmas.Iterator.{YieldsList-from_map, YieldsList-from_slice, items_from_collect}, lemmas.Result.IfOk-at_ok}
use Rattle.smk_table.specs.Named.{pair_among}
use Rattle.smk_table.proofs.among.pairs_among.Goals as goal

pub returns : goal.returns
returns c = c.from_vec.ensures ∙ IfOk-at_ok _ c.in_ok-collect.was (items_from_collect _ c.collect.ensures.ran (YieldsList-from_map _ (pair_among c.args.lefts.now c.args.rights.now) (YieldsList-from_slice c.args.pairs.now cc) c.map-made.ensures.closure (λ x r q k. search rules)))
