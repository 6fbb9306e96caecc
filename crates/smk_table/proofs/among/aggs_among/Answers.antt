use Rattle.std.proofs.{Common.{rules, ◌∙◌}, lemmas.Iterator.{YieldsList-from_map, YieldsList-from_slice, items_from_collect}, lemmas.Result.IfOk-at_ok}
use Rattle.smk_table.specs.Named.{agg_among}
use Rattle.smk_table.proofs.among.aggs_among.Goals as goal

pub returns : goal.returns
returns c = c.from_vec.ensures ∙ IfOk-at_ok _ c.in_ok-collect.was (items_from_collect _ c.collect.ensures.ran (YieldsList-from_map _ (agg_among c.args.cols.now) (YieldsList-from_slice c.args.aggs.now cc) c.map-made.ensures.closure (λ x r q k. search rules)))
