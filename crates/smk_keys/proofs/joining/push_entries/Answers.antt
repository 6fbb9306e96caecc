use Rattle.std.proofs.{Common.{◌+◌, ℕ, rules, get_or}, lemmas.Iterator.{YieldsList-from_map, YieldsList-from_slice}, lemmas.Iterator.Adapters.items_from_extend}
use Rattle.smk_keys.proofs.joining.push_entries.Goals as goal

pub returns : goal.returns
returns c =
    let h = items_from_extend c.extend.result c.extend.ensures.ran (YieldsList-from_map _ (λ (n : ℕ). get_or c.args.table.now (c.args.from + n) 0) (YieldsList-from_slice c.args.classes.now cc) c.map.ensures.closure (λ x r q k. search rules)) in
    search rules
