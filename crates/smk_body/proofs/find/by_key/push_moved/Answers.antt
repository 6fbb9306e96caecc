use Rattle.std.proofs.{Common.{◌+◌, ℕ, rules}, lemmas.Iterator.{YieldsList-from_map, YieldsList-from_slice}, lemmas.Iterator.Adapters.items_from_extend}
use Rattle.smk_body.proofs.find.by_key.push_moved.Goals as goal

pub returns : goal.returns
returns c =
    let h = items_from_extend c.extend.result c.extend.ensures.ran (YieldsList-from_map _ (λ (n : ℕ). c.args.by + n) (YieldsList-from_slice c.args.more.now cc) c.map.ensures.closure (λ x r q k. search rules)) in
    search rules
