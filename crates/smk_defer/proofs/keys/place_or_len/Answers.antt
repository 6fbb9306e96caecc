use Rattle.std.proofs.Common.{◌∙◌, sym}
use Rattle.smk_defer.proofs.Keyed.{place_none}
use Rattle.smk_defer.proofs.keys.place_or_len.Goals as goal

pub returns-in-None : goal.returns-in-None
returns-in-None c = c.len.ensures.count ∙ sym (place_none c.args.keys.now c.args.key.now (sym c.in-None.ensures))
