use Rattle.std.proofs.Common.{map}
use Rattle.smk_own.specs.Image.{part_image}
use Rattle.smk_own.proofs.Parts.{if_ok, numbered_said}
use Rattle.smk_own.proofs.narrowing.numbered_text.Goals as goal

pub returns : goal.returns
returns c = if_ok c.with_numbered_part.result c.with_numbered_part.ensures (λ text says.
    numbered_said (part_image c.args.part) (map (λ w. w.now) c.args.words.now) c.args.names.now c.args.rel.now.rows c.len-rows.result c.span-from.result c.in_ok-front.front.items text.items
    c.len-rows.ensures.count c.span-from.ensures.is c.in_ok-front.ensures says)
