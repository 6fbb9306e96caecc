use Rattle.std.proofs.Common.{◌<◌, ◌∙◌, ap, length, sym, arith}
use Rattle.smk_grow.specs.Renewed.{moved_kept}
use Rattle.smk_grow.proofs.Moved.{mapped_more}
use Rattle.smk_grow.proofs.moving.move_maps.Goals as goal

pub loop-kept-preserved : goal.loop-kept-preserved
loop-kept-preserved c =
    let moved = moved_kept c.args.table c.args.rows c.args.size in
    let low : c.loop-kept.kept-index < length c.loop-kept.kepts = omega (arith, c.loop-kept-test.true) in
    mapped_more moved c.args.kepts.now c.loop-kept.kepts c.loop-kept.kept-index c.kept-item.result c.move_map.new.kept low c.loop-kept.auto.kepts c.kept-item.is (c.move_map.ensures ∙ ap moved (sym c.kept-item.is)) c.loop-kept.invariant
