use Rattle.std.proofs.Common.{◌<◌, ◌∷◌, [], arith}
use Rattle.smk_table.proofs.Parts.{AreParts-columns}
use Rattle.smk_table.proofs.joining.by_columns.Goals as goal

pub returns-clause-parts : goal.returns-clause-parts
returns-clause-parts c = λ k d h.
    let low : k < c.loop-c.c = omega (arith, h, c.loop-c.invariant.len, c.loop-c.made.ok) in
    rw (c.loop-c.invariant.each k d low) (AreParts-columns (k ∷ []) c.args.parts.items c.requires)
