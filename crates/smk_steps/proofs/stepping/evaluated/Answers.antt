use Rattle.std.proofs.{Common.{map, arith}, lemmas.List.length-map}
use Rattle.smk_base.specs.PlanImage.{unary_of}
use Rattle.smk_model.proofs.Asks.{chain_nodes, chain_width, chains_are_small}
use Rattle.smk_steps.proofs.stepping.evaluated.Goals as goal

pub rows_over-made-requires-clause-leaf : goal.rows_over-made-requires-clause-leaf
rows_over-made-requires-clause-leaf g c κs within = rw c.in-Ok.ensures (chain_width (map unary_of c.args.ops))

pub rows_over-made-requires-clause-nodes : goal.rows_over-made-requires-clause-nodes
rows_over-made-requires-clause-nodes g c κs within = rw c.in-Ok.ensures (omega (arith, chain_nodes (map unary_of c.args.ops), length-map c.args.ops unary_of, c.requires.few))

pub rows_over-made-requires-clause-small : goal.rows_over-made-requires-clause-small
rows_over-made-requires-clause-small g c κs within = rw c.in-Ok.ensures (chains_are_small (map unary_of c.args.ops) c.args.rows.rows c.len-few.ensures.keeps.few_rows)
