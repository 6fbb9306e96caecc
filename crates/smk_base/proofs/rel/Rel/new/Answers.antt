use Rattle.std.proofs.Common.{[], length}
use Rattle.smk_base.specs.{Rels.kind_in, Relations.AreMade}
use Rattle.smk_base.proofs.{Made.AreMade-through, Relating.made-new, rel.Rel.new.Goals.In_ok-owned_each}
use Rattle.smk_base.proofs.rel.Rel.new.Goals as goal

made : (c : In_ok-owned_each) → AreMade 0 (length c.args.kinds.now) (kind_in c.args.kinds.now) (λ k. []) c.in_ok-owned_each.field-0.items
made c = AreMade-through _ _ _ _ _ c.in_ok-begun_columns.field-0.items _ c.in_ok-begun_columns.ensures c.in_ok-owned_each.ensures

pub returns : goal.returns
returns c = made-new _ _ (made c)
