use Rattle.std.proofs.Common.{◌∙◌, ap}
use Rattle.smk_base.specs.{Rels.Relation, Builders.RowsBegun}
use Rattle.smk_base.proofs.{Relating.made-copy, Building.each-ended}
use Rattle.smk_base.proofs.rel.rel_builder.RelBuilder.finish.Goals as goal

pub owned_each-requires : goal.owned_each-requires
owned_each-requires c =
    let none = rw (← c.self.view_is) at c.requires in
    each-ended c.self.inside.count c.self.inside.at c.self.inside.columns.items c.self.invariant none

pub returns : goal.returns
returns c = c.of_columns.ensures ∙ made-copy c.self.inside.count c.self.inside.columns.items _ c.in_ok-owned_each.ensures
    ∙ ap (λ (now : RowsBegun). (let rel : Relation = record { kinds = now.kinds; rows = now.rows } in rel)) c.self.view_is
