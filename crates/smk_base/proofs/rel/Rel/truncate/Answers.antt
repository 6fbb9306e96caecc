use Rattle.std.proofs.Common.{ap, ◌∙◌, arith, rules}
use Rattle.smk_base.specs.Rels.{Relation}
use Rattle.smk_base.proofs.{Relating.{long-at, made-copy, made-first}, Rows.{length-rows_of, AreColumns-made}}
use Rattle.smk_base.proofs.rel.Rel.truncate.Goals as goal

pub returns-in_err-own_each-clause-kinds : goal.returns-in_err-own_each-clause-kinds
returns-in_err-own_each-clause-kinds c = ap (λ (rel : Relation). rel.kinds) (made-copy c.self.inside.count c.self.inside.columns.items _ c.own_each.ensures.same ∙ c.self.view_is)

pub returns-in_err-own_each-clause-kept : goal.returns-in_err-own_each-clause-kept
returns-in_err-own_each-clause-kept c =
    let same = made-copy c.self.inside.count c.self.inside.columns.items _ c.own_each.ensures.same ∙ c.self.view_is in
    search (rules, same)

pub truncate_each-requires-clause-each : goal.truncate_each-requires-clause-each
truncate_each-requires-clause-each c = λ k h.
    let within = rw (← c.self.view_is, length-rows_of c.self.inside.count c.self.inside.columns.items) at c.requires.within in
    rw (long-at c.self.inside.count c.own_each.new.columns.items k c.own_each.ensures.same.each h) within

pub invariant_of-self-2 : goal.invariant_of-self-2
invariant_of-self-2 c =
    let within = rw (← c.self.view_is, length-rows_of c.self.inside.count c.self.inside.columns.items) at c.requires.within in
    AreColumns-made _ _ _ _ _ c.truncate_each.ensures (omega (arith, c.own_each.ensures.same.long, c.self.invariant.few_columns)) (omega (arith, within, c.self.invariant.few_rows))

pub returns-clause-kinds : goal.returns-clause-kinds
returns-clause-kinds c =
    let within = rw (← c.self.view_is, length-rows_of c.self.inside.count c.self.inside.columns.items) at c.requires.within in
    let same = made-copy c.self.inside.count c.self.inside.columns.items _ c.own_each.ensures.same ∙ c.self.view_is in
    ap (λ (rel : Relation). rel.kinds) (made-first c.self.inside.count c.args.len c.own_each.new.columns.items _ within c.truncate_each.ensures) ∙ ap (λ (rel : Relation). rel.kinds) same

pub returns-clause-first : goal.returns-clause-first
returns-clause-first c =
    let within = rw (← c.self.view_is, length-rows_of c.self.inside.count c.self.inside.columns.items) at c.requires.within in
    let same = made-copy c.self.inside.count c.self.inside.columns.items _ c.own_each.ensures.same ∙ c.self.view_is in
    rw (← same) (ap (λ (rel : Relation). rel.rows) (made-first c.self.inside.count c.args.len c.own_each.new.columns.items _ within c.truncate_each.ensures))
