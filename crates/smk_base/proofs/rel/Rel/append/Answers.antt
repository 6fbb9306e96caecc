use Rattle.std.proofs.Common.{ap, ◌∙◌}
use Rattle.smk_base.specs.Rels.{Relation}
use Rattle.smk_base.proofs.{Pushed.AreMade-first, Rows.{length-rows_of, AreColumns-made}, Relating.{made-append, made-copy, wider-long, wider-at}}
use Rattle.smk_base.proofs.rel.Rel.append.Goals as goal

pub append_each-requires-clause-few : goal.append_each-requires-clause-few
append_each-requires-clause-few c = rw (← c.self.view_is, ← c.other.view_is, length-rows_of c.self.inside.count c.self.inside.columns.items, length-rows_of c.other.inside.count c.other.inside.columns.items) at c.requires.few

pub append_each-requires-clause-wide : goal.append_each-requires-clause-wide
append_each-requires-clause-wide c =
    let wider = rw (← c.self.view_is, ← c.other.view_is) at c.requires.wider in
    rw c.as_slice-others.ensures.value (wider-long _ _ wider)

pub append_each-requires-clause-wider : goal.append_each-requires-clause-wider
append_each-requires-clause-wider c =
    let wider = rw (← c.self.view_is, ← c.other.view_is) at c.requires.wider in
    rw c.as_slice-others.ensures.value (wider-at _ _ wider)

pub invariant_of-self : goal.invariant_of-self
invariant_of-self c =
    let few = rw (← c.self.view_is, ← c.other.view_is, length-rows_of c.self.inside.count c.self.inside.columns.items, length-rows_of c.other.inside.count c.other.inside.columns.items) at c.requires.few in
    AreColumns-made _ _ _ _ _ c.in-Ok.ensures.appended c.self.invariant.few_columns few

pub returns-in-Ok-clause-kinds : goal.returns-in-Ok-clause-kinds
returns-in-Ok-clause-kinds c =
    let wider = rw (← c.self.view_is, ← c.other.view_is) at c.requires.wider in
    let so = rw c.as_slice-others.ensures.value at c.in-Ok.ensures.appended in
    let made = made-append c.self.inside.count c.other.inside.count c.self.inside.columns.items c.other.inside.columns.items _ c.self.invariant.each (wider-long _ _ wider) so in
    ap (λ (rel : Relation). rel.kinds) made ∙ ap (λ (rel : Relation). rel.kinds) c.self.view_is

pub returns-in-Ok-clause-appended : goal.returns-in-Ok-clause-appended
returns-in-Ok-clause-appended c =
    let wider = rw (← c.self.view_is, ← c.other.view_is) at c.requires.wider in
    let so = rw c.as_slice-others.ensures.value at c.in-Ok.ensures.appended in
    let made = made-append c.self.inside.count c.other.inside.count c.self.inside.columns.items c.other.inside.columns.items _ c.self.invariant.each (wider-long _ _ wider) so in
    rw (← c.self.view_is, ← c.other.view_is) (ap (λ (rel : Relation). rel.rows) made)

pub returns-in-Err-clause-kinds : goal.returns-in-Err-clause-kinds
returns-in-Err-clause-kinds c =
    let same = made-copy c.self.inside.count c.self.inside.columns.items _ (AreMade-first c.self.inside.count _ _ _ c.in-Err.ensures.longer c.truncate_each.ensures) ∙ c.self.view_is in
    ap (λ (rel : Relation). rel.kinds) same

pub returns-in-Err-clause-kept : goal.returns-in-Err-clause-kept
returns-in-Err-clause-kept c = made-copy c.self.inside.count c.self.inside.columns.items _ (AreMade-first c.self.inside.count _ _ _ c.in-Err.ensures.longer c.truncate_each.ensures) ∙ c.self.view_is
