use Rattle.std.proofs.Common.{◌∙◌, rules, arith}
use Rattle.smk_base.proofs.Building.{next-at, next_room, next_kind, next_pushed, next_kept, below-at}
use Rattle.smk_base.proofs.rel.rel_builder.RelBuilder.push_text.Goals as goal

pub index_mut-requires : goal.index_mut-requires
index_mut-requires c =
    let low = below-at _ _ c.self.inside.columns.items _ c.self.view_is c.requires.column in
    omega arith

pub push_text-requires-clause-few : goal.push_text-requires-clause-few
push_text-requires-clause-few c =
    next_room _ _ _ _ _ (next-at _ _ c.self.inside.columns.items _ _ c.self.view_is c.self.invariant c.requires.column c.index_mut.ensures.value) c.requires.room

pub push_text-requires-clause-text : goal.push_text-requires-clause-text
push_text-requires-clause-text c =
    let kind = next_kind _ _ _ _ _ (next-at _ _ c.self.inside.columns.items _ _ c.self.view_is c.self.invariant c.requires.column c.index_mut.ensures.value) in
    kind ∙ c.requires.text

pub returns-in_err-push_text-clause-kept : goal.returns-in_err-push_text-clause-kept
returns-in_err-push_text-clause-kept c =
    let next = next-at _ _ c.self.inside.columns.items _ _ c.self.view_is c.self.invariant c.requires.column c.index_mut.ensures.value in
    let same = next_kept c.self.inside.count c.self.inside.at c.self.inside.columns.items c.args.self.now c.index_mut.result.now c.push_text.new.self next c.in_err-push_text.ensures.kind c.in_err-push_text.ensures.kept in
    search (rules, same.view)

pub invariant_of-self-2 : goal.invariant_of-self-2
invariant_of-self-2 c =
    let next = next-at _ _ c.self.inside.columns.items _ _ c.self.view_is c.self.invariant c.requires.column c.index_mut.ensures.value in
    (next_pushed _ _ _ _ _ c.push_text.new.self _ next c.in_ok-push_text.ensures.kind c.in_ok-push_text.ensures.pushed c.in_ok-push_text.ensures.keeps).are

pub returns-clause-pushed : goal.returns-clause-pushed
returns-clause-pushed c =
    let next = next-at _ _ c.self.inside.columns.items _ _ c.self.view_is c.self.invariant c.requires.column c.index_mut.ensures.value in
    (next_pushed _ _ _ _ _ c.push_text.new.self _ next c.in_ok-push_text.ensures.kind c.in_ok-push_text.ensures.pushed c.in_ok-push_text.ensures.keeps).view
