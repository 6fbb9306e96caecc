use Rattle.std.proofs.{Common.{◌≡◌, ℤ, length, ◌∷◌, ◌++◌, [], ◌∙◌, ap, subst, sym, rules, arith, to_z, of_z}, Math.Facts.to_z-of_z}
use Rattle.std.specs.Int.{w64}
use Rattle.smk_base.specs.Rels.{Fits, kind_in}
use Rattle.smk_base.specs.declared.value.Value.TheVariants as values
use Rattle.smk_base.proofs.Building.{next-at, next_room, next_kind, next_pushed, next_kept, below-at}
use Rattle.smk_base.proofs.rel.rel_builder.RelBuilder.push_int.Goals as goal

pub index_mut-requires : goal.index_mut-requires
index_mut-requires c =
    let low = below-at _ _ c.self.inside.columns.items _ c.self.view_is c.requires.column in
    omega arith

pub push_int-requires-clause-few : goal.push_int-requires-clause-few
push_int-requires-clause-few c =
    next_room _ _ _ _ _ (next-at _ _ c.self.inside.columns.items _ _ c.self.view_is c.self.invariant c.requires.column c.index_mut.ensures.value) c.requires.room

pub push_int-requires-clause-fits : goal.push_int-requires-clause-fits
push_int-requires-clause-fits c =
    let kind = next_kind _ _ _ _ _ (next-at _ _ c.self.inside.columns.items _ _ c.self.view_is c.self.invariant c.requires.column c.index_mut.ensures.value) in
    let number : to_z w64 (of_z w64 c.args.number) ≡ c.args.number = to_z-of_z c.ranges.number in
    rw kind (subst (λ (z : ℤ). Fits (kind_in c.args.self.now.kinds (length c.args.self.now.begun)) (values.Int z)) (sym number) c.requires.fits)

pub returns-in_err-push_int-clause-kept : goal.returns-in_err-push_int-clause-kept
returns-in_err-push_int-clause-kept c =
    let next = next-at _ _ c.self.inside.columns.items _ _ c.self.view_is c.self.invariant c.requires.column c.index_mut.ensures.value in
    let same = next_kept c.self.inside.count c.self.inside.at c.self.inside.columns.items c.args.self.now c.index_mut.result.now c.push_int.new.self next c.in_err-push_int.ensures.kind c.in_err-push_int.ensures.kept in
    search (rules, same.view)

pub invariant_of-self-2 : goal.invariant_of-self-2
invariant_of-self-2 c =
    let next = next-at _ _ c.self.inside.columns.items _ _ c.self.view_is c.self.invariant c.requires.column c.index_mut.ensures.value in
    (next_pushed _ _ _ _ _ c.push_int.new.self _ next c.in_ok-push_int.ensures.kind c.in_ok-push_int.ensures.pushed c.in_ok-push_int.ensures.keeps).are

pub returns-clause-pushed : goal.returns-clause-pushed
returns-clause-pushed c =
    let next = next-at _ _ c.self.inside.columns.items _ _ c.self.view_is c.self.invariant c.requires.column c.index_mut.ensures.value in
    let number : to_z w64 (of_z w64 c.args.number) ≡ c.args.number = to_z-of_z c.ranges.number in
    let pushed = c.in_ok-push_int.ensures.pushed ∙ ap (λ (z : ℤ). c.index_mut.result.now.cells ++ values.Int z ∷ []) number in
    (next_pushed _ _ _ _ _ c.push_int.new.self _ next c.in_ok-push_int.ensures.kind pushed c.in_ok-push_int.ensures.keeps).view
