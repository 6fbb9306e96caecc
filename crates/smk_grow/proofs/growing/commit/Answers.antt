use Rattle.std.proofs.{Common.{◌≡◌, ◌≤◌, ◌∙◌, List, None, Option, ap, arith, length, map, subst, sym}, lemmas.List.with_items_is}
use Rattle.std.specs.Vec.{with_items}
use Rattle.smk_base.specs.{Places.upto, Rels.Relation}
use Rattle.smk_skip.specs.Splits.{SplitImage}
use Rattle.smk_session.specs.Parts.{parts_image}
use Rattle.smk_grow.specs.Renewed.{replaced}
use Rattle.smk_grow.proofs.Committed.{committed, few_cubes, few_splits}
use Rattle.smk_grow.proofs.growing.commit.Goals as goal

pub replace-requires-2 : goal.replace-requires-2
replace-requires-2 c =
    subst (λ (l : List SplitImage). length c.args.fresh.extras.splits.items ≤ length l) (sym c.as_mut_slice-2.ensures.value)
    (few_splits (parts_image c.args.parts.now) c.args.table c.args.len c.args.fresh c.requires.grown c.requires.fresh)

pub replace-requires-3 : goal.replace-requires-3
replace-requires-3 c =
    subst (λ (l : List (List Relation)). length c.args.fresh.extras.cubes.items ≤ length l) (sym c.as_mut_slice-3.ensures.value)
    (few_cubes (parts_image c.args.parts.now) c.args.table c.args.len c.args.fresh c.requires.grown c.requires.fresh)

pub returns-clause-parts : goal.returns-clause-parts
returns-clause-parts c =
    let session = parts_image c.args.parts.now in
    let parts = c.args.parts.now in
    let contents_are : c.as_mut_slice-4.result.now ≡ parts.now.items = c.as_mut_slice-4.ensures.value in
    committed session c.args.table c.args.len c.args.fresh (with_items parts.views c.replace.new.olds).items (with_items parts.splits c.replace-2.new.olds).items (with_items parts.cubes c.replace-3.new.olds).items c.release.new.brushes.items (with_items parts.now c.forget.new.contents).items
    c.requires.grown c.requires.fresh
    (with_items_is parts.views c.replace.new.olds (omega (arith, c.replace.auto.olds, ap length c.as_mut_slice.ensures.value, parts.views.ok.0)) ∙ c.replace.ensures ∙ ap (replaced c.args.fresh.views.items) c.as_mut_slice.ensures.value)
    (with_items_is parts.splits c.replace-2.new.olds (omega (arith, c.replace-2.auto.olds, ap length c.as_mut_slice-2.ensures.value, parts.splits.ok.0)) ∙ c.replace-2.ensures ∙ ap (replaced c.args.fresh.extras.splits.items) c.as_mut_slice-2.ensures.value)
    (with_items_is parts.cubes c.replace-3.new.olds (omega (arith, c.replace-3.auto.olds, ap length c.as_mut_slice-3.ensures.value, parts.cubes.ok.0)) ∙ c.replace-3.ensures ∙ ap (replaced c.args.fresh.extras.cubes.items) c.as_mut_slice-3.ensures.value)
    c.release.ensures
    (with_items_is parts.now c.forget.new.contents (omega (arith, c.forget.auto.contents, ap length contents_are, parts.now.ok.0)) ∙ c.forget.ensures ∙ ap (λ (l : List (Option Relation)). map (λ w. None) (upto (length l))) contents_are)
