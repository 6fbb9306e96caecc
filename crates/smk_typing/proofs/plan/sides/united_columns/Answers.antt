use Rattle.std.proofs.Common.{◌∙◌, ◌<◌, ◌∷◌, ◌++◌, [], List, map, take, get_or, length, arith, length-append, ap, sym}
use Rattle.std.specs.List.{zip}
use Rattle.smk_base.specs.declared.book.catalog.Column.{Column}
use Rattle.smk_model.specs.TypedSteps.{united_column}
use Rattle.smk_typing.proofs.{Results.ok_same, Unions.take_more_zip}
use Rattle.smk_typing.proofs.plan.sides.united_columns.Goals as goal

pub loop-place-preserved : goal.loop-place-preserved
loop-place-preserved c =
    let below : c.loop-place.place < length c.args.lefts.now = omega arith in
    let more = take_more_zip c.args.lefts.now c.args.rights.now c.loop-place.place c.index-lefts-place.result c.index-rights-place.result c.requires below in
    let pushed = c.in_ok-push.ensures.pushed in
    let left : Column = get_or c.args.lefts.now c.loop-place.place c.index-lefts-place.result in
    let same = sym (ok_same {A = Column} _ _ c.in_ok-column.ensures) ∙ ap (λ (l : Column). united_column (l, c.index-rights-place.result)) c.index-lefts-place.is ∙ ap (λ (r : Column). united_column (left, r)) c.index-rights-place.is in (
      pushed ∙ ap (λ (l : List Column). l ++ c.in_ok-column.column ∷ []) c.loop-place.invariant.0 ∙ ap (λ (k : Column). map united_column (take c.loop-place.place (zip c.args.lefts.now c.args.rights.now)) ++ k ∷ []) same ∙ sym more,
      omega (arith, ap length pushed, length-append {A = Column} c.loop-place.columns (c.in_ok-column.column ∷ [])),
    )
