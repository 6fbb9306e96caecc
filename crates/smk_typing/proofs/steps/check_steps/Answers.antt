use Rattle.std.proofs.Common.{◌∙◌, map}
use Rattle.smk_base.specs.TreeImage.{ask_step_image}
use Rattle.smk_model.specs.Typing.{column_of}
use Rattle.smk_typing.specs.Images.{plan_of}
use Rattle.smk_typing.proofs.AskSteps.{PartsFit, in_turn_over, part_of, parts_fit, steps_fail, steps_fit, steps_found}
use Rattle.smk_typing.proofs.steps.check_steps.Goals as goal

pub taken_apart-requires : goal.taken_apart-requires
taken_apart-requires c =
    let added = in_turn_over c.args.cols.now c.in_ok-columns.columns c.args.steps.now c.in_ok-columns.ensures.columns ∙ rw c.as_slice.ensures at c.in-Ok.ensures in
    (steps_fit c.args.cols.now (map ask_step_image c.args.steps.now) (plan_of c.add_steps.new.typed) c.requires.kept.each added).chain

pub returns-in-Ok-clause-steps : goal.returns-in-Ok-clause-steps
returns-in-Ok-clause-steps c =
    let added = in_turn_over c.args.cols.now c.in_ok-columns.columns c.args.steps.now c.in_ok-columns.ensures.columns ∙ rw c.as_slice.ensures at c.in-Ok.ensures in
    steps_found (map column_of c.args.cols.now) (map ask_step_image c.args.steps.now) _ _ added c.taken_apart.ensures

pub returns-in-Ok-clause-fits : goal.returns-in-Ok-clause-fits
returns-in-Ok-clause-fits c =
    let added = in_turn_over c.args.cols.now c.in_ok-columns.columns c.args.steps.now c.in_ok-columns.ensures.columns ∙ rw c.as_slice.ensures at c.in-Ok.ensures in
    let parts = parts_fit (map column_of c.args.cols.now) _ _ c.taken_apart.result c.requires.kept.few (steps_fit c.args.cols.now (map ask_step_image c.args.steps.now) (plan_of c.add_steps.new.typed) c.requires.kept.each added) c.taken_apart.ensures in
    part_of (PartsFit (map column_of c.args.cols.now)) _ _ (λ made it. it.fits) parts

pub returns-in-Ok-clause-kinds : goal.returns-in-Ok-clause-kinds
returns-in-Ok-clause-kinds c =
    let added = in_turn_over c.args.cols.now c.in_ok-columns.columns c.args.steps.now c.in_ok-columns.ensures.columns ∙ rw c.as_slice.ensures at c.in-Ok.ensures in
    let parts = parts_fit (map column_of c.args.cols.now) _ _ c.taken_apart.result c.requires.kept.few (steps_fit c.args.cols.now (map ask_step_image c.args.steps.now) (plan_of c.add_steps.new.typed) c.requires.kept.each added) c.taken_apart.ensures in
    part_of (PartsFit (map column_of c.args.cols.now)) _ _ (λ made it. it.kinds) parts

pub returns-in-Ok-clause-few : goal.returns-in-Ok-clause-few
returns-in-Ok-clause-few c =
    let added = in_turn_over c.args.cols.now c.in_ok-columns.columns c.args.steps.now c.in_ok-columns.ensures.columns ∙ rw c.as_slice.ensures at c.in-Ok.ensures in
    let parts = parts_fit (map column_of c.args.cols.now) _ _ c.taken_apart.result c.requires.kept.few (steps_fit c.args.cols.now (map ask_step_image c.args.steps.now) (plan_of c.add_steps.new.typed) c.requires.kept.each added) c.taken_apart.ensures in
    part_of (PartsFit (map column_of c.args.cols.now)) _ _ (λ made it. it.few) parts

pub returns-in-Err-clause-steps : goal.returns-in-Err-clause-steps
returns-in-Err-clause-steps c = steps_fail (map column_of c.args.cols.now) (map ask_step_image c.args.steps.now) c.in-Err.fault (λ other. in_turn_over c.args.cols.now c.in_ok-columns.columns c.args.steps.now c.in_ok-columns.ensures.columns ∙ rw c.as_slice.ensures at (c.in-Err.ensures other))
