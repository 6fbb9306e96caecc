use Rattle.std.proofs.{Common.{◌∙◌, sym, arith}, lemmas.Result.{err_from_is_err_and, on_ok_weaker}, lemmas.Grind.common_steps}
use Rattle.smk_compose.specs.Through.{through, map_at}
use Rattle.smk_compose.proofs.Chains.{left_heavy_maps, right_heavy_maps, met_at}
use Rattle.smk_compose.proofs.pass.meet_at.Goals as goal

pub returns-in_err-pass_at-clause-many : goal.returns-in_err-pass_at-clause-many
returns-in_err-pass_at-clause-many c =
    let p = err_from_is_err_and c.from_residual.result c.from_residual.ensures.1 in
    rw p.1 (λ e. left_heavy_maps c.args.left_side.now (map_at c.args.lefts.now c.args.i) (through c.args.right_side.now (map_at c.args.rights.now c.args.i)) (c.in_err-pass_at.ensures.many (sym p.2 ∙ e)))

pub returns-in_err-pass_at-2-clause-many : goal.returns-in_err-pass_at-2-clause-many
returns-in_err-pass_at-2-clause-many c =
    let p = err_from_is_err_and c.from_residual-in_err-pass_at-2.result c.from_residual-in_err-pass_at-2.ensures.1 in
    rw p.1 (λ e. right_heavy_maps (through c.args.left_side.now (map_at c.args.lefts.now c.args.i)) c.args.right_side.now (map_at c.args.rights.now c.args.i) c.requires.meets.matches (c.in_err-pass_at-2.ensures.many (sym p.2 ∙ e)))

pub returns-clause-made : goal.returns-clause-made
returns-clause-made c =
    on_ok_weaker c.merge_maps.result
    (met_at c.args.left_side.now c.args.right_side.now c.args.lefts.now c.args.rights.now c.pass_at.new.maps c.pass_at-2.new.maps c.args.i c.index-lefts-i.result c.index-rights-i.result c.merge_maps.new.left
    c.requires.left_place c.requires.right_place c.in_ok-pass_at.ensures.made c.in_ok-pass_at-2.ensures.made)
    c.merge_maps.ensures.made

pub returns-clause-rest : goal.returns-clause-rest
returns-clause-rest c = grind (arith, common_steps)

pub merge_maps-requires : goal.merge_maps-requires
merge_maps-requires c = grind (arith, common_steps)
