use Rattle.std.proofs.Common.{◌∙◌, ◌++◌, ◌∷◌, [], List, map, ap, sym}
use Rattle.smk_base.specs.Places.{upto}
use Rattle.smk_model.specs.Selection.{each_rows}
use Rattle.smk_rid.proofs.Sets.{map_upto_more}
use Rattle.smk_compose.specs.declared.kept_maps.KeptMap.{KeptMap}
use Rattle.smk_chain.specs.Parts.{joint_map_at}
use Rattle.smk_chain.proofs.maps.maps_of_both.Goals as goal

pub loop-i-preserved : goal.loop-i-preserved
loop-i-preserved c =
    let traced = c.args.traced.now in
    let both = c.args.both.now in
    let i = c.loop-i.i in
    let f = joint_map_at both.groups.now traced.scanned c.args.rows (each_rows traced.tables.now) traced.need.now both.old.now both.new.now in
    c.in_ok-push.ensures.pushed ∙ ap (λ (z : List KeptMap). z ++ c.in_ok-map.map ∷ []) c.loop-i.invariant ∙ ap (λ (k : KeptMap). map f (upto i) ++ k ∷ []) c.in_ok-map.ensures ∙ sym (map_upto_more f i)
