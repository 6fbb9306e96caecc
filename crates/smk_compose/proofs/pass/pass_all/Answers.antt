use Rattle.std.proofs.{Common.{◌≡◌, ◌∙◌, ◌<◌, ◌+◌, length, map, drop, slice_set, sym, ap, arith}, lemmas.List.{length-map, length-set, get_or_default}, lemmas.Grind.common_steps}
use Rattle.smk_compose.specs.{Through.{through, has_heavy, map_at, no_map}, declared.kept_maps.KeptMap.KeptMap}
use Rattle.smk_compose.proofs.{Finds.{heavy_here, light_next, made_next}, Aheads.{ahead_passes, ahead_next, pass_here, set_behind}}
use Rattle.smk_compose.proofs.pass.pass_all.Goals as goal

pub pass_at-requires-clause-passes : goal.pass_at-requires-clause-passes
pass_at-requires-clause-passes c =
    let low : c.loop-i.i < length c.args.maps.now = omega (arith, c.loop-i.invariant.ahead.long) in
    ahead_passes c.args.side.now c.loop-i.side c.args.maps.now c.loop-i.maps c.loop-i.i low c.loop-i.invariant.ahead (c.requires c.loop-i.i no_map low)

pub returns-in-Err-Pairs-clause-fault : goal.returns-in-Err-Pairs-clause-fault
returns-in-Err-Pairs-clause-fault c =
    let i = c.loop-i.i in
    let f = through c.args.side.now in
    let maps = c.loop-i.maps in
    let low : i < length c.args.maps.now = omega (arith, c.loop-i.invariant.ahead.long) in
    let at = pass_here c.args.side.now c.loop-i.side c.args.maps.now maps i low c.loop-i.invariant.ahead in
    let k = c.index-maps-i.result in
    heavy_here c.args.node c.table-table.result (map f c.args.maps.now) i (omega (arith, length-map c.args.maps.now f)) c.loop-i.invariant.none
    (ap has_heavy at ∙ c.in-Err-Pairs.ensures.many c.in-Err-Pairs.field-0-is)
    (ap (λ (x : KeptMap). x.table) at ∙ ap (λ (x : KeptMap). x.table) (get_or_default maps i no_map k (omega arith)) ∙ sym c.table-table.ensures)

pub loop-i-preserved : goal.loop-i-preserved
loop-i-preserved c =
    let i = c.loop-i.i in
    let f = through c.args.side.now in
    let maps = c.loop-i.maps in
    let made = c.pass_at.new.maps in
    let here = through c.loop-i.side (map_at maps i) in
    let low : i < length c.args.maps.now = omega (arith, c.loop-i.invariant.ahead.long) in
    let inside : i < length (map f c.args.maps.now) = omega (arith, length-map c.args.maps.now f) in
    let at = pass_here c.args.side.now c.loop-i.side c.args.maps.now maps i low c.loop-i.invariant.ahead in
    let e : made ≡ slice_set maps i here = c.in-Ok.ensures.made in
    let long : length made ≡ length maps = ap (length {A = KeptMap}) e ∙ length-set maps i here in
    record {
      ahead = ahead_next c.args.side.now c.loop-i.side c.pass_at.new.side c.args.maps.now maps made i c.loop-i.invariant.ahead long (ap (drop (i + 1)) e ∙ set_behind maps i here) c.in-Ok.ensures.serves;
      made = made_next (map f c.args.maps.now) maps made i inside (c.loop-i.invariant.ahead.long ∙ sym (length-map c.args.maps.now f)) c.loop-i.invariant.made (e ∙ ap (slice_set maps i) (sym at));
      none = light_next (map f c.args.maps.now) i inside c.loop-i.invariant.none (ap has_heavy at ∙ c.in-Ok.ensures.few);
    }

pub returns-clause-none : goal.returns-clause-none
returns-clause-none c = grind (arith, common_steps)

pub returns-clause-made : goal.returns-clause-made
returns-clause-made c = grind (arith, common_steps)
