use Rattle.std.proofs.{Common.{◌≡◌, ◌∙◌, ◌<◌, ◌+◌, length, drop, slice_set, sym, ap, arith}, lemmas.List.{length-set, get_or_default}}
use Rattle.smk_compose.specs.{Through.{together, together_all, has_heavy, map_at, no_map}, declared.kept_maps.KeptMap.KeptMap}
use Rattle.smk_compose.proofs.{Finds.{heavy_here, light_next, made_next, none_heavy, all_made}, Togethers.together_long, Aheads.{ahead_meets, ahead_next, meet_here, set_behind}}
use Rattle.smk_compose.proofs.pass.meet_all.Goals as goal

pub meet_at-requires-clause-meets : goal.meet_at-requires-clause-meets
meet_at-requires-clause-meets c =
    let inv = c.loop-i.invariant in
    let low : c.loop-i.i < length c.args.lefts.now = omega (arith, inv.left.long) in
    ahead_meets c.args.left_side.now c.args.right_side.now c.loop-i.left_side c.loop-i.right_side c.args.lefts.now c.args.rights.now c.loop-i.lefts c.loop-i.rights c.loop-i.i c.requires.long low
    inv.left inv.right (c.requires.meets c.loop-i.i low)

pub returns-in-Err-Pairs-clause-fault : goal.returns-in-Err-Pairs-clause-fault
returns-in-Err-Pairs-clause-fault c =
    let inv = c.loop-i.invariant in
    let i = c.loop-i.i in
    let xs = c.args.lefts.now in
    let ys = c.args.rights.now in
    let whole = together_all c.args.left_side.now c.args.right_side.now xs ys in
    let low : i < length xs = omega (arith, inv.left.long) in
    let at = meet_here c.args.left_side.now c.args.right_side.now c.loop-i.left_side c.loop-i.right_side xs ys c.loop-i.lefts c.loop-i.rights i c.requires.long low inv.left inv.right in
    let k = c.index-lefts-i.result in
    heavy_here c.args.node c.table-table.result whole i (omega (arith, together_long c.args.left_side.now c.args.right_side.now xs ys c.requires.long)) inv.none
    (ap has_heavy at ∙ c.in-Err-Pairs.ensures.many c.in-Err-Pairs.field-0-is)
    (ap (λ (x : KeptMap). x.table) at ∙ ap (λ (x : KeptMap). x.table) (get_or_default c.loop-i.lefts i no_map k (omega arith)) ∙ sym c.table-table.ensures)

pub loop-i-preserved : goal.loop-i-preserved
loop-i-preserved c =
    let inv = c.loop-i.invariant in
    let i = c.loop-i.i in
    let xs = c.args.lefts.now in
    let ys = c.args.rights.now in
    let lefts = c.loop-i.lefts in
    let rights = c.loop-i.rights in
    let made = c.meet_at.new.lefts in
    let whole = together_all c.args.left_side.now c.args.right_side.now xs ys in
    let here = together c.loop-i.left_side c.loop-i.right_side (map_at lefts i) (map_at rights i) in
    let low : i < length xs = omega (arith, inv.left.long) in
    let many : length whole ≡ length xs = together_long c.args.left_side.now c.args.right_side.now xs ys c.requires.long in
    let inside : i < length whole = omega (arith, many, low) in
    let at = meet_here c.args.left_side.now c.args.right_side.now c.loop-i.left_side c.loop-i.right_side xs ys lefts rights i c.requires.long low inv.left inv.right in
    let e : made ≡ slice_set lefts i here = c.in-Ok.ensures.made in
    let long : length made ≡ length lefts = ap (length {A = KeptMap}) e ∙ length-set lefts i here in
    record {
      left = ahead_next c.args.left_side.now c.loop-i.left_side c.meet_at.new.left_side xs lefts made i inv.left long (ap (drop (i + 1)) e ∙ set_behind lefts i here) c.in-Ok.ensures.left;
      right = ahead_next c.args.right_side.now c.loop-i.right_side c.meet_at.new.right_side ys rights c.meet_at.new.rights i inv.right (omega arith) c.in-Ok.ensures.rest c.in-Ok.ensures.right;
      made = made_next whole lefts made i inside (inv.left.long ∙ sym many) inv.made (e ∙ ap (slice_set lefts i) (sym at));
      none = light_next whole i inside inv.none (ap has_heavy at ∙ c.in-Ok.ensures.few);
    }

pub returns-clause-made : goal.returns-clause-made
returns-clause-made c =
    let inv = c.loop-i.invariant in
    let whole = together_all c.args.left_side.now c.args.right_side.now c.args.lefts.now c.args.rights.now in
    let many : length whole ≡ length c.args.lefts.now = together_long c.args.left_side.now c.args.right_side.now c.args.lefts.now c.args.rights.now c.requires.long in
    all_made whole c.loop-i.lefts c.loop-i.i (omega (arith, many, inv.left.long)) (inv.left.long ∙ sym many) inv.made

pub returns-clause-none : goal.returns-clause-none
returns-clause-none c =
    let inv = c.loop-i.invariant in
    let whole = together_all c.args.left_side.now c.args.right_side.now c.args.lefts.now c.args.rights.now in
    let many : length whole ≡ length c.args.lefts.now = together_long c.args.left_side.now c.args.right_side.now c.args.lefts.now c.args.rights.now c.requires.long in
    none_heavy c.args.node whole c.loop-i.i (omega (arith, many, inv.left.long)) inv.none
