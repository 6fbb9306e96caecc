use Rattle.std.proofs.{Common.{◌<◌, ◌∙◌, ℕ, ap, length, map, get_or, ◌+◌}, lemmas.List.{get_or_read, take_all}}
use Rattle.smk_base.proofs.Loops.{mapped_next}
use Rattle.smk_base.proofs.rel.value_column.items_at.Goals as goal

pub loop-place-preserved : goal.loop-place-preserved
loop-place-preserved g c =
    let place = get_or c.args.places.now c.loop-place.place-index 0 in
    let low : place < length c.args.items.now = c.requires c.loop-place.place-index 0 c.loop-place-test.true in
    record {
      made = (λ d. rw c.push_reserved.ensures.items (mapped_next (λ (place : ℕ). get_or c.args.items.now place d) c.args.places.now c.loop-place.made.items c.loop-place.place-index _ 0 c.loop-place-test.true (get_or_read c.args.items.now place _ low c.index-items-place.is d) (c.loop-place.invariant.made d)));
      len = c.push_reserved.ensures.len ∙ ap (λ (n : ℕ). n + 1) c.loop-place.invariant.len;
      room = rw c.push_reserved.ensures.capacity c.loop-place.invariant.room;
    }

pub returns : goal.returns
returns g c = λ d. c.loop-place.invariant.made d ∙ ap (map (λ (place : ℕ). get_or c.args.items.now place d)) (take_all c.loop-place.place-index c.args.places.now c.loop-place-test.false)
