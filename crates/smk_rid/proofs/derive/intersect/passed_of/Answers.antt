use Rattle.std.proofs.Common.{◌≡◌, ◌∙◌, ◌<◌, ◌+◌, ◌++◌, ◌∷◌, [], ℕ, get_or, length, take, refl, arith}
use Rattle.std.specs.List.{filter}
use Rattle.smk_base.specs.Places.{has}
use Rattle.smk_rid.proofs.{Intersecting.{common_more, common_same, less_here, passed_next}, derive.intersect.passed_of.Goals.{then-is_at+in_ok-push, else-is_at}}
use Rattle.smk_rid.proofs.derive.intersect.passed_of.Goals as goal

pub loop-rid-preserved : goal.loop-rid-preserved
loop-rid-preserved c =
    let others = c.args.others.now in
    let ones = c.args.ones.now in
    let i = c.loop-rid.rid-index in
    let x = get_or ones i 0 in
    let place = c.place_from-place.result in
    let low : i < length ones = c.loop-rid-test.true in
    let less : (k : ℕ) → k < place → get_or others k 0 < x = less_here others ones i x c.loop-rid.place place low refl c.loop-rid.invariant.passed c.place_from-place.ensures.less in
    let passed = passed_next others ones i x place c.requires.ones refl less in
    elim c.if-is_at.branch [
      | then-is_at+in_ok-push w ↦
          let found = rw w.if-is_at.true at c.is_at.ensures.found in
          let made : c.loop-rid.made.items ++ x ∷ [] ≡ filter (has others) (take (i + 1) ones) = common_more others ones c.loop-rid.made.items i x place low refl found.0 found.1 c.loop-rid.invariant.made in
          record { made = rw w.made-is (w.in_ok-push.ensures.items ∙ made); within = c.place_from-place.ensures.within; passed = passed }
      | else-is_at w ↦
          let other = rw w.if-is_at.false at c.is_at.ensures.other in
          let more : place < length others → x < get_or others place 0 = λ l. (let a = c.place_from-place.ensures.not_less l in let b = other l in omega (arith, a, b)) in
          record { made = rw w.made-is (common_same others ones c.loop-rid.made.items i x place c.requires.others low refl less more c.loop-rid.invariant.made); within = c.place_from-place.ensures.within; passed = passed }
    ]
