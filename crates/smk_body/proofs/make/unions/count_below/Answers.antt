use Rattle.std.proofs.{Common.{◌<◌, take, arith, get_or}, lemmas.List.take_more, lemmas.List.Elements.All-push}
use Rattle.smk_body.proofs.make.unions.count_below.Goals as goal

pub loop-k-preserved : goal.loop-k-preserved
loop-k-preserved c =
    let places = c.args.places.now in
    let k = c.loop-k.k in
    rw (take_more places k 0 c.loop-k-test.true) (All-push (λ i. i < c.args.bound) (take k places) (get_or places k 0) c.loop-k.invariant (omega arith))
