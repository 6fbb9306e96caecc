use Rattle.std.proofs.{Common.{arith, ◌<◌, [], List, ℕ, subst}, lemmas.List.{length-map, get_or-map}}
use Rattle.std.specs.List.{All}
use Rattle.smk_rid.specs.Packing.{one_of}
use Rattle.smk_rid.proofs.hold.narrow.codes_of.Goals as goal

pub of-requires : goal.of-requires
of-requires g c =
    let i = c.loop-rid.rid-index in
    let low = c.loop-rid-test.true in
    let long = length-map c.args.rids.now one_of in
    subst (λ (z : List ℕ). All (λ r. r < g.C.Code.limit) z) (get_or-map one_of c.args.rids.now i 0 [] low) (c.requires i [] (omega (arith, low, long)))
