use Rattle.std.proofs.{Common.{arith, ◌∙◌, ◌<◌, ◌≡◌, ℕ, List, eqb, length, map}, lemmas.Bool.{and_from, eq-eqb}, lemmas.List.length-map}
use Rattle.smk_rid.specs.Packing.{one_of}
use Rattle.smk_rid.proofs.Owns.{own_is, own_at, own_more, one_back}
use Rattle.smk_rid.proofs.hold.code.are_own.Goals as goal

pub loop-i-preserved : goal.loop-i-preserved
loop-i-preserved g c =
    let codes = c.args.codes.now in
    let lists : List (List ℕ) = map one_of (map g.C.Code.number_of codes) in
    let i = c.loop-i.i in
    let n = c.number_at.result in
    let low : i < length lists = omega (arith, c.loop-i-test.true, length-map codes g.C.Code.number_of, length-map (map g.C.Code.number_of codes) one_of) in
    record {
      each = own_more lists i n c.loop-i.own c.number_at.ensures (omega (arith, c.loop-i-test.true, c.requires)) c.loop-i.invariant.each;
      all = λ own. and_from c.loop-i.own (eqb n i) (c.loop-i.invariant.all own) (eq-eqb n i (one_back n i (c.number_at.ensures ∙ own_at lists i low own)));
    }

pub returns : goal.returns
returns g c =
    let codes = c.args.codes.now in
    let lists : List (List ℕ) = map one_of (map g.C.Code.number_of codes) in
    let long : length lists ≡ length codes = omega (arith, length-map codes g.C.Code.number_of, length-map (map g.C.Code.number_of codes) one_of) in
    (λ t. own_is lists (λ k low. c.loop-i.invariant.each t k (omega (arith, low, long, c.loop-i-test.false))), c.loop-i.invariant.all)
