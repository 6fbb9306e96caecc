use Rattle.std.proofs.{Common.{arith, ◌≡◌, ◌∙◌, ◌<◌, [], ◌∷◌, ℕ, List, length, get_or, map, sym}, lemmas.List.append-nil}
use Rattle.smk_rid.specs.Packing.{one_of}
use Rattle.smk_rid.proofs.{Codes.{at_code, one_none, one_some, put_more}, hold.code.put_at.Goals.{then-rid, else-rid}}
use Rattle.smk_rid.proofs.hold.code.put_at.Goals as goal

pub loop-p-preserved : goal.loop-p-preserved
loop-p-preserved g c =
    let rid = c.number-rid.result in
    let p = get_or c.args.places.now c.loop-p.p-index 0 in
    let f : ℕ → List ℕ = λ p. get_or (map one_of (map g.C.Code.number_of c.args.codes.now)) p [] in
    let low : p < length c.args.codes.now = c.requires.within c.loop-p.p-index 0 c.loop-p-test.true in
    let at : f p ≡ one_of rid = at_code g.C.Code.number_of c.args.codes.now p c.index-codes-p.result rid low c.index-codes-p.is c.number-rid.ensures in
    let more = put_more f c.args.places.now c.loop-p.p-index c.args.rids.now.items c.loop-p.rids.items c.if-rid.rids.items in
    elim c.if-rid.branch [
      | then-rid w ↦ record {
        items = more (rid ∷ []) c.loop-p-test.true (at ∙ one_some rid w.if-rid.true) c.loop-p.invariant.items (rw w.rids-is w.push_reserved.ensures.items);
        room = rw w.rids-is (omega (arith, w.push_reserved.ensures.capacity, w.push_reserved.ensures.len, c.loop-p.invariant.room));
      }
      | else-rid w ↦ record {
        items = more [] c.loop-p-test.true (at ∙ one_none rid w.if-rid.false) c.loop-p.invariant.items (rw w.rids-is (sym (append-nil c.loop-p.rids.items)));
        room = rw w.rids-is (omega (arith, c.loop-p.invariant.room));
      }
    ]
