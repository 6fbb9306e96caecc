use Rattle.std.proofs.{Common.{◌≡◌, ◌∙◌, ◌<◌, ◌++◌, ◌∷◌, [], List, length, get_or, Ok, IfOk, ap, sym, subst, arith, inl, inr}, lemmas.List.{length_push, length-append, append-nil}, lemmas.List.Concat.flat_map-append, lemmas.List.Elements.All-push, lemmas.Iterator.Consumers.YieldsList-turn, lemmas.Iterator.Adapters.YieldsList-from_vec}
use Rattle.smk_base.specs.{declared.value.Value.Value, Rels.{Relation, IsRelation}}
use Rattle.smk_model.specs.Tables.{declared_kinds}
use Rattle.smk_table.specs.{Pieces.Gives, Joined.end_to_end}
use Rattle.smk_table.proofs.Joins.{join_step, join_fault}
use Rattle.smk_table.proofs.joining.join_parts.Goals as goal

pub loop-part-preserved : goal.loop-part-preserved
loop-part-preserved g c =
    let cols = c.args.cols.now in
    let n = length c.loop-part.yielded in
    let parts = c.args.parts.items in
    let part = c.in-Some.part in
    let rel = c.in-Ok.rel in
    let all = c.loop-part.all.items in
    let inv = c.loop-part.invariant in
    let given_items = c.into_iter-part-iterator.ensures.into_iter_gives in
    let turn = YieldsList-turn (YieldsList-from_vec {s = c.into_iter-part-iterator.result} parts given_items.0 (omega (arith, given_items.1, c.args.parts.ok))) c.loop-part.yielded c.loop-part.part-iterator c.loop-part.yielded_by c.next.result c.next.new.self part c.in-Some.is c.next.ensures.steps in
    let more : (end_to_end (all ++ rel ∷ [])).rows ≡ (end_to_end all).rows ++ rel.rows = flat_map-append (λ (part : Relation). part.rows) all (rel ∷ []) ∙ ap (λ (z : List (List Value)). (end_to_end all).rows ++ z) (append-nil rel.rows) in
    let kinds : rel.kinds ≡ declared_kinds cols = subst (λ r. IfOk r (λ (rel : Relation). rel.kinds ≡ declared_kinds cols)) (sym turn.1 ∙ c.in-Ok.ensures.same) (c.requires.parts n part turn.0) in
    let put : c.push_reserved.new.self.items ≡ all ++ rel ∷ [] = c.push_reserved.ensures.items ∙ ap (λ (r : Relation). all ++ r ∷ []) c.in_ok-shared-in-Ok.ensures in
    rw (put, length_push c.loop-part.yielded part) record {
      kinds = All-push (λ rel. rel.kinds ≡ declared_kinds cols) all rel inv.kinds kinds;
      relations = All-push IsRelation all rel inv.relations c.len-in-Ok.ensures.keeps;
      count = omega (arith, ap length more, length-append (end_to_end all).rows rel.rows, inv.count, c.len-in-Ok.ensures.count);
      few = omega (arith, c.in-Ok.ensures.few, c.len-in-Ok.ensures.count);
      behind = λ read given.
          let long = given.all in
          let inside : n < length read = omega (arith, turn.0, long) in
          let here = subst (Gives cols (get_or read n (Ok []))) (sym turn.1) (given.each n (Ok []) part inside) in
          let gives = (c.in-Ok.ensures.gives cols (get_or read n (Ok [])) here).0 in
          rw more (join_step read n (end_to_end all).rows rel.rows inside (inv.behind read given) (rw inv.count gives));
      len = omega (arith, c.push_reserved.ensures.len, inv.len);
      room = omega (arith, c.push_reserved.ensures.capacity, inv.room);
    }

pub returns-in-Err : goal.returns-in-Err
returns-in-Err g c read given =
    let cols = c.args.cols.now in
    let n = length c.loop-part.yielded in
    let inv = c.loop-part.invariant in
    let given_items = c.into_iter-part-iterator.ensures.into_iter_gives in
    let turn = YieldsList-turn (YieldsList-from_vec {s = c.into_iter-part-iterator.result} c.args.parts.items given_items.0 (omega (arith, given_items.1, c.args.parts.ok))) c.loop-part.yielded c.loop-part.part-iterator c.loop-part.yielded_by c.next.result c.next.new.self c.in-Some.part c.in-Some.is c.next.ensures.steps in
    let long = given.all in
    let inside : n < length read = omega (arith, turn.0, long) in
    let here = subst (Gives cols (get_or read n (Ok []))) (sym turn.1) (given.each n (Ok []) c.in-Some.part inside) in
    elim (c.in-Err.ensures.gives cols (get_or read n (Ok [])) here) [
      | inl memory ↦ inl memory
      | inr fault ↦ inr (join_fault read n (end_to_end c.loop-part.all.items).rows _ inside (inv.behind read given) (rw inv.count fault))
    ]
