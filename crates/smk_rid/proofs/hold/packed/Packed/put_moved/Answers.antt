use Rattle.std.proofs.{Common.{arith, ◌∙◌, ℕ, List, ◌+◌, ◌++◌, ◌∷◌, [], map, ap, subst}, lemmas.List.length-map}
use Rattle.smk_rid.specs.Packing.{IsPacking}
use Rattle.smk_rid.proofs.Packs.{packed_put}
use Rattle.smk_rid.proofs.hold.packed.Packed.put_moved.Goals as goal

pub invariant_of-self-2 : goal.invariant_of-self-2
invariant_of-self-2 c =
    let s = c.self.inside.starts.items in
    let r = c.self.inside.rids.items in
    let list = map (λ i. c.args.by + i) c.args.list.now in
    (packed_put s r c.args.self.now list c.push_reserved.new.self.items c.push_moved.new.rids.items c.len-end.result (subst (IsPacking s r) c.self.view_is c.self.invariant) (c.push_reserved.ensures.items ∙ ap (λ (starts : List ℕ). starts ++ c.len-end.result ∷ []) c.in_ok-reserve.ensures.items) (c.push_moved.ensures ∙ ap (λ (rids : List ℕ). rids ++ list) c.in_ok-reserve-2.ensures.items) (omega (arith, c.len-end.ensures, c.push_moved.new.rids.ok.0)) (omega (arith, c.requires.few, length-map c.args.list.now (λ i. c.args.by + i)))).0

pub returns : goal.returns
returns c =
    let s = c.self.inside.starts.items in
    let r = c.self.inside.rids.items in
    let list = map (λ i. c.args.by + i) c.args.list.now in
    record { put = (packed_put s r c.args.self.now list c.push_reserved.new.self.items c.push_moved.new.rids.items c.len-end.result (subst (IsPacking s r) c.self.view_is c.self.invariant) (c.push_reserved.ensures.items ∙ ap (λ (starts : List ℕ). starts ++ c.len-end.result ∷ []) c.in_ok-reserve.ensures.items) (c.push_moved.ensures ∙ ap (λ (rids : List ℕ). rids ++ list) c.in_ok-reserve-2.ensures.items) (omega (arith, c.len-end.ensures, c.push_moved.new.rids.ok.0)) (omega (arith, c.requires.few, length-map c.args.list.now (λ i. c.args.by + i)))).1 }
