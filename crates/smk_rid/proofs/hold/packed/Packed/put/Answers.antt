use Rattle.std.proofs.Common.{arith, ◌∙◌, ℕ, List, ◌++◌, ◌∷◌, [], ap, subst}
use Rattle.smk_rid.specs.Packing.{IsPacking}
use Rattle.smk_rid.proofs.Packs.{packed_put}
use Rattle.smk_rid.proofs.hold.packed.Packed.put.Goals as goal

pub invariant_of-self-2 : goal.invariant_of-self-2
invariant_of-self-2 c =
    let s = c.self.inside.starts.items in
    let r = c.self.inside.rids.items in
    (packed_put s r c.args.self.now c.args.list.now c.push_reserved.new.self.items c.extend_from_slice.new.self.items c.len-end.result (subst (IsPacking s r) c.self.view_is c.self.invariant) (c.push_reserved.ensures.items ∙ ap (λ (starts : List ℕ). starts ++ c.len-end.result ∷ []) c.in_ok-reserve.ensures.items) c.in_ok-extend_from_slice.ensures.items (omega (arith, c.len-end.ensures, c.extend_from_slice.new.self.ok.0)) c.requires).0

pub returns : goal.returns
returns c =
    let s = c.self.inside.starts.items in
    let r = c.self.inside.rids.items in
    record { put = (packed_put s r c.args.self.now c.args.list.now c.push_reserved.new.self.items c.extend_from_slice.new.self.items c.len-end.result (subst (IsPacking s r) c.self.view_is c.self.invariant) (c.push_reserved.ensures.items ∙ ap (λ (starts : List ℕ). starts ++ c.len-end.result ∷ []) c.in_ok-reserve.ensures.items) c.in_ok-extend_from_slice.ensures.items (omega (arith, c.len-end.ensures, c.extend_from_slice.new.self.ok.0)) c.requires).1 }
