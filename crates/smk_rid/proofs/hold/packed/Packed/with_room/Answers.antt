use Rattle.std.proofs.Common.{◌≡◌, ◌∙◌, ◌++◌, ◌∷◌, [], ℕ, List, ap}
use Rattle.smk_rid.proofs.Packs.{cut_is, packing_none}
use Rattle.smk_rid.proofs.hold.packed.Packed.with_room.Goals as goal

pub invariant_of-result : goal.invariant_of-result
invariant_of-result c =
    let starts : c.push_reserved.new.self.items ≡ 0 ∷ [] = c.push_reserved.ensures.items ∙ ap (λ (starts : List ℕ). starts ++ 0 ∷ []) c.in_ok-starts.ensures.items in
    let rids : c.in_ok-rids.rids.items ≡ [] = c.in_ok-rids.ensures.items in
    rw (starts, rids, cut_is (0 ∷ []) [] [] packing_none) packing_none

pub returns : goal.returns
returns c =
    let starts : c.push_reserved.new.self.items ≡ 0 ∷ [] = c.push_reserved.ensures.items ∙ ap (λ (starts : List ℕ). starts ++ 0 ∷ []) c.in_ok-starts.ensures.items in
    let rids : c.in_ok-rids.rids.items ≡ [] = c.in_ok-rids.ensures.items in
    rw (starts, rids) (cut_is (0 ∷ []) [] [] packing_none)
