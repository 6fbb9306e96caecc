use Rattle.std.proofs.Common.{arith, ◌≡◌, ◌∙◌, ◌<◌, [], ◌∷◌, List, ℕ, length, map, get_or, sym, subst}
use Rattle.std.specs.List.{All}
use Rattle.smk_rid.specs.Packing.{one_of}
use Rattle.smk_rid.proofs.Codes.{one_some}
use Rattle.smk_rid.proofs.hold.narrow.Narrow.at.Goals as goal

pub alone-requires-clause-within : goal.alone-requires-clause-within
alone-requires-clause-within g c =
    let rid = c.number_at-rid.result in
    let lists : List (List ℕ) = map one_of (map g.C.Code.number_of c.self.inside.codes.items) in
    let at : get_or lists c.args.i [] ≡ rid ∷ [] = sym (rw c.as_slice.ensures.value at c.number_at-rid.ensures) ∙ one_some rid c.if-rid.false in
    let low : c.args.i < length lists = subst (λ (z : List (List ℕ)). c.args.i < length z) (sym c.self.view_is) c.requires in
    let below : All (λ r. r < length c.self.inside.numbers.items) (get_or lists c.args.i []) = c.self.invariant.1 c.args.i [] low in
    omega (arith, subst (λ (z : List ℕ). All (λ r. r < length c.self.inside.numbers.items) z) at below 0 0 (omega arith), c.as_slice-else-rid.ensures.len)
