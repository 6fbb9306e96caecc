use Rattle.std.proofs.Common.{arith, ◌≡◌, ◌∙◌, ◌∷◌, ℕ, [], List, map, sym, ap}
use Rattle.smk_base.specs.Places.{Lists, upto}
use Rattle.smk_rid.specs.Packing.{one_of}
use Rattle.smk_rid.proofs.Arrays.{ones-upto, pairs-own, IsMap-own_lists, single-own}
use Rattle.smk_rid.proofs.map.RidMap.identity.Goals as goal

pub of_array-requires-clause-map : goal.of_array-requires-clause-map
of_array-requires-clause-map c =
    let lists : c.of.result ≡ map (λ i. i ∷ []) (upto c.args.len) = c.of.ensures ∙ ap (map one_of) c.in_ok-rids.ensures ∙ ones-upto c.args.len (omega arith) in
    rw lists (IsMap-own_lists c.args.len c.requires)

pub of_array-requires-clause-single : goal.of_array-requires-clause-single
of_array-requires-clause-single c =
    let lists : c.of.result ≡ map (λ i. i ∷ []) (upto c.args.len) = c.of.ensures ∙ ap (map one_of) c.in_ok-rids.ensures ∙ ones-upto c.args.len (omega arith) in
    rw lists (single-own c.args.len)

pub of_array-requires-clause-pairs : goal.of_array-requires-clause-pairs
of_array-requires-clause-pairs c =
    let lists : c.of.result ≡ map (λ i. i ∷ []) (upto c.args.len) = c.of.ensures ∙ ap (map one_of) c.in_ok-rids.ensures ∙ ones-upto c.args.len (omega arith) in
    rw lists (sym (pairs-own c.args.len))

pub returns : goal.returns
returns c =
    let lists : c.of.result ≡ map (λ i. i ∷ []) (upto c.args.len) = c.of.ensures ∙ ap (map one_of) c.in_ok-rids.ensures ∙ ones-upto c.args.len (omega arith) in
    c.of_array.ensures ∙ ap (λ (l : List (List ℕ)). let m : Lists = record { lists = l; bound = c.args.len } in m) lists
