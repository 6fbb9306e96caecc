use Rattle.std.proofs.Common.{◌≡◌, ◌<◌, [], ◌∷◌, ℕ, length, map, get_or}
use Rattle.std.specs.Prelude.{IsTrue}
use Rattle.smk_base.specs.Places.{upto}
use Rattle.smk_rid.specs.Packing.{one_of}
use Rattle.smk_rid.proofs.hold.code.are_own.Given as goal

abbrev pub invariant-loop-i : goal.invariant-loop-i
invariant-loop-i g l = record {
  each : IsTrue l.own → (k : ℕ) → k < l.i → get_or (map one_of (map g.C.Code.number_of l.codes)) k [] ≡ k ∷ [];
  all : map one_of (map g.C.Code.number_of l.codes) ≡ map (λ i. i ∷ []) (upto (length (map one_of (map g.C.Code.number_of l.codes)))) → IsTrue l.own;
}
