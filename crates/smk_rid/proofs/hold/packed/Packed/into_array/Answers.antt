use Rattle.std.proofs.{Common.{arith, ◌≡◌, ◌∙◌, ◌<◌, ◌+◌, [], length, take, map, get_or, ap, subst, inl, inr}, lemmas.Bool.cases_eq, lemmas.List.{get_or_read, get_or-set_same, get_or-set_other, length-set}}
use Rattle.smk_rid.specs.Packing.{one_of, IsPacking}
use Rattle.smk_rid.proofs.Packs.{end_at, first_is, array_is}
use Rattle.smk_rid.proofs.hold.packed.Packed.into_array.Goals as goal

pub first_between-requires : goal.first_between-requires
first_between-requires c =
    let s = c.self.inside.starts.items in
    let r = c.self.inside.rids.items in
    let kept : IsPacking s r c.args.self = subst (IsPacking s r) c.self.view_is c.self.invariant in
    let low : c.loop-i.i < length c.args.self = omega (arith, kept.size) in
    let n : length c.loop-i.starts.items ≡ length s = c.loop-i.invariant.len in
    let e2 = get_or_read c.loop-i.starts.items (c.loop-i.i + 1) c.index-in-loop-i.result.now (omega (arith, n, kept.size)) c.index-in-loop-i.ensures 0 in
    omega (arith, e2, c.loop-i.invariant.left (c.loop-i.i + 1) (omega arith), ap length c.as_slice.ensures.value, end_at s r c.args.self (c.loop-i.i + 1) kept (omega arith))

pub loop-i-preserved : goal.loop-i-preserved
loop-i-preserved c =
    let s = c.self.inside.starts.items in
    let r = c.self.inside.rids.items in
    let kept : IsPacking s r c.args.self = subst (IsPacking s r) c.self.view_is c.self.invariant in
    let q = c.loop-i.starts.items in
    let i = c.loop-i.i in
    let v = c.first_between.result in
    let n : length q ≡ length s = c.loop-i.invariant.len in
    let low : i < length c.args.self = omega (arith, kept.size) in
    let lowq : i < length q = omega (arith, n, low, kept.size) in
    let e : c.index.result.now ≡ get_or s i 0 = get_or_read q i c.index.result.now lowq c.index.ensures 0 ∙ c.loop-i.invariant.left i (omega arith) in
    let e2 : c.index-in-loop-i.result.now ≡ get_or s (i + 1) 0 = get_or_read q (i + 1) c.index-in-loop-i.result.now (omega (arith, n, kept.size)) c.index-in-loop-i.ensures 0 ∙ c.loop-i.invariant.left (i + 1) (omega arith) in
    let is : one_of v ≡ get_or c.args.self i [] = ap one_of (rw (e, e2, c.as_slice.ensures.value) at c.first_between.ensures) ∙ first_is s r c.args.self i kept c.requires.single c.requires.below low in
    record {
      len = length-set q i v ∙ n;
      done = λ k h. elim (cases_eq k i) [
        | inl same ↦ rw same (ap one_of (get_or-set_same q i v 0 lowq) ∙ is)
        | inr other ↦ ap one_of (get_or-set_other q i k v 0 other) ∙ c.loop-i.invariant.done k (omega arith)
      ];
      left = λ k h. get_or-set_other q i k v 0 (λ same. absurd (omega arith)) ∙ c.loop-i.invariant.left k (omega arith);
    }

pub returns : goal.returns
returns c =
    let s = c.self.inside.starts.items in
    let r = c.self.inside.rids.items in
    let kept : IsPacking s r c.args.self = subst (IsPacking s r) c.self.view_is c.self.invariant in
    let q = c.loop-i.starts.items in
    let n : length q ≡ length s = c.loop-i.invariant.len in
    let cut_off : c.pop.new.self.items ≡ take (length c.args.self) q = c.pop.ensures.rest ∙ ap (λ k. take k q) (omega (arith, n, kept.size, c.loop-i.starts.ok.0)) in
    c.of.ensures ∙ ap (map one_of) cut_off ∙ array_is q c.args.self (omega (arith, n, kept.size)) (λ k low. c.loop-i.invariant.done k (omega (arith, n, low, kept.size)))
