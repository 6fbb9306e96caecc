use Rattle.std.proofs.{Common.{arith, ◌≡◌, ◌∙◌, ◌<◌, ◌≤◌, set, [], ℕ, List, length, map, ap}, lemmas.List.{length-map, length-set}}
use Rattle.std.specs.List.{All}
use Rattle.smk_base.specs.Places.{Lists, pairs_of, list_at}
use Rattle.smk_rid.specs.{Maps.with_rid_at, Packing.one_of}
use Rattle.smk_rid.proofs.{Arrays.{ones-set, pairs_single, single-ones_of}, Joins.{IsMap-add, pairs-add}}
use Rattle.smk_rid.proofs.fill.marks.RidMarks.set.Goals as goal

pub invariant_of-self : goal.invariant_of-self
invariant_of-self c =
    let rids = c.self.inside.rids.items in
    let bound = c.self.inside.bound in
    let i = c.args.i in
    let rid = c.args.rid in
    let m : Lists = record { lists = map one_of rids; bound = bound } in
    let is : m ≡ c.args.self.now = c.self.view_is in
    let low : i < length m.lists = omega (arith, c.requires.place, ap (λ (z : Lists). length z.lists) is) in
    let below : rid < bound = omega (arith, c.requires.below, ap (λ (z : Lists). z.bound) is) in
    let free : list_at m i ≡ [] = ap (λ (z : Lists). list_at z i) is ∙ c.requires.free in
    let same = ones-set rids bound i rid below c.self.ranges.1.0.1 free in
    let added = pairs-add m i rid low in
    let most : pairs_of (map one_of (set rids i rid)) ≤ length (map one_of (set rids i rid)) = pairs_single (map one_of (set rids i rid)) (single-ones_of (set rids i rid)) in
    let few : pairs_of m.lists < 16777216 = omega (arith, added, most, ap pairs_of same, length-map (set rids i rid) one_of, length-set rids i rid, c.self.invariant.1) in
    let above : All (λ r. r < rid) (list_at m i) = rw free (λ k d l. absurd (omega arith)) in (
      rw same (record {
        map = IsMap-add m i rid c.self.invariant.0.map low below above few;
        counted = omega (arith, c.self.invariant.0.counted, added);
      }),
      omega (arith, length-set rids i rid, c.self.invariant.1),
    )

pub returns : goal.returns
returns c =
    let rids = c.self.inside.rids.items in
    let bound = c.self.inside.bound in
    let i = c.args.i in
    let rid = c.args.rid in
    let m : Lists = record { lists = map one_of rids; bound = bound } in
    let is : m ≡ c.args.self.now = c.self.view_is in
    let below : rid < bound = omega (arith, c.requires.below, ap (λ (z : Lists). z.bound) is) in
    let free : list_at m i ≡ [] = ap (λ (z : Lists). list_at z i) is ∙ c.requires.free in
    ap (λ (l : List (List ℕ)). let n : Lists = record { lists = l; bound = bound } in n) (ones-set rids bound i rid below c.self.ranges.1.0.1 free) ∙ ap (λ (z : Lists). with_rid_at z i rid) is
