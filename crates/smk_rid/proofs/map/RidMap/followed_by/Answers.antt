use Rattle.std.proofs.Common.{arith, ◌≡◌, ap}
use Rattle.smk_base.specs.Places.{pairs_of, followed}
use Rattle.smk_rid.specs.Maps.{IsSingle}
use Rattle.smk_rid.proofs.Following.{below_moved, IsMap-followed, pairs_followed, single-followed}
use Rattle.smk_rid.proofs.map.RidMap.followed_by.Goals as goal

pub followed_arrays-requires-clause-below : goal.followed_arrays-requires-clause-below
followed_arrays-requires-clause-below c =
    let b = c.args.other.now in
    rw (c.bound-by.ensures, c.in-Some-Some.ensures'.lists) (below_moved c.args.self.now.bound b.bound 4294967295 b.lists (omega arith) c.pairs-2.ensures.keeps.sets)

pub of_array-requires-clause-map : goal.of_array-requires-clause-map
of_array-requires-clause-map c =
    let a = c.args.self.now in
    let b = c.args.other.now in
    let lists : c.in_ok-lists-in-Some-Some.lists ≡ (followed a b).lists = rw (c.in-Some-Some.ensures.lists, c.in-Some-Some.ensures'.lists, c.bound-by.ensures) at c.in_ok-lists-in-Some-Some.ensures in
    rw (lists, c.bound-by.ensures, c.bound.ensures) (IsMap-followed a b c.pairs.ensures.keeps c.pairs-2.ensures.keeps c.requires.lists c.requires.few)

pub of_array-requires-clause-single : goal.of_array-requires-clause-single
of_array-requires-clause-single c =
    let a = c.args.self.now in
    let b = c.args.other.now in
    let lists : c.in_ok-lists-in-Some-Some.lists ≡ (followed a b).lists = rw (c.in-Some-Some.ensures.lists, c.in-Some-Some.ensures'.lists, c.bound-by.ensures) at c.in_ok-lists-in-Some-Some.ensures in
    let first : IsSingle a.lists = rw c.in-Some-Some.ensures.lists at c.in-Some-Some.ensures.single in
    let second : IsSingle b.lists = rw c.in-Some-Some.ensures'.lists at c.in-Some-Some.ensures'.single in
    rw lists (single-followed a b first second)

pub of_packed-requires : goal.of_packed-requires
of_packed-requires c =
    let a = c.args.self.now in
    let b = c.args.other.now in
    rw (c.in_ok-lists-in_default.ensures, c.bound-by.ensures, c.bound.ensures) (IsMap-followed a b c.pairs.ensures.keeps c.pairs-2.ensures.keeps c.requires.lists c.requires.few)

pub of_array-requires-clause-pairs : goal.of_array-requires-clause-pairs
of_array-requires-clause-pairs c =
    let a = c.args.self.now in
    let b = c.args.other.now in
    let lists : c.in_ok-lists-in-Some-Some.lists ≡ (followed a b).lists = rw (c.in-Some-Some.ensures.lists, c.in-Some-Some.ensures'.lists, c.bound-by.ensures) at c.in_ok-lists-in-Some-Some.ensures in
    omega (arith, c.pairs.ensures.counted, c.pairs-2.ensures.counted, pairs_followed a b, ap pairs_of lists)
