use Rattle.std.proofs.{Common.{arith, ◌≡◌, ◌∙◌, ℕ, [], List, length, map, sym, ap}, lemmas.List.length-replicate, Math.ListN.replicate}
use Rattle.smk_base.specs.Places.{Lists}
use Rattle.smk_rid.specs.Packing.{one_of}
use Rattle.smk_rid.proofs.Arrays.{ones-replicate, pairs-replicate, IsMap-empty_lists}
use Rattle.smk_rid.proofs.fill.marks.RidMarks.new.Goals as goal

pub invariant_of-result : goal.invariant_of-result
invariant_of-result c =
    let lists : map one_of c.in_ok-rids.rids.items ≡ replicate c.args.len [] = ap (map one_of) (c.in_ok-rids.ensures.items_if_clones_equal (λ y e. e)) ∙ ones-replicate c.args.len in (
      rw lists (record { map = IsMap-empty_lists c.args.len c.args.bound c.ranges.len.fits; counted = sym (pairs-replicate c.args.len) }),
      omega (arith, ap length (c.in_ok-rids.ensures.items_if_clones_equal (λ y e. e)), length-replicate {A = ℕ} c.args.len 4294967295, c.requires),
    )

pub returns : goal.returns
returns c =
    let lists : map one_of c.in_ok-rids.rids.items ≡ replicate c.args.len [] = ap (map one_of) (c.in_ok-rids.ensures.items_if_clones_equal (λ y e. e)) ∙ ones-replicate c.args.len in
    ap (λ (l : List (List ℕ)). let m : Lists = record { lists = l; bound = c.args.bound } in m) lists
