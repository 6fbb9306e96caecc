use Rattle.std.proofs.{Common.{arith, ◌≡◌, ◌∙◌, ◌+◌, ◌-◌, ◌++◌, ℕ, List, map, ap}, Math.ListN.replicate, lemmas.List.{map-append, take_all}}
use Rattle.std.specs.Prelude.{vec_len}
use Rattle.smk_rid.specs.Packing.{one_of}
use Rattle.smk_rid.proofs.Arrays.{ones-replicate}
use Rattle.smk_rid.proofs.hold.array.put_none.Goals as goal

pub returns-clause-numbers : goal.returns-clause-numbers
returns-clause-numbers c =
    let numbers = c.args.numbers.now.items in
    let count : (c.len.result + c.args.len) - vec_len c.reserve.new.self ≡ c.args.len = omega arith in
    let is : c.resize.new.self.items ≡ numbers ++ replicate c.args.len 4294967295 = rw (take_all (c.len.result + c.args.len) c.reserve.new.self.items (omega arith), count, c.in_ok-reserve.ensures.items) at c.in_ok-resize.ensures.items in
    ap (map one_of) is ∙ map-append one_of numbers (replicate c.args.len 4294967295) ∙ ap (λ (z : List (List ℕ)). map one_of numbers ++ z) (ones-replicate c.args.len)
