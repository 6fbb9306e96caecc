use Rattle.std.proofs.{Common.{rules, ◌≡◌, ◌∙◌, ◌<◌, length, get_or, sym, ap, pos, to_z, of_z, w64, arith, ◌+ℤ◌}, lemmas.Bool.ltb-true, lemmas.Int.ints}
use Rattle.std.specs.{Prelude.◌≤ℤ◌, Int.int_div_euclid}
use Rattle.smk_base.proofs.Bins.{above-is}
use Rattle.smk_base.proofs.rel.value_column.bin_among.Goals as goal

pub returns-in-Some : goal.returns-in-Some
returns-in-Some c =
    let far = c.abs_diff.result in
    let least : to_z w64 (of_z w64 c.args.least) ≡ c.args.least = search rules in
    let number : to_z w64 (of_z w64 c.args.number) ≡ c.args.number = search rules in
    let bin : to_z w64 (of_z w64 c.in-Some.bin.now) ≡ c.in-Some.bin.now = search rules in
    let rising : c.args.least ≤ℤ c.args.number = omega (arith, ints, least, number) in
    let apart = rw (least, number) at c.abs_diff.ensures in
    let at : c.args.least +ℤ pos far ≡ c.args.number = ap (λ n. c.args.least +ℤ pos n) apart ∙ above-is c.args.least c.args.number rising in
    let less : far < length c.args.bins.now = ltb-true far _ (sym c.in-Some.ensures.lookup.0) in
    let found : c.in-Some.bin.now ≡ get_or c.args.bins.now far (pos 0) = search rules in
    bin ∙ found ∙ c.requires.bins far less ∙ ap (λ n. int_div_euclid n c.args.width) at
