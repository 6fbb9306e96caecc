use Rattle.std.proofs.{Common.{◌≡◌, ◌+◌, ◌*◌, drop, get_or, sym, ◌∙◌, arith}, lemmas.List.at_drop_more}
use Rattle.std.specs.{Char.digit_value, Str.Parse.{digits_value, digits_value_after}}
use Rattle.smk_base.proofs.IntNumerals.{le-digits_value_after}
use Rattle.smk_base.proofs.read.read_digits.Goals as goal

pub returns-then-number-ge-LEAST_FULL-clause-none : goal.returns-then-number-ge-LEAST_FULL-clause-none
returns-then-number-ge-LEAST_FULL-clause-none c =
    let ds = c.args.digits.now in
    let i = c.loop-digit.digit-index in
    let next = c.loop-digit.number * 10 + digit_value (get_or ds i 0) in
    let whole : digits_value_after 10 next (drop (i + 1) ds) ≡ digits_value 10 ds =
    sym (at_drop_more (digits_value_after 10 c.loop-digit.number) ds i 0 c.loop-digit-test.true) ∙ c.loop-digit.invariant.0 in
    λ _. omega (arith, whole, le-digits_value_after next (drop (i + 1) ds), c.if-number-ge-LEAST_FULL.true)
