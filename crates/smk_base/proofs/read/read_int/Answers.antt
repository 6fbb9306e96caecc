use Rattle.std.proofs.{Common.{◌≡◌, ◌∙◌, sym, ap, Some, to_z, of_z, w64}, Math.Facts.to_z-of_z}
use Rattle.smk_base.proofs.IntNumerals.{int_of-numeral, IsIntText-int_of, some_says, none_says}
use Rattle.smk_base.proofs.read.read_int.Goals as goal

pub returns-in-Some-clause-value : goal.returns-in-Some-clause-value
returns-in-Some-clause-value c =
    let is = int_of-numeral c.args.bytes.now c.in-Some.number (sym c.read_numeral.ensures ∙ c.in-Some.is) in
    let same : to_z w64 (of_z w64 c.in-Some.number) ≡ c.in-Some.number = to_z-of_z (IsIntText-int_of c.args.bytes.now c.in-Some.number is).small in
    ap Some same ∙ sym is

pub returns-in-Some-clause-some : goal.returns-in-Some-clause-some
returns-in-Some-clause-some c = some_says _ _ (returns-in-Some-clause-value c)

pub returns-in-None-clause-some : goal.returns-in-None-clause-some
returns-in-None-clause-some c = some_says _ _ c.read_among_blanks.ensures

pub returns-in-None-clause-none : goal.returns-in-None-clause-none
returns-in-None-clause-none c = none_says _ _ c.read_among_blanks.ensures
