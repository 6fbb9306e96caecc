use Rattle.std.proofs.{Common.{◌≡◌, ◌∙◌, ◌≤◌, ◌<◌, ◌+◌, ◌-◌, ◌∷◌, ℕ, length, decimal, drop, ap, arith}, lemmas.Fmt.length-decimal-le, lemmas.List.drop-set}
use Rattle.smk_report.proofs.lines.put_number.Goals as goal

short : (n : ℕ) → n < 4294967296 → length (decimal n) ≤ 10
short n fits = length-decimal-le 10 n (omega arith) (omega (arith, fits)) (omega (arith, fits))

pub write_digits-start-requires : goal.write_digits-start-requires
write_digits-start-requires c = (omega (arith, short c.args.number c.ranges.number.fits, c.requires.fits), c.requires.within)

pub overflow_sub-room : goal.overflow_sub-room
overflow_sub-room c = omega (arith, short c.args.number c.ranges.number.fits, c.requires.fits, c.write_digits-start.ensures.start)

pub overflow_sub-result : goal.overflow_sub-result
overflow_sub-result c = omega (arith, short c.args.number c.ranges.number.fits, c.requires.fits, c.write_digits-start.ensures.start)

pub returns-clause-few : goal.returns-clause-few
returns-clause-few c = omega (arith, short c.args.number c.ranges.number.fits, c.requires.fits, c.write_digits-start.ensures.start)

pub returns-clause-bytes : goal.returns-clause-bytes
returns-clause-bytes c =
    let start = c.write_digits-start.result in
    let room = c.write_digits-start.new.buf in
    let ends = c.write_digits-start.ensures.start in
    let few = short c.args.number c.ranges.number.fits in
    let next : start - 1 + 1 ≡ start = omega (arith, few, c.requires.fits, ends) in
    drop-set room (start - 1) 32 (omega (arith, few, c.requires.fits, c.requires.within, ends, c.write_digits-start.auto.buf)) ∙ ap (λ l. 32 ∷ l) (ap (λ n. drop n room) next ∙ c.write_digits-start.ensures.written)
