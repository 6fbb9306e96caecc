use Rattle.std.proofs.{Common.{◌<◌, Vec, Global, ℕ, length, ap, ◌∙◌, arith, subst}, lemmas.Result.IfOk-weaker}
use Rattle.std.specs.List.{AllZip, range_with_len}
use Rattle.smk_base.proofs.Places.{length_upto, get_or_upto, upto_range}
use Rattle.smk_report.specs.PieceTexts.{IsPiece, number_in}
use Rattle.smk_report.proofs.pieces.piece_texts.Goals as goal

pub each_or_first-requires-clause-jobs : goal.each_or_first-requires-clause-jobs
each_or_first-requires-clause-jobs g c κs within =
    let are = c.in_ok-places.ensures in
    let count = c.args.count in
    λ k d below.
    let low : k < count = omega (arith, below, ap length are, length_upto count) in
    (c.requires.rids, c.requires.few, rw are (omega (arith, low, get_or_upto count k d low)))

pub returns : goal.returns
returns g c =
    let count = c.args.count in
    let IsAt = λ (p : ℕ) (text : Vec ℕ Global). IsPiece (number_in c.args.rids) c.args.rel.now.rows count p text.items in
    IfOk-weaker c.each_or_first.result (λ made. AllZip IsAt c.in_ok-places.places.items made.items) (λ made. AllZip IsAt (range_with_len 0 count) made.items) (λ made zip. subst (λ places. AllZip IsAt places made.items) (c.in_ok-places.ensures ∙ upto_range count) zip) c.each_or_first.ensures.all
