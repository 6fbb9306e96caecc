use Rattle.std.proofs.Common.{◌++◌, ap, ◌∙◌}
use Rattle.smk_own.proofs.OwnReads.{blanks_in_place}
use Rattle.smk_own.proofs.reading.in_place.Goals as goal

pub returns : goal.returns
returns c = c.in_ok-extend_from_slice.ensures.items ∙ ap (λ bs. bs ++ c.args.rest.now) (c.in_ok-line.ensures.items_if_clones_equal (λ y e. e)) ∙ blanks_in_place c.args.text.now c.args.rest.now
