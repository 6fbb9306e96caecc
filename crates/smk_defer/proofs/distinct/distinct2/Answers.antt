use Rattle.smk_defer.proofs.Partnered.{right_fit}
use Rattle.smk_defer.proofs.distinct.distinct2.Goals as goal

pub right_keys-requires : goal.right_keys-requires
right_keys-requires c =
    let fits = rw c.in-Join.is at c.requires.fits in
    rw c.as_slice.ensures (right_fit c.args.left.now.kinds c.args.right.now.kinds _ fits.each)
