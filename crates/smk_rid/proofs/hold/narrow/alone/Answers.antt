use Rattle.smk_rid.proofs.Codes.{upto_alone}
use Rattle.smk_rid.proofs.hold.narrow.alone.Goals as goal

pub returns : goal.returns
returns c = upto_alone c.args.numbers.now c.args.rid c.requires.all c.requires.within
