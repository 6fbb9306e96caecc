use Rattle.std.proofs.Common.{sym}
use Rattle.smk_rid.proofs.Codes.{at_code}
use Rattle.smk_rid.proofs.hold.code.number_at.Goals as goal

pub returns : goal.returns
returns g c = sym (at_code g.C.Code.number_of c.args.codes.now c.args.i c.index-codes-i.result c.number.result c.requires c.index-codes-i.is c.number.ensures)
