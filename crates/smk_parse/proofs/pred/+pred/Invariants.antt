use Rattle.std.proofs.Common.{◌≡◌, ◌+◌, ◌-◌, ◌*◌, length}
use Rattle.smk_base.specs.declared.book.limits.TheConstants.{DEPTH_LIMIT}
use Rattle.smk_parse.specs.Vocabulary.{pred_image, AnAnds, AnOrs, AConj, APred, reads}
use Rattle.smk_parse.proofs.pred.+pred.Given as goal

abbrev pub decreases-prim : goal.decreases-prim
decreases-prim l = (DEPTH_LIMIT - l.depth) * 4

abbrev pub decreases-conj : goal.decreases-conj
decreases-conj l = (DEPTH_LIMIT - l.depth) * 4 + 1

abbrev pub decreases-pred : goal.decreases-pred
decreases-pred l = (DEPTH_LIMIT - l.depth) * 4 + 2

abbrev pub invariant-conj-ands : goal.invariant-conj-ands
invariant-conj-ands l = reads (AConj l.depth) l.fn.reader ≡ reads (AnAnds l.depth (pred_image l.left.value)) l.reader

abbrev pub decreases-conj-ands : goal.decreases-conj-ands
decreases-conj-ands l = length l.reader.rest

abbrev pub invariant-pred-ors : goal.invariant-pred-ors
invariant-pred-ors l = reads (APred l.depth) l.fn.reader ≡ reads (AnOrs l.depth (pred_image l.left.value)) l.reader

abbrev pub decreases-pred-ors : goal.decreases-pred-ors
decreases-pred-ors l = length l.reader.rest
