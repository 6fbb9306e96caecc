use Rattle.std.proofs.Common.{◌+◌, get_or, length}
use Rattle.smk_keys.specs.Orders.{IsInOrder}
use Rattle.smk_jobs.specs.Cuts.{cut_at}
use Rattle.smk_body.specs.Rises.{codes_of}
use Rattle.smk_body.proofs.find.by_text.classes_by_rises.Given as goal

-- the places where texts come first, up to where the next part begins
abbrev pub invariant-loop-p : goal.invariant-loop-p
invariant-loop-p l = IsInOrder (codes_of l.rel.rows l.c) l.firsts.items (cut_at l.workers (length l.rel.rows) l.p)

-- up to the next rise of the part
abbrev pub invariant-loop-place : goal.invariant-loop-place
invariant-loop-place l = IsInOrder (codes_of l.rel.rows l.c) l.firsts.items (get_or l.rises l.place-index (cut_at l.workers (length l.rel.rows) (l.p + 1)))
