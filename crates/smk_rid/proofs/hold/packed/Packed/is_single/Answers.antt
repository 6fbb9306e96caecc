use Rattle.std.proofs.{Common.{arith, ◌<◌, ◌+◌, [], length, subst}, lemmas.Bool.false≢true, lemmas.List.get_or_read}
use Rattle.smk_rid.specs.Packing.{IsPacking}
use Rattle.smk_rid.proofs.Packs.{length_at}
use Rattle.smk_rid.proofs.hold.packed.Packed.is_single.Goals as goal

pub overflow_sub-index : goal.overflow_sub-index
overflow_sub-index c =
    let s = c.self.inside.starts.items in
    let r = c.self.inside.rids.items in
    let kept : IsPacking s r c.args.self.now = subst (IsPacking s r) c.self.view_is c.self.invariant in
    let low : c.loop-i.i < length c.args.self.now = omega (arith, kept.size) in
    let e = get_or_read s (c.loop-i.i + 1) c.index.result.now (omega (arith, kept.size)) c.index.ensures 0 in
    let e2 = get_or_read s c.loop-i.i c.index-in-loop-i.result.now (omega (arith, kept.size)) c.index-in-loop-i.ensures 0 in
    omega (arith, e, e2, length_at s r c.args.self.now c.loop-i.i kept low)

pub returns-then-index-gt1 : goal.returns-then-index-gt1
returns-then-index-gt1 c =
    let s = c.self.inside.starts.items in
    let r = c.self.inside.rids.items in
    let kept : IsPacking s r c.args.self.now = subst (IsPacking s r) c.self.view_is c.self.invariant in
    let low : c.loop-i.i < length c.args.self.now = omega (arith, kept.size) in
    let e = get_or_read s (c.loop-i.i + 1) c.index.result.now (omega (arith, kept.size)) c.index.ensures 0 in
    let e2 = get_or_read s c.loop-i.i c.index-in-loop-i.result.now (omega (arith, kept.size)) c.index-in-loop-i.ensures 0 in
    (λ t. absurd (false≢true t), λ single. let at = single c.loop-i.i [] low in absurd (omega (arith, at, e, e2, length_at s r c.args.self.now c.loop-i.i kept low)))
