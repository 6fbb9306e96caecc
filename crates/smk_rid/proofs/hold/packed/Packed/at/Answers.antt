use Rattle.std.proofs.{Common.{arith, ◌∙◌, ◌+◌, length, ap, subst}, lemmas.List.get_or_read}
use Rattle.smk_rid.specs.Packing.{IsPacking}
use Rattle.smk_rid.proofs.Packs.{length_at, end_at, part_is}
use Rattle.smk_rid.proofs.hold.packed.Packed.at.Goals as goal

pub between-requires-clause-ordered : goal.between-requires-clause-ordered
between-requires-clause-ordered c =
    let s = c.self.inside.starts.items in
    let r = c.self.inside.rids.items in
    let kept : IsPacking s r c.args.self.now = subst (IsPacking s r) c.self.view_is c.self.invariant in
    let e = get_or_read s c.args.i c.index.result.now (omega (arith, kept.size)) c.index.ensures 0 in
    let e2 = get_or_read s (c.args.i + 1) c.index-2.result.now (omega (arith, kept.size)) c.index-2.ensures 0 in
    omega (arith, e, e2, length_at s r c.args.self.now c.args.i kept c.requires)

pub between-requires-clause-within : goal.between-requires-clause-within
between-requires-clause-within c =
    let s = c.self.inside.starts.items in
    let r = c.self.inside.rids.items in
    let kept : IsPacking s r c.args.self.now = subst (IsPacking s r) c.self.view_is c.self.invariant in
    let e2 = get_or_read s (c.args.i + 1) c.index-2.result.now (omega (arith, kept.size)) c.index-2.ensures 0 in
    omega (arith, e2, ap length c.as_slice.ensures.value, end_at s r c.args.self.now (c.args.i + 1) kept (omega arith))

pub returns : goal.returns
returns c =
    let s = c.self.inside.starts.items in
    let r = c.self.inside.rids.items in
    let kept : IsPacking s r c.args.self.now = subst (IsPacking s r) c.self.view_is c.self.invariant in
    let e = get_or_read s c.args.i c.index.result.now (omega (arith, kept.size)) c.index.ensures 0 in
    let e2 = get_or_read s (c.args.i + 1) c.index-2.result.now (omega (arith, kept.size)) c.index-2.ensures 0 in
    c.between.ensures ∙ rw (e, e2, c.as_slice.ensures.value) (part_is s r c.args.self.now c.args.i kept c.requires)
