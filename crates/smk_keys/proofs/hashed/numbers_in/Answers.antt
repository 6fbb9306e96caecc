use Rattle.std.proofs.{Common.arith, lemmas.List.get_or_read}
use Rattle.smk_keys.proofs.Coded.{IsCoded-none, IsCoded-next, AreNumbers-coded}
use Rattle.smk_keys.proofs.hashed.numbers_in.Goals as goal

pub loop-i-init : goal.loop-i-init
loop-i-init g c = (
  rw c.requires.none (omega arith),
  c.in_ok-of.ensures.capacity,
  λ none. rw c.in_ok-of.ensures.items (IsCoded-none g.T.PartialEq.eq none c.args.items.now c.args.seen.now.keys c.requires.none),
)

pub loop-i-preserved : goal.loop-i-preserved
loop-i-preserved g c =
    let x = c.index-items-i.result in
    let at = get_or_read c.args.items.now c.loop-i.i _ c.loop-i-test.true c.index-items-i.is x in
    let few = (IsCoded-next g.T.PartialEq.eq c.requires.same x c.args.items.now c.loop-i.i c.loop-i.of.items c.loop-i.seen.keys _ at (c.loop-i.invariant.2 x)).few in (
      rw c.in_ok-number.ensures.keys few,
      rw c.push_reserved.ensures.capacity c.loop-i.invariant.1,
      λ none. rw (c.push_reserved.ensures.items, c.in_ok-number.ensures.index, c.in_ok-number.ensures.keys)
          (IsCoded-next g.T.PartialEq.eq c.requires.same none c.args.items.now c.loop-i.i c.loop-i.of.items c.loop-i.seen.keys _
          (get_or_read c.args.items.now c.loop-i.i _ c.loop-i-test.true c.index-items-i.is none) (c.loop-i.invariant.2 none)),
    )

pub returns : goal.returns
returns g c = λ none. rw c.len-count.ensures.len (AreNumbers-coded g.T.PartialEq.eq c.requires.same none c.args.items.now c.loop-i.i _ _ (omega arith) (c.loop-i.invariant.2 none))

pub push_reserved-requires : goal.push_reserved-requires
push_reserved-requires g c = omega (arith, (c.loop-i.invariant.2 c.index-items-i.result).long, c.loop-i.invariant.1, c.loop-i-test.true)
