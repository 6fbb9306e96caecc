use Rattle.std.proofs.{Common.{◌≡◌, ◌∙◌, sym, true, false, nat_eq, arith, refl}, lemmas.Bool.Decides.nat_tests}
use Rattle.smk_typing.proofs.Keys.{to_after_is}
use Rattle.smk_typing.proofs.book.links.add_to.Goals as goal

pub returns-then-contains-clause-after : goal.returns-then-contains-clause-after
returns-then-contains-clause-after c _ =
    let other : nat_eq c.in_ok-number.number c.args.from.view ≡ false = grind (arith, nat_tests) in
    to_after_is c.args.views.now c.args.links.now _ c.args.from.view c.args.from.table c.args.to.now c.args.word.now c.in_ok-number.number true c.in_ok-number.ensures other c.requires (sym c.contains.ensures ∙ c.if-contains.true)

pub returns-clause-after : goal.returns-clause-after
returns-clause-after c =
    let other : nat_eq c.in_ok-number.number c.args.from.view ≡ false = grind (arith, nat_tests) in
    to_after_is c.args.views.now c.args.links.now _ c.args.from.view c.args.from.table c.args.to.now c.args.word.now c.in_ok-number.number false c.in_ok-number.ensures other c.requires (sym c.contains.ensures ∙ c.if-contains.false)
    ∙ rw c.in_ok-push.ensures.pushed refl
