use Rattle.std.proofs.{Common.{arith, ◌≡◌, ◌∙◌, ◌<◌, ◌≤◌, [], length, take, map, get_or, ap, sym}, lemmas.List.take_all, lemmas.Result.err_from_is_err_and}
use Rattle.smk_base.specs.Places.{members_at, pairs_of}
use Rattle.smk_rid.proofs.{Sets.sum_over, Joins.IsMap-composed}
use Rattle.smk_rid.proofs.derive.compose.composed_lists.Goals as goal

pub returns-in_err-put_members-clause-many : goal.returns-in_err-put_members-clause-many
returns-in_err-put_members-clause-many c =
    let p = err_from_is_err_and c.from_residual-in_err-put_members.result c.from_residual-in_err-put_members.ensures.1 in
    let f = members_at c.args.second.now in
    let xs = c.args.first.now.lists in
    let low : c.loop-i.i < length xs = omega arith in
    let most = sum_over f xs c.loop-i.i [] low in
    let set : f c.at.result.now ≡ f (get_or xs c.loop-i.i []) = ap f c.at.ensures.rids in
    rw p.1 (λ e. let m = c.in_err-put_members.ensures.many (sym p.2 ∙ e) in omega (arith, m, most, ap length set, ap pairs_of c.loop-i.invariant.lists))

pub of_packed-requires : goal.of_packed-requires
of_packed-requires c =
    let a = c.args.first.now in
    let b = c.args.second.now in
    let whole : take c.loop-i.i a.lists ≡ a.lists = take_all c.loop-i.i a.lists (omega arith) in
    let lists : c.loop-i.made ≡ map (members_at b) a.lists = c.loop-i.invariant.lists ∙ ap (map (members_at b)) whole in
    let few : pairs_of (map (members_at b) a.lists) ≤ 16777216 = rw (sym lists) c.loop-i.invariant.few in
    rw (lists, c.bound.ensures) (IsMap-composed a b (omega arith) few)
