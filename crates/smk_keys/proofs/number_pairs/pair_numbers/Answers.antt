use Rattle.std.proofs.{Common.{◌≡◌, ◌∙◌, ℕ, List, rules, subst}, lemmas.Iterator.{YieldsList-from_map, YieldsList-from_slice, YieldsList-from_zip, items_from_collect}, lemmas.List.map-id, lemmas.Result.{IfOk-at_ok, IfOk-weaker}}
use Rattle.std.specs.List.{zip}
use Rattle.smk_keys.specs.Numbers.{AreNumbers}
use Rattle.smk_keys.proofs.Paired.{AreNumbers-places, AreNumbers-right}
use Rattle.smk_keys.proofs.number_pairs.pair_numbers.Goals as goal

pub returns-then-places-limit : goal.returns-then-places-limit
returns-then-places-limit c =
    rw (c.from.ensures, c.from-2.ensures) (AreNumbers-places c.args.left.of.items c.args.right.of.items c.args.left.count c.args.right.count c.in_ok-of.of.items c.requires.long c.requires.left c.requires.right
    (rw (← c.as_slice.ensures.value) c.in_ok-of.ensures.long) (rw (c.as_slice.ensures.value, c.as_slice-then-places-limit.ensures.value) at c.in_ok-of.ensures.at))

pub returns-then-left-le1 : goal.returns-then-left-le1
returns-then-left-le1 c = AreNumbers-right c.args.left.of.items c.args.right.of.items c.args.left.count c.args.right.count c.requires.long c.if-left-le1.true c.requires.left c.requires.right

pub returns : goal.returns
returns c =
    let all = zip c.args.left.of.items c.args.right.of.items in
    let made = IfOk-at_ok _ c.in_ok-pairs.was (items_from_collect _ c.collect.ensures.ran (YieldsList-from_map _ (λ (p : ℕ × ℕ). p) (YieldsList-from_zip (YieldsList-from_slice c.args.left.of.items cc) (YieldsList-from_slice c.args.right.of.items cc)) c.map.ensures.closure (λ x r q k. search rules))) in
    let same : c.as_slice-2.result.now ≡ all = c.as_slice-2.ensures.value ∙ made ∙ map-id all in
    IfOk-weaker c.hashed_numbers.result _ _ (λ made are. subst (λ (z : List (ℕ × ℕ)). AreNumbers (0, 0) z made.count made.of.items) same (are (0, 0))) c.hashed_numbers.ensures
