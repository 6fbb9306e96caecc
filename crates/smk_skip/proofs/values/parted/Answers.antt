use Rattle.std.proofs.{Common.{◌≡◌, ◌∙◌, ℕ, List, length, ap, arith, filter, refl}, lemmas.Grind.common_steps}
use Rattle.std.specs.List.{concat}
use Rattle.smk_base.specs.Places.{Lists, places, inverted}
use Rattle.smk_model.specs.Locals.{singles}
use Rattle.smk_skip.proofs.{Orders.once, Valued.are_valued}
use Rattle.smk_skip.proofs.values.parted.Goals as goal

pub values_at-requires-clause-within : goal.values_at-requires-clause-within
values_at-requires-clause-within c =
    let made = are_valued c.args.rel.now.rows c.args.col c.in_ok-classes.classes c.in_ok-classes.ensures in
    rw c.firsts.ensures made.within

pub values_at-requires-clause-apart : goal.values_at-requires-clause-apart
values_at-requires-clause-apart c =
    let made = are_valued c.args.rel.now.rows c.args.col c.in_ok-classes.classes c.in_ok-classes.ensures in
    rw c.firsts.ensures made.apart

pub overflow_cast-count : goal.overflow_cast-count
overflow_cast-count c =
    let made = are_valued c.args.rel.now.rows c.args.col c.in_ok-classes.classes c.in_ok-classes.ensures in
    omega (arith, ap length c.firsts-2.ensures, made.few, c.len-rows.ensures.keeps.few_rows)

pub turned_lists-requires-clause-below : goal.turned_lists-requires-clause-below
turned_lists-requires-clause-below c =
    let made = are_valued c.args.rel.now.rows c.args.col c.in_ok-classes.classes c.in_ok-classes.ensures in
    rw (c.of.ensures, c.firsts-2.ensures) made.below

pub returns-clause-whole : goal.returns-clause-whole
returns-clause-whole c =
    let made = are_valued c.args.rel.now.rows c.args.col c.in_ok-classes.classes c.in_ok-classes.ensures in
    rw (c.in_ok-values.ensures, c.firsts.ensures) made.whole

pub returns-clause-lists : goal.returns-clause-lists
returns-clause-lists c =
    let made = are_valued c.args.rel.now.rows c.args.col c.in_ok-classes.classes c.in_ok-classes.ensures in
    ap (λ (m : Lists). m.lists) c.in_ok-lists.ensures ∙ rw (c.of.ensures, c.firsts-2.ensures, c.in_ok-values.ensures, c.firsts.ensures) made.lists

pub returns-clause-once : goal.returns-clause-once
returns-clause-once c t =
    let classes = c.in_ok-classes.classes in
    let made = are_valued c.args.rel.now.rows c.args.col classes c.in_ok-classes.ensures in
    let lists : c.in_ok-lists.lists.lists ≡ (inverted (singles classes.of (length classes.firsts))).lists = ap (λ (m : Lists). m.lists) c.in_ok-lists.ensures ∙ rw (c.of.ensures, c.firsts-2.ensures) refl in
    omega (arith, once classes.of (length classes.firsts) t, ap (λ (z : List (List ℕ)). length (filter t (concat z))) lists, ap (λ n. length (places t n)) made.long)

pub returns-clause-bound : goal.returns-clause-bound
returns-clause-bound c = grind (arith, common_steps)

pub turned_lists-requires-clause-few : goal.turned_lists-requires-clause-few
turned_lists-requires-clause-few c = grind (arith, common_steps)
