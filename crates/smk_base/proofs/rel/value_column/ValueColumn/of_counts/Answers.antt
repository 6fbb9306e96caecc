use Rattle.std.proofs.{Common.{◌≡◌, pos, map, refl, rules, arith, sym, All, ◌<◌}, lemmas.List.length-map, lemmas.Result.IfOk-at_ok, lemmas.Iterator.{YieldsList-from_map, YieldsList-from_slice, items_from_collect}, lemmas.List.Elements.{All-from_get_or, All-map, All-weaker}}
use Rattle.smk_base.specs.Rels.{Fits, IsWithin}
use Rattle.smk_base.specs.declared.value.Kind.TheVariants as kinds
use Rattle.smk_base.specs.declared.value.Value.TheVariants as values
use Rattle.smk_base.proofs.Kept.{IsColumnOf-ints, Within-wider, counts_within}
use Rattle.smk_base.proofs.rel.value_column.ValueColumn.of_counts.Goals as goal

pub invariant_of-small : goal.invariant_of-small
invariant_of-small c =
    let whole : c.in_ok-ints.ints.items ≡ map pos c.args.counts.now = IfOk-at_ok _ c.in_ok-ints.was (items_from_collect _ c.collect.ensures.ran (YieldsList-from_map _ pos (YieldsList-from_slice c.args.counts.now cc) c.map.ensures.closure (λ x r q k. search rules))) in
    let few = rw (sym (length-map c.args.counts.now pos), sym whole) at c.requires.few in
    let within : All (IsWithin 0) c.in_ok-ints.ints.items = rw whole (counts_within c.args.counts.now (All-from_get_or (λ n. n < 4294967296) c.args.counts.now 0 (λ k h. omega (arith, c.type_inv.counts k)))) in
    let kept = IsColumnOf-ints 0 c.in_ok-ints.ints.items _ (omega arith) few within refl refl in
    rw kept.long kept

pub with_kind-requires-clause-fits : goal.with_kind-requires-clause-fits
with_kind-requires-clause-fits c =
    let whole : c.in_ok-ints.ints.items ≡ map pos c.args.counts.now = IfOk-at_ok _ c.in_ok-ints.was (items_from_collect _ c.collect.ensures.ran (YieldsList-from_map _ pos (YieldsList-from_slice c.args.counts.now cc) c.map.ensures.closure (λ x r q k. search rules))) in
    let within : All (IsWithin 0) c.in_ok-ints.ints.items = rw whole (counts_within c.args.counts.now (All-from_get_or (λ n. n < 4294967296) c.args.counts.now 0 (λ k h. omega (arith, c.type_inv.counts k)))) in
    All-map (Fits (kinds.Int c.args.level)) values.Int c.in_ok-ints.ints.items (All-weaker (IsWithin 0) (IsWithin c.args.level) (λ n w. Within-wider c.args.level 0 n (omega arith) w) c.in_ok-ints.ints.items within)

pub returns-clause-cells : goal.returns-clause-cells
returns-clause-cells c =
    let whole : c.in_ok-ints.ints.items ≡ map pos c.args.counts.now = IfOk-at_ok _ c.in_ok-ints.was (items_from_collect _ c.collect.ensures.ran (YieldsList-from_map _ pos (YieldsList-from_slice c.args.counts.now cc) c.map.ensures.closure (λ x r q k. search rules))) in
    rw (sym whole) c.with_kind.ensures.cells
