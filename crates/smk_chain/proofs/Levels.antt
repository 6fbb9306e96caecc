-- The columns of a growing chain are of level 0, and the sums of a last grouping of level 1, so groups can be summed once more.
use Rattle.std.proofs.{Common.{◌≡◌, ◌∙◌, ℕ, ◌+◌, ◌<◌, true, List, [], ◌++◌, length, map, sym, ap, subst, arith, All, get_or}, lemmas.Bool.false≢true, lemmas.List.{length-map, length-append, get_or-map}, lemmas.List.Elements.All-map}
use Rattle.smk_base.specs.{declared.value.Kind.Kind, declared.book.plan.Agg.Agg, declared.book.plan.Agg.TheVariants.Count, declared.book.plan.Item.Item, declared.book.plan.Item.TheVariants.{Col, Bin}, Plans.{Selection, Projection, Grouping, Expr, Leaf, Apply}, Rels.kind_in}
use Rattle.smk_base.specs.declared.value.Kind.TheVariants as kinds
use Rattle.smk_model.specs.{Kinds.{AggFits, kind_of_item, kind_of_agg, kinds1}, Tables.IsBase, LineageLaws.selected_table, Selection.{leaf_kinds, plan_kinds}, Growth.{is_chain, all_over_parts}}
use Rattle.smk_model.proofs.Aggregates.{base_at, parts_fit}
use Rattle.smk_chain.proofs.Columns.{behind, over_at, over_long}

base_item : (ks : List Kind) → All IsBase ks → (item : Item) → IsBase (kind_of_item ks item)
base_item ks all (Col c) = base_at ks all c
base_item ks all (Bin c w) = base_at ks all c

pub chain_kinds : (plan : Expr) (K : List (List Kind)) → is_chain plan ≡ true → All IsBase (get_or K (selected_table plan) []) → All IsBase (plan_kinds plan (leaf_kinds plan K))
chain_kinds (Leaf table) K c all = all
chain_kinds (Apply (Selection formula) input) K c all = chain_kinds input K c all
chain_kinds (Apply (Projection items) input) K c all =
    let ks = plan_kinds input (leaf_kinds input K) in
    All-map IsBase (kind_of_item ks) items (λ i d h. base_item ks (chain_kinds input K c all) (get_or items i d))
chain_kinds _ K c all = absurd (false≢true c)

-- the aggregates of groups that are put together fit the columns of these
pub over_fits : (ks : List Kind) (keys : List ℕ) (aggs : List Agg) → All IsBase ks → All (AggFits ks) aggs → All (AggFits (kinds1 (Grouping keys aggs) ks)) (all_over_parts (length keys) aggs)
over_fits ks keys aggs all fits i d h =
    let front = map (kind_in ks) keys in
    let rest = map (kind_of_agg ks) aggs in
    let low : i < length aggs = omega (arith, h, over_long (length keys) aggs) in
    let long : length front ≡ length keys = length-map keys (kind_in ks) in
    let at : kind_in (front ++ rest) (length keys + i) ≡ kind_of_agg ks (get_or aggs i Count) =
    ap (λ n. kind_in (front ++ rest) (n + i)) (sym long) ∙ behind front rest i kinds.Text ∙ get_or-map (kind_of_agg ks) aggs i Count kinds.Text low in
    let within : length keys + i < length (front ++ rest) = omega (arith, length-append front rest, long, length-map aggs (kind_of_agg ks), low) in
    subst (AggFits (front ++ rest)) (sym (over_at (length keys) aggs i d Count low)) (parts_fit (get_or aggs i Count) (length keys + i) (front ++ rest) ks all within at (fits i Count low))
