-- The columns of groups that are put together.
use Rattle.std.proofs.{Common.{◌≡◌, ◌∙◌, ℕ, zero, suc, ◌+◌, ◌<◌, ◌≤◌, List, [], ◌∷◌, ◌++◌, length, refl, ap, arith, All, get_or}, lemmas.List.Elements.All-weaker}
use Rattle.smk_base.specs.{declared.value.Kind.Kind, declared.book.plan.Agg.Agg, declared.rel.TheConstants.COLUMN_LIMIT, Aggregates.over_parts, Places.upto}
use Rattle.smk_model.specs.{Growth.all_over_parts, Kinds.{AggFits, GroupFits}}
use Rattle.smk_base.proofs.Places.{length_upto, upto_below}

pub over_long : (c : ℕ) (aggs : List Agg) → length (all_over_parts c aggs) ≡ length aggs
over_long c [] = refl
over_long c (agg ∷ aggs) = ap suc (over_long (c + 1) aggs)

pub over_at : (c : ℕ) (aggs : List Agg) (i : ℕ) (d e : Agg) → i < length aggs → get_or (all_over_parts c aggs) i d ≡ over_parts (c + i) (get_or aggs i e)
over_at c [] i d e h = absurd (omega arith)
over_at c (agg ∷ aggs) zero d e h = let same : c ≡ c + 0 = omega arith in ap (λ k. over_parts k agg) same
over_at c (agg ∷ aggs) (suc i) d e h = let same : c + 1 + i ≡ c + suc i = omega arith in over_at (c + 1) aggs i d e (omega arith) ∙ ap (λ k. over_parts k (get_or aggs i e)) same

pub behind : {X : Type 0} (a b : List X) (i : ℕ) (d : X) → get_or (a ++ b) (length a + i) d ≡ get_or b i d
behind [] b i d = let e : 0 + i ≡ i = omega arith in rw e refl
behind (x ∷ xs) b i d = let e : suc (length xs) + i ≡ suc (length xs + i) = omega arith in rw e (behind xs b i d)

-- the grouping of groups fits them
pub over_group : (ks : List Kind) (k : ℕ) (aggs : List Agg) → 0 < k + length aggs → k + length aggs ≡ length ks → length ks ≤ COLUMN_LIMIT → All (AggFits ks) (all_over_parts k aggs) → GroupFits ks (upto k) (all_over_parts k aggs)
over_group ks k aggs some long few each = record {
  keyed = All-weaker (λ c. c < k) (λ c. c < length ks) (λ c h. omega (arith, long)) (upto k) (upto_below k);
  each = each;
  some = omega (arith, some, length_upto k, over_long k aggs);
  few = omega (arith, few, long, length_upto k, over_long k aggs);
}
