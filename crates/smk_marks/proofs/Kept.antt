-- What is made of what is kept of a view.
use Rattle.std.proofs.{Common.{◌≡◌, ◌≤◌, ◌<◌, ◌+◌, ℕ, Bool, true, false, cond, List, [], ◌∷◌, ◌++◌, length, map, get_or, refl, ap, sym, ◌∙◌, subst, arith, Option, Some, None, All, nat_lt}, lemmas.List.{length-map, length-append, take-append-le, take_all}, lemmas.List.Sums.AllPass-from_list_all}
use Rattle.std.specs.List.{list_all}
use Rattle.smk_base.specs.{PlanImage.expr_of, Places.{Lists, list_at, upto}, Plans.Expr, Rels.{Relation, kind_in}, declared.book.plan.Agg.Agg, declared.value.Kind.Kind}
use Rattle.smk_base.specs.declared.value.Kind.TheVariants as kinds
use Rattle.smk_model.specs.{Composed.{rows_over, table_at}, Kinds.kind_of_agg, Lineage.{row_at, sub}, LineageLaws.selected_table, Plain.{eval, key_of}, Selection.plan_kinds, Values.Row}
use Rattle.smk_model.proofs.{Aggregates.{kind_of_moved, moved_to_own}, Composed.lists_stand}
use Rattle.smk_base.proofs.Places.{map_upto_take}
use Rattle.smk_body.proofs.{Aggregating.map_where, Besides.related}
use Rattle.smk_marks.specs.{Marks.{reads_none, kept, made, mark_row, marked_groups, marks_at}, MarkLaws.{AreRids, input_at, marks_of}, KeptLaws.{IsKeptOf, IsReachedBy, KeptMarks}, Views.{CanGroup, Reads, grouped_by_marks, plan_of, rows_read}, declared.reached.Reached.Reached, declared.view.KeptView.KeptView}
use Rattle.smk_marks.proofs.{ByMarks.group_marks, Counted.{counts_alone, none_read}, Marked.few_kept}

-- counts have one kind, and read anything

count_kinds : (A B : List Kind) (aggs : List Agg) → list_all reads_none aggs ≡ true → map (kind_of_agg A) aggs ≡ map (kind_of_agg B) aggs
count_kinds A B aggs all =
    map_where (kind_of_agg A) (kind_of_agg B) (λ agg. reads_none agg ≡ true) aggs
    (λ agg none. ap (kind_of_agg A) (sym (moved_to_own agg 0 (λ c r. absurd (none_read agg c none r)))) ∙ kind_of_moved agg 0 A B (λ c r. absurd (none_read agg c none r))) (AllPass-from_list_all reads_none aggs all)

-- the first kinds of two lists
kinds_before : (A B : List Kind) (n : ℕ) → length A ≡ n → map (kind_in (A ++ B)) (upto n) ≡ A
kinds_before A B n e = map_upto_take (A ++ B) kinds.Text n (omega (arith, length-append A B)) ∙ take-append-le n A B (omega arith) ∙ take_all n A (omega arith)

module _ (view : KeptView) (table : Relation) (tables : List (List Row)) (S : List ℕ) (reached : Reached) (is : IsKeptOf view table tables) (by : IsReachedBy view table S reached) (rids : AreRids (expr_of view.plan.chain.now) tables S) where
  abbrev keys : List ℕ
  keys = view.plan.keys.now

  abbrev aggs : List Agg
  aggs = view.plan.aggs.now

  abbrev chain : Expr
  chain = expr_of view.plan.chain.now

  abbrev forward : Lists
  forward = marks_of keys aggs chain tables

  abbrev inputs : List Row
  inputs = input_at chain tables S

  abbrev ks : List Kind
  ks = plan_kinds chain (table.kinds ∷ [])

  long : length view.forward.now.lists ≡ length (table_at tables (selected_table chain))
  long = ap (λ (m : Lists). length m.lists) is.forward ∙ lists_stand.forwards_long (plan_of view.plan) tables (selected_table chain)

  marks_are : reached.marks ≡ marks_at forward S
  marks_are = by.marks ∙ ap (λ (m : Lists). marks_at m S) is.forward

  marks_long : length reached.marks ≡ length inputs
  marks_long = ap length marks_are ∙ (group_marks.numbers keys aggs chain tables S is.chain rids).long ∙ length-map inputs (key_of keys)

  inputs_are : map (made chain) (sub table.rows (kept view.forward.now S)) ≡ inputs
  inputs_are =
      ap (λ (L : List Row). map (made chain) (sub L (kept view.forward.now S))) is.rows
      ∙ ap (λ (m : Lists). map (made chain) (sub (table_at tables (selected_table chain)) (kept m S))) is.forward
      ∙ sym (group_marks.rows keys aggs chain tables S is.chain rids)

  abbrev rows_with : Bool → Option Relation
  rows_with b = cond b None (Some (record { kinds = table.kinds; rows = sub table.rows (kept view.forward.now S) }))

  abbrev read : Bool → Relation
  read b = rows_read reached.marks (rows_with b)

  -- as many rows are read as there are marks
  read_long : (b : Bool) → length reached.marks ≡ length (read b).rows
  read_long true = sym (length-map reached.marks mark_row)
  read_long false = marks_long ∙ sym (ap length inputs_are) ∙ length-map (sub table.rows (kept view.forward.now S)) (made chain)

  read_fits : (b : Bool) → list_all reads_none aggs ≡ b → All (Reads chain (read b).kinds) aggs
  read_fits true e k d low c r = absurd (none_read (get_or aggs k d) c (AllPass-from_list_all reads_none aggs e k d low) r)
  read_fits false e k d low c r = (is.fits.0, is.fits.1.each k d low)

  read_kinds : (b : Bool) → list_all reads_none aggs ≡ b → map (kind_of_agg (plan_kinds chain ((read b).kinds ∷ []))) aggs ≡ map (kind_of_agg ks) aggs
  read_kinds true e = count_kinds (plan_kinds chain ((kinds.Int 0 ∷ []) ∷ [])) ks aggs e
  read_kinds false e = refl

  read_groups : (b : Bool) → list_all reads_none aggs ≡ b → (content : List Row) → marked_groups (length keys) aggs content reached.marks (map (made chain) (read b).rows) ≡ marked_groups (length keys) aggs content reached.marks inputs
  read_groups true e content = counts_alone (length keys) aggs content reached.marks (map (made chain) (map mark_row reached.marks)) inputs e (length-map (map mark_row reached.marks) (made chain) ∙ length-map reached.marks mark_row ∙ marks_long)
  read_groups false e content = ap (marked_groups (length keys) aggs content reached.marks) inputs_are

  abbrev counts : Bool
  counts = list_all reads_none aggs

  read_is : rows_read reached.marks reached.rows ≡ read counts
  read_is = ap (rows_read reached.marks) by.rows

  few_marks : length reached.marks ≤ length S
  few_marks = omega (arith, marks_long, ap length (sym inputs_are), length-map (sub table.rows (kept view.forward.now S)) (made chain), length-map (kept view.forward.now S) (row_at table.rows), few_kept (λ s. nat_lt 0 (length (list_at view.forward.now s))) S)

  width : length view.content.now.kinds ≡ length keys + length aggs
  width = ap length is.kinds ∙ length-append (map (kind_in ks) keys) (map (kind_of_agg ks) aggs) ∙ rw (length-map keys (kind_in ks), length-map aggs (kind_of_agg ks)) refl

  ready : CanGroup view reached
  ready = record {
    chain = is.chain;
    few_marks = omega (arith, few_marks, by.few);
    within = subst (λ (A : List ℕ). All (λ m. m < length view.content.now.rows) A) (sym marks_are)
        (subst (λ (n : ℕ). All (λ m. m < n) (marks_at forward S)) (sym (ap length is.content)) (group_marks.numbers keys aggs chain tables S is.chain rids).below);
    long = subst (λ (r : Relation). length reached.marks ≡ length r.rows) (sym read_is) (read_long counts);
    reads = subst (λ (r : Relation). All (Reads chain r.kinds) aggs) (sym read_is) (read_fits counts refl);
    keyed = omega (arith, width);
    few = is.fits.1.few;
  }

  made_is : grouped_by_marks view reached ≡ record { kinds = plan_kinds (plan_of view.plan) (table.kinds ∷ []); rows = eval (plan_of view.plan) (sub table.rows S ∷ []) }
  made_is =
      related
      (ap (λ (z : List Kind). map (kind_in z) (upto (length keys)) ++ map (kind_of_agg (plan_kinds chain ((rows_read reached.marks reached.rows).kinds ∷ []))) aggs) is.kinds
      ∙ ap (λ z. z ++ map (kind_of_agg (plan_kinds chain ((rows_read reached.marks reached.rows).kinds ∷ []))) aggs) (kinds_before (map (kind_in ks) keys) (map (kind_of_agg ks) aggs) (length keys) (length-map keys (kind_in ks)))
      ∙ ap (λ (r : Relation). map (kind_in ks) keys ++ map (kind_of_agg (plan_kinds chain (r.kinds ∷ []))) aggs) read_is
      ∙ ap (λ z. map (kind_in ks) keys ++ z) (read_kinds counts refl))
      (ap (λ (r : Relation). marked_groups (length keys) aggs view.content.now.rows reached.marks (map (made chain) r.rows)) read_is
      ∙ read_groups counts refl view.content.now.rows
      ∙ ap (λ (z : List Row). marked_groups (length keys) aggs z reached.marks inputs) is.content
      ∙ ap (λ z. marked_groups (length keys) aggs (rows_over (plan_of view.plan) tables) z inputs) marks_are
      ∙ sym (group_marks.content keys aggs chain tables S is.chain rids)
      ∙ ap (λ (L : List Row). eval (plan_of view.plan) (sub L S ∷ [])) (sym is.rows))

pub kept_marks : KeptMarks
kept_marks = record { ready = ready; made = made_is }
