-- A plan that stands scans tables that are there and fits their kinds, and its columns have its kinds.
use Rattle.std.proofs.{Common.{◌≡◌, ◌∙◌, ◌+◌, ◌<◌, ◌≤◌, ℕ, true, not, List, [], ◌∷◌, ◌++◌, length, map, drop, get_or, Ok, refl, sym, ap, subst, arith, All, nat_eq}, Math.Seq.drop-append_seam, lemmas.Bool.{and_parts, not-false}, lemmas.List.{length-map, map-append, append_assoc, get_or-map}, lemmas.List.Elements.{All-push, All-nil}}
use Rattle.std.specs.{Prelude.nat_lt, List.{AllZip, list_all, zip}}
use Rattle.smk_base.specs.{declared.value.Kind.Kind, declared.book.tree.Word.Word, declared.book.tree.PairTree.PairTree, declared.book.catalog.Column.Column, declared.book.catalog.TableInfo.TableInfo, declared.book.type_fault.TypeFault.TheVariants.{KindMismatch, DuplicateName, RowTooWide, UnionShape, UnknownTable}, Plans.{Formula, Expr, Leaf, Apply, Combine, Unary, Selection, Projection, Distinction, Grouping, Binary, Equijoin, ThetaJoin, CrossProduct, BagUnion, SetUnion}, Trees.{PredImage, TreeImage, ScanNode, StepNode, StepImage, SelectNode, ProjectNode, DistinctNode, GroupNode, JoinNode, ThetaNode, ProductNode, UnionAllNode, UnionNode}, Rels.kind_in, declared.rel.TheConstants.COLUMN_LIMIT}
use Rattle.smk_model.specs.{Names.{in_turn, column_named, column_kinds, same_sort}, Kinds.{AreAlike, FormulaFits, PairFits, Fits1, Fits2, FewTogether, kinds1, kinds2, wider, wider_kinds}, Plain.{leaves, width}, Selection.{ScansFit, PlanFits, leaf_kinds, plan_kinds, nodes}, Limits.{KeepsTree, KeepsStep}, TypedSteps.{TypedPlan, typed_pred, typed_items, typed_group, pair_after, share_a_name, joined, same_shape, united_column, united, united_plan}, Typing.{table_by_word, info_at, no_table, columns_of, typed_plan, typed_step}, Catalogs.{table_kinds, each_table_kinds}}
use Rattle.smk_model.specs.Limits as limits
use Rattle.smk_typing.proofs.{Results.{made_of, unless_ok, ok_keeps, in_turn_keeps}, StepsFit.{named_is, kinds_long, alike, pred_fits}, ListsFit.{items_stand, group_stands}, Lookups.named_within}

-- joins and unions

abbrev PairsFit : List Column → List Column → List (ℕ × ℕ) → Type 0
PairsFit lefts rights pairs = All (PairFits (column_kinds lefts) (column_kinds rights)) pairs

pair_more : (lefts rights : List Column) (old new : List (ℕ × ℕ)) (pair : PairTree) → PairsFit lefts rights old → Unit {0} → pair_after lefts rights old pair ≡ Ok new → PairsFit lefts rights new
pair_more lefts rights old new pair made any e =
    let left = made_of (column_named lefts pair.left) _ new e in
    let right = made_of (column_named rights pair.right) _ new left.2 in
    let whole = unless_ok (not (same_sort left.0.1 right.0.1)) (KindMismatch pair.right.at) (Ok (old ++ (left.0.0, right.0.0) ∷ [])) new right.2 in
    let l = named_is lefts pair.left left.0 left.1 in
    let r = named_is rights pair.right right.0 right.1 in
    let like : AreAlike left.0.1 right.0.1 = alike left.0.1 right.0.1 whole.0 in
    let fits : PairFits (column_kinds lefts) (column_kinds rights) (left.0.0, right.0.0) = (l.0, r.0, subst (λ (k : Kind). AreAlike (kind_in (column_kinds lefts) left.0.0) k) (sym r.1) (subst (λ (k : Kind). AreAlike k right.0.1) (sym l.1) like)) in
    ok_keeps (PairsFit lefts rights) _ new whole.1 (All-push (PairFits (column_kinds lefts) (column_kinds rights)) old (left.0.0, right.0.0) made fits)

shapes_fit : (lefts rights : List Column) → length lefts ≡ length rights → list_all (λ sides. same_sort sides.0.kind sides.1.kind) (zip lefts rights) ≡ true → AllZip AreAlike (column_kinds lefts) (column_kinds rights)
shapes_fit [] [] e all = tt
shapes_fit [] (r ∷ rs) e all = absurd (omega (arith, e))
shapes_fit (l ∷ ls) [] e all = absurd (omega (arith, e))
shapes_fit (l ∷ ls) (r ∷ rs) e all =
    let both = and_parts (same_sort l.kind r.kind) _ all in
    let even : length ls ≡ length rs = omega (arith, e) in
    (alike l.kind r.kind (ap not both.0), shapes_fit ls rs even both.1)

wider_same : (lefts rights : List Column) → length lefts ≡ length rights → wider_kinds (column_kinds lefts) (column_kinds rights) ≡ column_kinds (map united_column (zip lefts rights))
wider_same [] rights e = refl
wider_same (l ∷ ls) [] e = absurd (omega (arith, e))
wider_same (l ∷ ls) (r ∷ rs) e = let even : length ls ≡ length rs = omega (arith, e) in ap (λ ks. wider l.kind r.kind ∷ ks) (wider_same ls rs even)

-- what two inputs make fits them, and the columns have its kinds
abbrev Fits2Made : Binary → List Column → List Column → List Column → Type 0
Fits2Made op lefts rights columns = Fits2 op (column_kinds lefts) (column_kinds rights) × (kinds2 op (column_kinds lefts) (column_kinds rights) ≡ column_kinds columns)

united_parts : (at : ℕ) (lefts rights columns : List Column) → united at lefts rights ≡ Ok columns → AllZip AreAlike (column_kinds lefts) (column_kinds rights) × (wider_kinds (column_kinds lefts) (column_kinds rights) ≡ column_kinds columns)
united_parts at lefts rights columns e =
    let whole = unless_ok (not (same_shape lefts rights)) (UnionShape at) (Ok (map united_column (zip lefts rights))) columns e in
    let both = and_parts (nat_eq (length lefts) (length rights)) _ (not-false (same_shape lefts rights) whole.0) in
    let even : length lefts ≡ length rights = grind (arith, both.0) in
    let same : map united_column (zip lefts rights) ≡ columns = cc whole.1 in
    (shapes_fit lefts rights even both.1, wider_same lefts rights even ∙ ap column_kinds same)

-- the columns of both sides are few together, and have the kinds of both sides
joined_whole : (at : ℕ) (lefts rights columns : List Column) → joined at lefts rights ≡ Ok columns → FewTogether (column_kinds lefts) (column_kinds rights) × (column_kinds lefts ++ column_kinds rights ≡ column_kinds columns)
joined_whole at lefts rights columns e =
    let first = unless_ok (share_a_name lefts rights) (DuplicateName at) _ columns e in
    let second = unless_ok (nat_lt COLUMN_LIMIT (length lefts + length rights)) (RowTooWide at) (Ok (lefts ++ rights)) columns first.1 in
    let same : lefts ++ rights ≡ columns = cc second.1 in
    let few : length lefts + length rights ≤ COLUMN_LIMIT = grind (arith, second.0) in
    (omega (arith, few, kinds_long lefts, kinds_long rights), sym (map-append (λ (c : Column). c.kind) lefts rights) ∙ ap column_kinds same)

joined_parts : (at : ℕ) (trees : List PairTree) (pairs : List (ℕ × ℕ)) (lefts rights columns : List Column) → in_turn (pair_after lefts rights) [] trees ≡ Ok pairs → joined at lefts rights ≡ Ok columns → Fits2Made (Equijoin pairs) lefts rights columns
joined_parts at trees pairs lefts rights columns paired e =
    let fit = in_turn_keeps (PairsFit lefts rights) (λ w. Unit {0}) (pair_after lefts rights) (pair_more lefts rights) [] pairs trees (All-nil _) (λ k d p. tt) paired in
    let whole = joined_whole at lefts rights columns e in
    (record { each = fit; few = whole.0 }, whole.1)

theta_parts : (at : ℕ) (tree : PredImage) (formula : Formula) (lefts rights columns : List Column) → joined at lefts rights ≡ Ok columns → typed_pred columns tree ≡ Ok formula → Fits2Made (ThetaJoin formula) lefts rights columns
theta_parts at tree formula lefts rights columns e typed =
    let whole = joined_whole at lefts rights columns e in
    (record { fits = subst (λ (ks : List Kind). FormulaFits ks formula) (sym whole.1) (pred_fits columns tree formula typed); few = whole.0 }, whole.1)

-- plans

-- a plan of n nodes over the kinds of these tables, with these columns, also where its leaves are followed by others
pub record Stands (tables : List TableInfo) (n : ℕ) (typed : TypedPlan) : Type 0 where
  pub size : nodes typed.plan ≡ n
  pub scans : ScansFit (length tables) typed.plan
  pub fits : (more : List (List Kind)) → PlanFits typed.plan (leaf_kinds typed.plan (each_table_kinds tables) ++ more)
  pub kinds : (more : List (List Kind)) → plan_kinds typed.plan (leaf_kinds typed.plan (each_table_kinds tables) ++ more) ≡ column_kinds typed.columns

pub scan_stands : (tables : List TableInfo) (t : ℕ) → t < length tables → Stands tables 1 (record { plan = Leaf t; columns = columns_of (info_at tables t) })
scan_stands tables t below = record {
  size = refl;
  scans = below;
  fits = λ more. tt;
  kinds = λ more. get_or-map table_kinds tables t no_table [] below;
}

step_stands : (tables : List TableInfo) (n : ℕ) (left : TypedPlan) (op : Unary) (columns : List Column) → Stands tables n left → Fits1 op (column_kinds left.columns) × (kinds1 op (column_kinds left.columns) ≡ column_kinds columns)
    → Stands tables (n + 1) (record { plan = Apply op left.plan; columns = columns })
step_stands tables n left op columns stands made = record {
  size = ap (λ nodes. nodes + 1) stands.size;
  scans = stands.scans;
  fits = λ more. (stands.fits more, subst (Fits1 op) (sym (stands.kinds more)) made.0);
  kinds = λ more. ap (kinds1 op) (stands.kinds more) ∙ made.1;
}

-- the leaves of both inputs
leaves_two : (K : List (List Kind)) (a b : Expr) (op : Binary) (more : List (List Kind)) → leaf_kinds (Combine op a b) K ++ more ≡ leaf_kinds a K ++ (leaf_kinds b K ++ more)
leaves_two K a b op more = ap (λ l. l ++ more) (map-append (λ table. get_or K table []) (leaves a) (leaves b)) ∙ append_assoc (leaf_kinds a K) (leaf_kinds b K) more

behind_left : (K : List (List Kind)) (a : Expr) (more : List (List Kind)) → drop (width a) (leaf_kinds a K ++ more) ≡ more
behind_left K a more =
    let long : length (leaf_kinds a K) ≡ width a = length-map (leaves a) (λ table. get_or K table []) in
    ap (λ n. drop n (leaf_kinds a K ++ more)) (sym long) ∙ drop-append_seam (leaf_kinds a K) more

both_stand : (tables : List TableInfo) (n m : ℕ) (left right : TypedPlan) (op : Binary) (columns : List Column) → Stands tables n left → Stands tables m right → Fits2Made op left.columns right.columns columns
    → Stands tables (n + (m + 1)) (record { plan = Combine op left.plan right.plan; columns = columns })
both_stand tables n m left right op columns l r made =
    let K : List (List Kind) = each_table_kinds tables in
    let behind : (more : List (List Kind)) → drop (width left.plan) (leaf_kinds left.plan K ++ (leaf_kinds right.plan K ++ more)) ≡ leaf_kinds right.plan K ++ more = λ more. behind_left K left.plan (leaf_kinds right.plan K ++ more) in
    let right_kinds : (more : List (List Kind)) → plan_kinds right.plan (drop (width left.plan) (leaf_kinds left.plan K ++ (leaf_kinds right.plan K ++ more))) ≡ column_kinds right.columns = λ more. ap (plan_kinds right.plan) (behind more) ∙ r.kinds more in
    let left_kinds : (more : List (List Kind)) → plan_kinds left.plan (leaf_kinds left.plan K ++ (leaf_kinds right.plan K ++ more)) ≡ column_kinds left.columns = λ more. l.kinds (leaf_kinds right.plan K ++ more) in
    let fit : (more : List (List Kind)) → PlanFits (Combine op left.plan right.plan) (leaf_kinds left.plan K ++ (leaf_kinds right.plan K ++ more)) = λ more. (
      l.fits (leaf_kinds right.plan K ++ more),
      subst (PlanFits right.plan) (sym (behind more)) (r.fits more),
      subst (λ (ks : List Kind). Fits2 op ks (plan_kinds right.plan (drop (width left.plan) (leaf_kinds left.plan K ++ (leaf_kinds right.plan K ++ more))))) (sym (left_kinds more)) (subst (λ (ks : List Kind). Fits2 op (column_kinds left.columns) ks) (sym (right_kinds more)) made.0),
    ) in
    record {
      size = omega (arith, l.size, r.size);
      scans = (l.scans, r.scans);
      fits = λ more. subst (PlanFits (Combine op left.plan right.plan)) (sym (leaves_two K left.plan right.plan op more)) (fit more);
      kinds = λ more. ap (plan_kinds (Combine op left.plan right.plan)) (leaves_two K left.plan right.plan op more)
          ∙ ap (λ ks. kinds2 op ks (plan_kinds right.plan (drop (width left.plan) (leaf_kinds left.plan K ++ (leaf_kinds right.plan K ++ more))))) (left_kinds more)
          ∙ ap (kinds2 op (column_kinds left.columns)) (right_kinds more) ∙ made.1;
    }

-- a table that a word names is there
pub table_is : (tables : List TableInfo) (word : Word) (t : ℕ) → table_by_word tables word ≡ Ok t → t < length tables
table_is tables word t e = named_within (λ (table : TableInfo). table.name) tables word.name (UnknownTable word.at) t e

united_stands : (tables : List TableInfo) (n m at : ℕ) (op : Binary) (left right typed : TypedPlan) → ((l r : List Kind) → AllZip AreAlike l r → Fits2 op l r) → ((l r : List Kind) → kinds2 op l r ≡ wider_kinds l r)
    → Stands tables n left → Stands tables m right → united_plan op at left right ≡ Ok typed → Stands tables (n + (m + 1)) typed
united_stands tables n m at op left right typed fits kinds l r e =
    let made = made_of (united at left.columns right.columns) _ typed e in
    let parts = united_parts at left.columns right.columns made.0 made.1 in
    ok_keeps (Stands tables (n + (m + 1))) _ typed made.2 (both_stand tables n m left right op made.0 l r (fits _ _ parts.0, kinds _ _ ∙ parts.1))

-- a plan and a step that stand, with the nodes of their trees
mutual
  pub plan_stands : (tables : List TableInfo) (tree : TreeImage) (typed : TypedPlan) → KeepsTree tree → typed_plan tables tree ≡ Ok typed → Stands tables (limits.nodes tree) typed
  plan_stands tables (ScanNode word) typed keeps e =
      let found = made_of (table_by_word tables word) _ typed e in
      ok_keeps (Stands tables 1) _ typed found.2 (scan_stands tables found.0 (table_is tables word found.0 found.1))
  plan_stands tables (StepNode at input what) typed keeps e =
      let left = made_of (typed_plan tables input) _ typed e in
      stepped_stands tables what at (limits.nodes input) left.0 typed keeps.1 (plan_stands tables input left.0 keeps.0 left.1) left.2

  pub stepped_stands : (tables : List TableInfo) (what : StepImage) (at n : ℕ) (left typed : TypedPlan) → KeepsStep what → Stands tables n left → typed_step tables what at left ≡ Ok typed → Stands tables (n + limits.nodes_of_step what) typed
  stepped_stands tables (SelectNode pred) at n left typed keeps stands e =
      let made = made_of (typed_pred left.columns pred) _ typed e in
      ok_keeps (Stands tables (n + 1)) _ typed made.2 (step_stands tables n left (Selection made.0) left.columns stands (pred_fits left.columns pred made.0 made.1, refl))
  stepped_stands tables (ProjectNode items) at n left typed keeps stands e =
      let made = made_of (typed_items left.columns items) _ typed e in
      ok_keeps (Stands tables (n + 1)) _ typed made.2 (step_stands tables n left (Projection made.0.0) made.0.1 stands (items_stand left.columns items made.0 keeps made.1))
  stepped_stands tables (DistinctNode items) at n left typed keeps stands e =
      let made = made_of (typed_items left.columns items) _ typed e in
      ok_keeps (Stands tables (n + 1)) _ typed made.2 (step_stands tables n left (Distinction made.0.0) made.0.1 stands (items_stand left.columns items made.0 keeps made.1))
  stepped_stands tables (GroupNode keys aggs) at n left typed keeps stands e =
      let made = made_of (typed_group left.columns at keys aggs) _ typed e in
      ok_keeps (Stands tables (n + 1)) _ typed made.2 (step_stands tables n left (Grouping made.0.keys made.0.aggs) made.0.columns stands (group_stands left.columns at keys aggs made.0 made.1))
  stepped_stands tables (JoinNode source pairs) at n left typed keeps stands e =
      let right = made_of (typed_plan tables source) _ typed e in
      let paired = made_of (in_turn (pair_after left.columns right.0.columns) [] pairs) _ typed right.2 in
      let made = made_of (joined at left.columns right.0.columns) _ typed paired.2 in
      let fit = joined_parts at pairs paired.0 left.columns right.0.columns made.0 paired.1 made.1 in
      ok_keeps (Stands tables (n + (limits.nodes source + 1))) _ typed made.2 (both_stand tables n _ left right.0 (Equijoin paired.0) made.0 stands (plan_stands tables source right.0 keeps right.1) fit)
  stepped_stands tables (ThetaNode source pred) at n left typed keeps stands e =
      let right = made_of (typed_plan tables source) _ typed e in
      let whole = made_of (joined at left.columns right.0.columns) _ typed right.2 in
      let made = made_of (typed_pred whole.0 pred) _ typed whole.2 in
      let fit = theta_parts at pred made.0 left.columns right.0.columns whole.0 whole.1 made.1 in
      ok_keeps (Stands tables (n + (limits.nodes source + 1))) _ typed made.2 (both_stand tables n _ left right.0 (ThetaJoin made.0) whole.0 stands (plan_stands tables source right.0 keeps right.1) fit)
  stepped_stands tables (ProductNode source) at n left typed keeps stands e =
      let right = made_of (typed_plan tables source) _ typed e in
      let whole = made_of (joined at left.columns right.0.columns) _ typed right.2 in
      ok_keeps (Stands tables (n + (limits.nodes source + 1))) _ typed whole.2 (both_stand tables n _ left right.0 CrossProduct whole.0 stands (plan_stands tables source right.0 keeps right.1) (joined_whole at left.columns right.0.columns whole.0 whole.1))
  stepped_stands tables (UnionAllNode source) at n left typed keeps stands e =
      let right = made_of (typed_plan tables source) _ typed e in
      united_stands tables n _ at BagUnion left right.0 typed (λ l r f. f) (λ l r. refl) stands (plan_stands tables source right.0 keeps right.1) right.2
  stepped_stands tables (UnionNode source) at n left typed keeps stands e =
      let right = made_of (typed_plan tables source) _ typed e in
      united_stands tables n _ at SetUnion left right.0 typed (λ l r f. f) (λ l r. refl) stands (plan_stands tables source right.0 keeps right.1) right.2
