-- The steps of an `ask` line that stand make a plan over one leaf that fits its kinds.
use Rattle.std.proofs.{Common.{◌≡◌, ◌∙◌, ◌+◌, ◌<◌, ◌≤◌, ℕ, List, [], ◌∷◌, ◌++◌, length, map, get_or, Result, Ok, Err, refl, sym, ap, subst, arith, All}, lemmas.List.{length-map, get_or-map}, lemmas.List.Elements.{All-head, All-tail}}
use Rattle.std.specs.Prelude.{IfOk}
use Rattle.smk_base.specs.{declared.book.col_decl.ColDecl.ColDecl, declared.book.catalog.Column.Column, declared.book.catalog.TableInfo.TableInfo, declared.book.tree.AskStep.AskStep, declared.book.type_fault.TypeFault.TypeFault, PlanImage.unary_of, Plans.{Expr, Leaf, Apply, Combine}, Trees.{AskStepImage, StepImage, SelectNode, ProjectNode, DistinctNode, GroupNode}, TreeImage.ask_step_image, declared.book.limits.TheConstants.NODE_LIMIT}
use Rattle.smk_model.specs.{Asks.{AskPlan, asked_plan, chain, scan_of, step_after, typed_steps}, Catalogs.each_table_kinds, Limits.{KeepsAskStep, KeepsStep}, Names.{Typed, in_turn, column_kinds}, Plain.leaves, Selection.{PlanFits, leaf_kinds, nodes, plan_kinds}, TypedSteps.{TypedPlan, typed_pred, typed_items, typed_group}, Typing.{column_of, typed_step}}
use Rattle.smk_model.proofs.{Asks.chain_nodes, Rules.then_same}
use Rattle.smk_typing.specs.{Answers.{Fails, Finds}, Images.steps_image, declared.steps.TypedSteps.TypedSteps, Steps.{IsChain, asked_after}}
use Rattle.smk_typing.proofs.{PlansFit.{Stands, scan_stands, stepped_stands}, Results.{made_of, ok_keeps, ok_same}}

abbrev Keeps : AskStepImage → Type 0
Keeps step = KeepsAskStep step.what

-- such a step keeps the limits of any step
keeps_any : (what : StepImage) → KeepsAskStep what → KeepsStep what
keeps_any (SelectNode pred) keeps = tt
keeps_any (ProjectNode items) keeps = keeps
keeps_any (DistinctNode items) keeps = keeps
keeps_any (GroupNode keys aggs) keeps = tt
keeps_any _ keeps = absurd keeps

pub step_keeps : (steps : List AskStep) (i : ℕ) (step : AskStep) → All Keeps (map ask_step_image steps) → i < length steps → step ≡ get_or steps i step → KeepsStep (ask_step_image step).what
step_keeps steps i step all below here =
    let low : i < length (map ask_step_image steps) = omega (arith, below, length-map steps ask_step_image) in
    let there : get_or (map ask_step_image steps) i (ask_step_image step) ≡ ask_step_image step = get_or-map ask_step_image steps i step (ask_step_image step) below ∙ ap ask_step_image (sym here) in
    keeps_any (ask_step_image step).what (subst Keeps there (all i (ask_step_image step) low))

-- steps as they are declared, and as the definitions see them
in_turn_seen : (typed : TypedPlan) (steps : List AskStep) → in_turn asked_after typed steps ≡ in_turn step_after typed (map ask_step_image steps)
in_turn_seen typed [] = refl
in_turn_seen typed (step ∷ steps) = then_same (asked_after typed step) (λ more. in_turn_seen more steps)

-- over columns that were copied
pub in_turn_over : (cols : List ColDecl) (columns : List Column) (steps : List AskStep) → (let found : Typed (List Column) = Ok (map column_of cols) in found) ≡ Ok columns
    → in_turn step_after (scan_of (map column_of cols)) (map ask_step_image steps) ≡ in_turn asked_after (scan_of columns) steps
in_turn_over cols columns steps e = sym (in_turn_seen (scan_of (map column_of cols)) steps) ∙ ap (λ own. in_turn asked_after (scan_of own) steps) (ok_same (map column_of cols) columns e)

-- a chain of n nodes over one table
pub record Chained (table : TableInfo) (n : ℕ) (typed : TypedPlan) : Type 0 where
  pub stands : Stands (table ∷ []) n typed
  pub chain : IsChain typed.plan

abbrev IsOne : TypedPlan → Type 0
IsOne typed = IsChain typed.plan

chained_more : (table : TableInfo) (what : StepImage) (at n : ℕ) (left typed : TypedPlan) → KeepsAskStep what → Chained table n left → typed_step [] what at left ≡ Ok typed → Chained table (n + 1) typed
chained_more table (SelectNode pred) at n left typed keeps held e =
    let made = made_of (typed_pred left.columns pred) _ typed e in
    record { stands = stepped_stands (table ∷ []) (SelectNode pred) at n left typed tt held.stands e; chain = ok_keeps IsOne _ typed made.2 held.chain }
chained_more table (ProjectNode items) at n left typed keeps held e =
    let made = made_of (typed_items left.columns items) _ typed e in
    record { stands = stepped_stands (table ∷ []) (ProjectNode items) at n left typed keeps held.stands e; chain = ok_keeps IsOne _ typed made.2 held.chain }
chained_more table (DistinctNode items) at n left typed keeps held e =
    let made = made_of (typed_items left.columns items) _ typed e in
    record { stands = stepped_stands (table ∷ []) (DistinctNode items) at n left typed keeps held.stands e; chain = ok_keeps IsOne _ typed made.2 held.chain }
chained_more table (GroupNode keys aggs) at n left typed keeps held e =
    let made = made_of (typed_group left.columns at keys aggs) _ typed e in
    record { stands = stepped_stands (table ∷ []) (GroupNode keys aggs) at n left typed tt held.stands e; chain = ok_keeps IsOne _ typed made.2 held.chain }
chained_more table _ at n left typed keeps held e = absurd keeps

chained_turn : (table : TableInfo) (n : ℕ) (start typed : TypedPlan) (steps : List AskStepImage) → Chained table n start → All Keeps steps → in_turn step_after start steps ≡ Ok typed → Chained table (n + length steps) typed
chained_turn table n start typed [] held all e =
    let same : n ≡ n + 0 = omega arith in
    subst (λ m. Chained table m typed) same (ok_keeps (Chained table n) start typed e held)
chained_turn table n start typed (step ∷ steps) held all e =
    let first = made_of (step_after start step) (λ more. in_turn step_after more steps) typed e in
    let more = chained_more table step.what step.at n start first.0 (All-head Keeps step steps all) held first.1 in
    let same : (n + 1) + length steps ≡ n + length (step ∷ steps) = omega arith in
    subst (λ m. Chained table m typed) same (chained_turn table (n + 1) first.0 typed steps more (All-tail Keeps step steps all) first.2)

-- the one leaf of a chain
chain_leaves : (plan : Expr) → IsChain plan → leaves plan ≡ 0 ∷ []
chain_leaves (Leaf table) is = ap (λ (t : ℕ). t ∷ []) is
chain_leaves (Apply op input) is = chain_leaves input is
chain_leaves (Combine op left right) is = absurd is

-- a table of these columns
abbrev table_with : List ColDecl → TableInfo
table_with cols = record { name = []; file = []; cols = cols }

-- typed steps fit the kinds of these columns, with one node more than there are steps
pub record StepsFit (columns : List Column) (n : ℕ) (typed : TypedPlan) : Type 0 where
  pub chain : IsChain typed.plan
  pub fits : PlanFits typed.plan (column_kinds columns ∷ [])
  pub kinds : plan_kinds typed.plan (column_kinds columns ∷ []) ≡ column_kinds typed.columns
  pub size : nodes typed.plan ≡ n + 1

pub steps_fit : (cols : List ColDecl) (steps : List AskStepImage) (typed : TypedPlan) → All Keeps steps → in_turn step_after (scan_of (map column_of cols)) steps ≡ Ok typed → StepsFit (map column_of cols) (length steps) typed
steps_fit cols steps typed all e =
    let table : TableInfo = table_with cols in
    let first : Chained table 1 (scan_of (map column_of cols)) = record { stands = scan_stands (table ∷ []) 0 (omega arith); chain = refl } in
    let held = chained_turn table 1 (scan_of (map column_of cols)) typed steps first all e in
    let one : leaf_kinds typed.plan (each_table_kinds (table ∷ [])) ++ [] ≡ column_kinds (map column_of cols) ∷ [] = ap (λ ts. map (λ t. get_or (each_table_kinds (table ∷ [])) t []) ts ++ []) (chain_leaves typed.plan held.chain) in
    record {
      chain = held.chain;
      fits = subst (PlanFits typed.plan) one (held.stands.fits []);
      kinds = ap (plan_kinds typed.plan) (sym one) ∙ held.stands.kinds [];
      size = omega (arith, held.stands.size);
    }

-- what is taken apart is what was typed
pub steps_found : (columns : List Column) (steps : List AskStepImage) (typed : TypedPlan) (result : Result TypedSteps TypeFault) → in_turn step_after (scan_of columns) steps ≡ Ok typed → Finds result (Ok (asked_plan typed)) steps_image → Finds result (typed_steps columns steps) steps_image
steps_found columns steps typed result e made = let whole : typed_steps columns steps ≡ Ok (asked_plan typed) = rw e refl in subst (λ (found : Typed AskPlan). Finds result found steps_image) (sym whole) made

-- the first fault of the steps
pub steps_fail : (columns : List Column) (steps : List AskStepImage) (fault : TypeFault) → Fails fault (in_turn step_after (scan_of columns) steps) → Fails fault (typed_steps columns steps)
steps_fail columns steps fault fails other = rw (fails other) refl

-- what the parts of a chain keep
pub record PartsFit (columns : List Column) (made : TypedSteps) : Type 0 where
  pub fits : PlanFits (chain (map unary_of made.ops)) (column_kinds columns ∷ [])
  pub kinds : plan_kinds (chain (map unary_of made.ops)) (column_kinds columns ∷ []) ≡ made.kinds
  pub few : length made.ops ≤ NODE_LIMIT

pub parts_fit : (columns : List Column) (n : ℕ) (typed : TypedPlan) (result : Result TypedSteps TypeFault) → n ≤ NODE_LIMIT → StepsFit columns n typed → Finds result (Ok (asked_plan typed)) steps_image → IfOk result (PartsFit columns)
parts_fit columns n typed (Ok made) low fit found =
    let same : asked_plan typed ≡ steps_image made = ok_same _ _ found in
    let plan : typed.plan ≡ chain (map unary_of made.ops) = ap (λ (p : AskPlan). p.plan) same in
    let kinds : column_kinds typed.columns ≡ made.kinds = ap (λ (p : AskPlan). p.kinds) same in
    record {
      fits = subst (λ (p : Expr). PlanFits p (column_kinds columns ∷ [])) plan fit.fits;
      kinds = ap (λ p. plan_kinds p (column_kinds columns ∷ [])) (sym plan) ∙ fit.kinds ∙ kinds;
      few = omega (arith, low, fit.size, ap nodes plan, chain_nodes (map unary_of made.ops), length-map made.ops unary_of);
    }
parts_fit columns n typed (Err fault) low fit found = tt

pub part_of : {X : Type 0} (P Q : X → Type 0) (result : Result X TypeFault) → ((x : X) → P x → Q x) → IfOk result P → IfOk result Q
part_of P Q (Ok x) take held = take x held
part_of P Q (Err fault) take held = tt
