-- Typed parts as the definitions see them.
use Rattle.std.specs.{Prelude.{List, [], ◌∷◌, ◌++◌, map, Ok}, List.list_any}
use Rattle.smk_base.specs.{declared.value.Kind.Kind, declared.book.tree.Word.Word, declared.book.catalog.Column.Column, declared.book.type_fault.TypeFault.TheVariants.DuplicateName, PlanImage.{expr_of, unary_of}}
use Rattle.smk_model.specs.{Asks.{AskPlan, chain}, Names.{Typed as Found, unless, has_name}, TypedSteps.{TypedPlan, TypedGroup, named}}
use Rattle.smk_typing.specs.{declared.plan.typed.Typed.Typed, declared.plan.typed.TypedGrouping.TypedGrouping, declared.steps.TypedSteps.TypedSteps}

abbrev pub plan_of : Typed → TypedPlan
plan_of typed = record { plan = expr_of typed.plan; columns = typed.columns }

abbrev pub group_of : TypedGrouping → TypedGroup
group_of group = record { keys = group.keys; aggs = group.aggs; columns = group.columns }

-- one more part of a list, and its column under a new name
abbrev pub part_after : {X : Type 0} → List X × List Column → X → Word → Kind → Found (List X × List Column)
part_after made part name kind =
    unless (list_any (has_name name.name) made.1) (DuplicateName name.at)
    (Ok (made.0 ++ part ∷ [], made.1 ++ named name kind ∷ []))

-- typed steps as a plan over one leaf
abbrev pub steps_image : TypedSteps → AskPlan
steps_image typed = record { plan = chain (map unary_of typed.ops); names = typed.names; kinds = typed.kinds }
