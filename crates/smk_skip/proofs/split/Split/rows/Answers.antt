use Rattle.std.proofs.{Common.{◌≡◌, ◌∙◌, pos, sym, subst, arith}, lemmas.Grind.common_steps, lemmas.Result.IfOk-weaker}
use Rattle.smk_base.specs.{Values.value_eq, declared.value.Value.TheVariants.Int, Places.{IsPlaces, has, places, list_at}}
use Rattle.smk_base.proofs.Places.{no_place}
use Rattle.std.specs.List.{flat_map}
use Rattle.smk_skip.specs.{Parts.run, Splits.{SplitImage, members_with}}
use Rattle.smk_skip.proofs.Members.{members_run, members_set, none_found, position_none, stretch_within}
use Rattle.smk_skip.proofs.split.Split.rows.Goals as goal

pub joined_runs-requires-clause-within : goal.joined_runs-requires-clause-within
joined_runs-requires-clause-within c =
    let a = c.self.inside in
    rw (c.start-start.ensures, c.at-rids.ensures.rids) (stretch_within _ a.values.keys a.by_value a.places c.in-Some.place c.args.v.now c.self.invariant (sym c.in-Some.ensures))

pub returns-in-Some-clause-rids : goal.returns-in-Some-clause-rids
returns-in-Some-clause-rids c =
    let a = c.self.inside in
    let marks = c.args.marks.now in
    let split : SplitImage = record { map = a.map.value; rows = a.rel.value.rows; col = a.col } in
    let is = members_run split a.values.keys a.by_value a.places c.in-Some.place marks c.args.v.now c.start-start.result c.at-rids.result.now c.bound.result c.self.invariant (sym c.in-Some.ensures) c.start-start.ensures c.at-rids.ensures.rids c.bound.ensures in
    rw (← c.self.view_is) (IfOk-weaker c.joined_runs.result (λ r. r ≡ places (has (flat_map (λ mark. run c.start-start.result c.at-rids.result.now (list_at a.places mark)) marks)) c.bound.result) (λ r. r ≡ members_with split marks c.args.v.now) (λ r e. e ∙ is) c.joined_runs.ensures)

pub returns-in-Some-clause-set : goal.returns-in-Some-clause-set
returns-in-Some-clause-set c =
    let a = c.self.inside in
    let marks = c.args.marks.now in
    let split : SplitImage = record { map = a.map.value; rows = a.rel.value.rows; col = a.col } in
    let is = members_run split a.values.keys a.by_value a.places c.in-Some.place marks c.args.v.now c.start-start.result c.at-rids.result.now c.bound.result c.self.invariant (sym c.in-Some.ensures) c.start-start.ensures c.at-rids.ensures.rids c.bound.ensures in
    rw (← c.self.view_is) (IfOk-weaker c.joined_runs.result (λ r. r ≡ places (has (flat_map (λ mark. run c.start-start.result c.at-rids.result.now (list_at a.places mark)) marks)) c.bound.result) (IsPlaces a.map.value.bound) (λ r e. subst (IsPlaces a.map.value.bound) (sym (e ∙ is)) (members_set split marks c.args.v.now)) c.joined_runs.ensures)

pub returns-in-None-clause-rids : goal.returns-in-None-clause-rids
returns-in-None-clause-rids c =
    let a = c.self.inside in
    let split : SplitImage = record { map = a.map.value; rows = a.rel.value.rows; col = a.col } in
    rw (← c.self.view_is) (c.new.ensures ∙ sym (none_found split a.values.keys a.by_value a.places c.args.marks.now c.args.v.now c.self.invariant (position_none (value_eq c.args.v.now) a.values.keys (Int (pos 0)) (sym c.in-None.ensures))))

pub returns-in-None-clause-set : goal.returns-in-None-clause-set
returns-in-None-clause-set c = rw c.new.ensures (no_place c.args.self.now.map.bound)

pub joined_runs-requires-clause-marks : goal.joined_runs-requires-clause-marks
joined_runs-requires-clause-marks c = grind (arith, common_steps)

pub at-rids-requires : goal.at-rids-requires
at-rids-requires c = grind (arith, common_steps)
