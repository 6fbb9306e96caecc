use Rattle.std.proofs.Common.{◌≡◌, length, subst, IfOk}
use Rattle.smk_base.specs.PlanImage.{expr_of}
use Rattle.smk_compose.specs.declared.kept_maps.Run.{Run}
use Rattle.smk_chain.proofs.{Joining.scans_below, Running.{runs_of, chain_joins, chain_gives, group_goals}}
use Rattle.smk_chain.proofs.growing.grown.Goals as goal

pub bounds-tables-scanned : goal.bounds-tables-scanned
bounds-tables-scanned c = rw c.scanned_table-scanned.ensures (scans_below (expr_of c.args.plan.now) (length c.args.tables.now) c.requires.scans)

pub grown_chain-requires : goal.grown_chain-requires
grown_chain-requires c =
    let plan = expr_of c.args.plan.now in
    let T = c.args.tables.now in
    let runs = runs_of plan T c.scanned_table-scanned.result c.index-tables-scanned.result c.args.len c.args.need.now c.args.old.now c.args.new.now c.scanned_table-scanned.ensures c.index-tables-scanned.is c.requires.growing c.requires.scans c.requires.len c.len-rows.ensures.keeps.few_rows c.requires.old c.requires.new in
    chain_joins plan T c.args.len c.args.need.now c.args.old.now c.args.new.now c.as_slice.ensures.needed c.scanned_table-scanned.ensures c.requires.need runs (c.in-None.ensures c.requires.growing)

pub returns-in-None : goal.returns-in-None
returns-in-None c =
    let plan = expr_of c.args.plan.now in
    let T = c.args.tables.now in
    let runs = runs_of plan T c.scanned_table-scanned.result c.index-tables-scanned.result c.args.len c.args.need.now c.args.old.now c.args.new.now c.scanned_table-scanned.ensures c.index-tables-scanned.is c.requires.growing c.requires.scans c.requires.len c.len-rows.ensures.keeps.few_rows c.requires.old c.requires.new in
    subst (λ (z : Run). IfOk c.grown_chain.result (λ run. run ≡ z))
    (chain_gives plan T c.args.len c.args.need.now c.args.old.now c.args.new.now c.as_slice.ensures.needed c.scanned_table-scanned.ensures runs (c.in-None.ensures c.requires.growing)) c.grown_chain.ensures

pub grown_groups-requires : goal.grown_groups-requires
grown_groups-requires c =
    let plan = expr_of c.args.plan.now in
    let T = c.args.tables.now in
    let runs = runs_of plan T c.scanned_table-scanned.result c.index-tables-scanned.result c.args.len c.args.need.now c.args.old.now c.args.new.now c.scanned_table-scanned.ensures c.index-tables-scanned.is c.requires.growing c.requires.scans c.requires.len c.len-rows.ensures.keeps.few_rows c.requires.old c.requires.new in
    (group_goals plan c.in-Some.last.keys.now c.in-Some.last.aggs.now c.in-Some.ensures.0 T c.scanned_table-scanned.result c.index-tables-scanned.result c.args.len c.args.need.now c.as_slice.result.now c.args.old.now c.args.new.now
    c.in-Some.ensures.1 c.as_slice.ensures.needed c.scanned_table-scanned.ensures c.index-tables-scanned.is c.requires.need c.requires.scans c.requires.fits c.len-rows.ensures.base c.len-rows.ensures.keeps.fit runs).asks

pub returns-in-Some : goal.returns-in-Some
returns-in-Some c =
    let plan = expr_of c.args.plan.now in
    let T = c.args.tables.now in
    let runs = runs_of plan T c.scanned_table-scanned.result c.index-tables-scanned.result c.args.len c.args.need.now c.args.old.now c.args.new.now c.scanned_table-scanned.ensures c.index-tables-scanned.is c.requires.growing c.requires.scans c.requires.len c.len-rows.ensures.keeps.few_rows c.requires.old c.requires.new in
    subst (λ (z : Run). IfOk c.grown_groups.result (λ run. run ≡ z))
    (group_goals plan c.in-Some.last.keys.now c.in-Some.last.aggs.now c.in-Some.ensures.0 T c.scanned_table-scanned.result c.index-tables-scanned.result c.args.len c.args.need.now c.as_slice.result.now c.args.old.now c.args.new.now
    c.in-Some.ensures.1 c.as_slice.ensures.needed c.scanned_table-scanned.ensures c.index-tables-scanned.is c.requires.need c.requires.scans c.requires.fits c.len-rows.ensures.base c.len-rows.ensures.keeps.fit runs).run c.grown_groups.ensures
