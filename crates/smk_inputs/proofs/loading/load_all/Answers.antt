use Rattle.std.proofs.{Common.{◌∙◌, Vec, Global, arith}, lemmas.Result.err_from_is_err_and}
use Rattle.smk_base.specs.Rels.{Relation}
use Rattle.smk_model.specs.Selection.{each_rows}
use Rattle.smk_outside.specs.Outside.{Rose}
use Rattle.smk_inputs.proofs.{Stops.rose_within, TableLoads.{loaded_next, stopped_here, rows_more, kinds_next, reads_held}}
use Rattle.smk_inputs.proofs.loading.load_all.Goals as goal

pub returns-in_err-load-clause-read : goal.returns-in_err-load-clause-read
returns-in_err-load-clause-read g c =
    let p = err_from_is_err_and c.from_residual.result c.from_residual.ensures.1 in
    let wide : Rose (g.F.Files.faults c.loop-info.files) (g.F.Files.faults c.load.new.files) → Rose (g.F.Files.faults c.args.files.now) (g.F.Files.faults c.load.new.files) =
    λ up. rose_within _ _ _ _ c.loop-info.invariant.later c.in_err-load.ensures.later (omega arith) up in
    rw (p.1, p.2) (stopped_here (λ (tables : Vec Relation Global). each_rows tables.items) (λ (table : Relation). table.rows) (λ (tables : Vec Relation Global). each_rows tables.items) _ _ _ _ c.args.infos.now c.loop-info.info-index c.info-item.result c.info-item.result c.loop-info.tables _ c.loop-info-test.true c.info-item.is wide c.loop-info.invariant.loaded (reads_held _ _ _ _ _ _ _ c.loop-info.invariant.held c.in_err-load.ensures.read))

pub loop-info-preserved : goal.loop-info-preserved
loop-info-preserved g c = record {
  loaded = loaded_next (λ (tables : Vec Relation Global). each_rows tables.items) (λ (table : Relation). table.rows) _ _ _ _ c.args.infos.now c.loop-info.info-index c.info-item.result c.info-item.result c.loop-info.tables c.push.new.self c.in_ok-load.field-0 c.loop-info-test.true c.info-item.is c.loop-info.invariant.loaded (reads_held _ _ _ _ _ _ _ c.loop-info.invariant.held c.in_ok-load.ensures.read) (rows_more _ _ _ c.in_ok-push.ensures.items);
  kinds = kinds_next c.args.infos.now c.loop-info.info-index c.info-item.result c.info-item.result _ _ _ c.loop-info-test.true c.info-item.is c.loop-info.invariant.kinds c.in_ok-load.ensures.kinds c.in_ok-push.ensures.items;
  held = c.in_ok-load.ensures.held ∙ c.loop-info.invariant.held;
  later = omega (arith, c.in_ok-load.ensures.later, c.loop-info.invariant.later);
}
