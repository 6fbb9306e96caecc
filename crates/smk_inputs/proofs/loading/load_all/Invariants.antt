use Rattle.std.proofs.Common.{◌≡◌, ◌≤◌, take, Ok, Vec, Global}
use Rattle.smk_base.specs.Rels.{Relation}
use Rattle.smk_model.specs.{Catalogs.each_table_kinds, Selection.{each_rows, each_kinds}}
use Rattle.smk_inputs.specs.Collecting.{Loads}
use Rattle.smk_inputs.proofs.loading.load_all.Given as goal

abbrev pub invariant-loop-info : goal.invariant-loop-info
invariant-loop-info g l = record {
  loaded : Loads (g.F.Files.held l.initial.files) (Unit {0}) (take l.info-index l.infos) (λ (tables : Vec Relation Global). each_rows tables.items) (Ok l.tables);
  kinds : each_kinds l.tables.items ≡ each_table_kinds (take l.info-index l.infos);
  held : g.F.Files.held l.files ≡ g.F.Files.held l.initial.files;
  later : g.F.Files.faults l.initial.files ≤ g.F.Files.faults l.files;
}
