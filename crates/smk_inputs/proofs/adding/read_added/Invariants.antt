use Rattle.std.proofs.Common.{◌≡◌, ◌≤◌, ◌-◌, length, deque_items}
use Rattle.smk_base.specs.CatalogImage.{catalog_image}
use Rattle.smk_inputs.proofs.AddedReads.{ArePassed}
use Rattle.smk_inputs.proofs.adding.read_added.Given as goal

abbrev pub invariant-loop-span : goal.invariant-loop-span
invariant-loop-span g l = record {
  passed : ArePassed _ deque_items (catalog_image l.catalog) (g.F.Files.held l.initial.files) l.script l.from l.added;
  inside : l.from ≤ length l.script;
  held : g.F.Files.held l.files ≡ g.F.Files.held l.initial.files;
  later : g.F.Files.faults l.initial.files ≤ g.F.Files.faults l.files;
}

abbrev pub decreases-loop-span : goal.decreases-loop-span
decreases-loop-span g l = length l.script - l.from
