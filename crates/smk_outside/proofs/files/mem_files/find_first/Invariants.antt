use Rattle.std.proofs.Common.{◌≡◌, drop}
use Rattle.smk_outside.specs.MemFiles.{contents_of}
use Rattle.smk_outside.proofs.files.mem_files.find_first.Given as goal

abbrev pub invariant-loop-file : goal.invariant-loop-file
invariant-loop-file l = contents_of (drop l.file-index l.files) l.name ≡ contents_of l.files l.name
