use Rattle.std.proofs.Common.{◌≡◌, drop}
use Rattle.smk_model.specs.Outcome.{file_named}
use Rattle.smk_inputs.proofs.demo_texts.find_file.Given as goal

abbrev pub invariant-loop-file : goal.invariant-loop-file
invariant-loop-file l = file_named (drop l.file-index l.files) l.name ≡ file_named l.files l.name
