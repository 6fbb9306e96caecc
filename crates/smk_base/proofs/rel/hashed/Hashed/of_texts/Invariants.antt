use Rattle.std.proofs.Common.{◌≡◌, take}
use Rattle.smk_base.specs.Dicts.{texts_of}
use Rattle.smk_base.proofs.rel.hashed.Hashed.of_texts.Given as goal

abbrev pub invariant-loop-text : goal.invariant-loop-text
invariant-loop-text l = record {
  texts : l.made.texts ≡ take l.text-index (texts_of l.texts);
}
