use Rattle.std.proofs.Common.{◌≡◌, drop, map}
use Rattle.smk_base.specs.declared.book.token.TokenKind.TheVariants.{Name}
use Rattle.smk_parse.specs.Vocabulary.{kind_in}
use Rattle.smk_parse.proofs.front.kind_among.Given as goal

abbrev pub invariant-loop-entry : goal.invariant-loop-entry
invariant-loop-entry l = kind_in (map (λ k. record { word = k.0.now; kind = k.1 }) (drop l.entry-index l.table)) Name l.word ≡ kind_in (map (λ k. record { word = k.0.now; kind = k.1 }) l.table) Name l.word
