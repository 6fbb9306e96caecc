use Rattle.std.specs.Prelude.{Ok}
use Rattle.std.proofs.{Common.{◌∙◌, ap, sym}, lemmas.Result.err_from_is_err_and}
use Rattle.smk_model.proofs.InTurn.{then}
use Rattle.smk_parse.{specs.Vocabulary.head_of, proofs.Steps.asked_reads, proofs.Steps.asked_of}
use Rattle.smk_parse.proofs.plan.ask_step.Goals as goal

pub returns-in_err-what : goal.returns-in_err-what
returns-in_err-what c =
    let p = err_from_is_err_and c.from_residual-in_err-what.result c.from_residual-in_err-what.ensures.1 in
    rw (p.1, p.2) (λ m. asked_reads c.kind-kind.result c.args.reader.now c.take_node.new.reader c.kind-kind.ensures.is (sym c.if-not-has_one_input.ensures.one) c.in_ok-take_node.ensures.few c.kind-kind.ensures.here c.in_ok-take_node.ensures.taken ∙ ap (λ q. then q (λ s b. Ok (asked_of (head_of c.args.reader.now.rest).at s, b))) (c.in_err-what.ensures m))
