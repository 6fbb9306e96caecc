use Rattle.smk_parse.{specs.Vocabulary.AnAskStep, proofs.Steps.behind_smaller}
use Rattle.smk_parse.proofs.ask.ask_steps.Goals as goal

pub steps-smaller : goal.steps-smaller
steps-smaller c = behind_smaller AnAskStep _ c.steps.reader c.ask_step.new.reader c.advance.new.self _ c.in_ok-next.ensures c.advance.ensures
