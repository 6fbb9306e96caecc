use Rattle.std.proofs.Common.{◌∙◌, ℕ, List, map, option_map, ap, Bor}
use Rattle.smk_outside.specs.Outside.{Rose}
use Rattle.smk_inputs.specs.{declared.called.RunWords.RunWords, Image.texts_image}
use Rattle.smk_inputs.proofs.Stops.{texts_asked}
use Rattle.smk_top.proofs.Endings.{usage_stops}
use Rattle.smk_top.proofs.program.work.Goals as goal

pub returns-in-None-clause-works : goal.returns-in-None-clause-works
returns-in-None-clause-works g c =
    usage_stops (map (λ (w : Bor (List ℕ)). w.now) c.args.words.now) _ _ (Rose (g.O.Sink.faults c.args.out.now) (g.O.Sink.faults c.args.out.now)) _ (texts_asked (map (λ (w : Bor (List ℕ)). w.now) c.args.words.now) _ c.in_ok-found.ensures ∙ ap (option_map (λ (call : RunWords). texts_image call.texts)) c.in-None.is)

pub returns-in-Some-clause-works : goal.returns-in-Some-clause-works
returns-in-Some-clause-works g c =
    c.work_on.ensures.works (map (λ (w : Bor (List ℕ)). w.now) c.args.words.now) (texts_asked (map (λ (w : Bor (List ℕ)). w.now) c.args.words.now) _ c.in_ok-found.ensures ∙ ap (option_map (λ (call : RunWords). texts_image call.texts)) c.in-Some.is)

pub returns-in-Some-clause-looks : goal.returns-in-Some-clause-looks
returns-in-Some-clause-looks g c =
    c.work_on.ensures.looks (map (λ (w : Bor (List ℕ)). w.now) c.args.words.now) (texts_asked (map (λ (w : Bor (List ℕ)). w.now) c.args.words.now) _ c.in_ok-found.ensures ∙ ap (option_map (λ (call : RunWords). texts_image call.texts)) c.in-Some.is)
