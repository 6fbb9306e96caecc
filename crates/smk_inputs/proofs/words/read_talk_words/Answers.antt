use Rattle.std.proofs.Common.{◌≡◌, ℕ, List, Bor, Option, IfOk, map, option_map, subst}
use Rattle.clap.specs.Words.{app_of}
use Rattle.smk_model.specs.TalkWords.{TalkCall, talk_app, talk_call_in}
use Rattle.smk_inputs.specs.Image.{talk_image}
use Rattle.smk_inputs.proofs.WordsTaken.{said_by_matches, none_without_matches}
use Rattle.smk_inputs.proofs.words.read_talk_words.Goals as goal

pub returns-in-Some : goal.returns-in-Some
returns-in-Some c =
    subst (λ (said : Option TalkCall). IfOk c.called_to_talk.result (λ found. option_map talk_image found ≡ said))
    (said_by_matches talk_call_in (app_of c.in_ok-talk_command.field-0) talk_app (map (λ (w : Bor (List ℕ)). w.now) c.args.words.now) c.in-Some.matches c.in_ok-talk_command.ensures (rw c.in-Some.is at c.in_ok-matches.ensures))
    c.called_to_talk.ensures

pub returns-in-None : goal.returns-in-None
returns-in-None c =
    none_without_matches talk_call_in (app_of c.in_ok-talk_command.field-0) talk_app (map (λ (w : Bor (List ℕ)). w.now) c.args.words.now) c.in_ok-talk_command.ensures (rw c.in-None.is at c.in_ok-matches.ensures)
