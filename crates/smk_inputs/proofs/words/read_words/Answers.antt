use Rattle.std.proofs.Common.{◌≡◌, ℕ, List, Bor, Option, IfOk, map, option_map, subst}
use Rattle.clap.specs.Words.{app_of}
use Rattle.smk_model.specs.Words.{Invocation, smoke_app, invocation_in}
use Rattle.smk_inputs.specs.Image.{invocation_image}
use Rattle.smk_inputs.proofs.WordsTaken.{said_by_matches, none_without_matches}
use Rattle.smk_inputs.proofs.words.read_words.Goals as goal

pub returns-in-Some : goal.returns-in-Some
returns-in-Some c =
    subst (λ (said : Option Invocation). IfOk c.called_for.result (λ found. option_map invocation_image found ≡ said))
    (said_by_matches invocation_in (app_of c.in_ok-smoke_command.field-0) smoke_app (map (λ (w : Bor (List ℕ)). w.now) c.args.words.now) c.in-Some.matches c.in_ok-smoke_command.ensures (rw c.in-Some.is at c.in_ok-matches.ensures))
    c.called_for.ensures

pub returns-in-None : goal.returns-in-None
returns-in-None c =
    none_without_matches invocation_in (app_of c.in_ok-smoke_command.field-0) smoke_app (map (λ (w : Bor (List ℕ)). w.now) c.args.words.now) c.in_ok-smoke_command.ensures (rw c.in-None.is at c.in_ok-matches.ensures)
