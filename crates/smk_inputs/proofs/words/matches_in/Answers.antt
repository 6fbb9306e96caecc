use Rattle.std.proofs.Common.{ℕ, List, Bor, map}
use Rattle.clap.specs.Words.{app_of}
use Rattle.smk_inputs.proofs.WordsTaken.{matches_taken}
use Rattle.smk_inputs.proofs.words.matches_in.Goals as goal

pub returns-in-Ok : goal.returns-in-Ok
returns-in-Ok c = matches_taken (app_of c.args.command) (map (λ (w : Bor (List ℕ)). w.now) c.args.words.now) c.in-Ok.matches c.requires.simple c.in-Ok.ensures.kinds c.in-Ok.ensures.matches
