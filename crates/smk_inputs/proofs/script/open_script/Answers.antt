use Rattle.std.proofs.Common.{Vec, Global, ℕ, ap}
use Rattle.std.specs.Option.{option_copied}
use Rattle.smk_inputs.proofs.ScriptReads.{no_bytes, bytes_read}
use Rattle.smk_inputs.proofs.script.open_script.Goals as goal

pub returns-in-None-clause-read : goal.returns-in-None-clause-read
returns-in-None-clause-read g c =
    no_bytes (λ (bytes : Vec ℕ Global). bytes.items) _ _ (option_copied c.args.name) c.new.result (ap option_copied c.in-None.is) c.new.ensures.items

pub returns-in-Some-clause-read : goal.returns-in-Some-clause-read
returns-in-Some-clause-read g c =
    bytes_read (λ (bytes : Vec ℕ Global). bytes.items) _ _ c.in-Some.name.now (option_copied c.args.name) c.content.result (ap option_copied c.in-Some.is) c.content.ensures.read
