use Rattle.std.proofs.Common.{◌≡◌, length, map}
use Rattle.smk_base.specs.Places.{upto}
use Rattle.smk_model.specs.Session.{rows_of_table}
use Rattle.smk_session.specs.Sessions.{state_of}
use Rattle.smk_own.proofs.schemas.table_rows.Given as goal

abbrev pub invariant-loop-t : goal.invariant-loop-t
invariant-loop-t l = l.counts.items ≡ map (λ t. length (rows_of_table (state_of l.session) t)) (upto l.t)
