use Rattle.std.specs.Prelude.{length}
use Rattle.std.proofs.Common.{ap, sym, ◌∙◌, subst}
use Rattle.smk_base.specs.Places.{upto}
use Rattle.smk_model.specs.Session.{rows_of_table}
use Rattle.smk_session.specs.{Behind.RidsFit, Sessions.state_of}
use Rattle.smk_own.proofs.Parts.{all_fit}
use Rattle.smk_own.proofs.selecting.rids_selected.Goals as goal

pub returns-in_ok-numbers_below-in-None-clause-fit : goal.returns-in_ok-numbers_below-in-None-clause-fit
returns-in_ok-numbers_below-in-None-clause-fit c =
    let n = length (rows_of_table (state_of c.args.session.now) c.args.table) in
    subst (RidsFit n) (sym (c.from_vec.ensures ∙ c.in_ok-numbers_below-in-None.ensures ∙ ap upto c.table_len.ensures)) (all_fit n)
