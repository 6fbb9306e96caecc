-- What is so of the call that answers an own line.
use Rattle.std.specs.{Prelude.{◌≡◌, Bool, cond, ℕ, List}, List.filter}
use Rattle.smk_base.specs.{CatalogImage.CatalogImage, Places.has}
use Rattle.smk_model.specs.{Reports.Answered, Session.{State, selected_for}}
use Rattle.smk_session.specs.declared.answer.rows_behind.RowsBehind.{RowsBehind}
use Rattle.smk_own.specs.declared.answer.OwnAnswer.{OwnAnswer}

-- the text and the refusal are those of the line
pub record IsOwnAnswer (told : OwnAnswer) (line : Answered) : Type 0 where
  pub text : told.text.items ≡ line.text
  pub refused : told.refused ≡ line.refused

-- of the rids that a line asks for, those that are selected now for its view; or all of them
abbrev pub rids_told : CatalogImage → State → Bool → RowsBehind → List ℕ
rids_told catalog state now found = cond now (filter (has (selected_for catalog state found.view found.table)) found.rids) found.rids
