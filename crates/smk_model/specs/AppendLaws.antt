-- Laws of answers to `append` lines.
use Rattle.std.specs.Prelude.{◌≡◌, ℕ, true, false, List, Some}
use Rattle.smk_base.specs.CatalogImage.{CatalogImage, table_place}
use Rattle.smk_model.specs.{Values.Row, Session.{State, first_state}, Appends.{append_turn, is_append_refused, longer_book}, AppendTexts.IsAppendReply}

-- every answer to an `append` line names only views and tables of the catalog, so its text can be written
abbrev pub AppendsFit : Type 0
AppendsFit = (catalog : CatalogImage) (state : State) (table : List ℕ) (more : List Row) → IsAppendReply catalog (append_turn catalog state table more).reply

-- a refused line changes nothing
abbrev pub RefusedAppendsStay : Type 0
RefusedAppendsStay = (catalog : CatalogImage) (state : State) (table : List ℕ) (more : List Row) → is_append_refused (append_turn catalog state table more).reply ≡ true → (append_turn catalog state table more).next ≡ state

-- after appended rows a session is one that begins with the longer table
abbrev pub AppendsBeginAnew : Type 0
AppendsBeginAnew = (catalog : CatalogImage) (state : State) (table : List ℕ) (t : ℕ) (more : List Row) → table_place catalog table ≡ Some t
    → is_append_refused (append_turn catalog state table more).reply ≡ false → (append_turn catalog state table more).next ≡ first_state (longer_book catalog state t more)
