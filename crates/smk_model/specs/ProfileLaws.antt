-- Laws of answers to `fd` lines.
use Rattle.std.specs.Prelude.{◌≡◌, ℕ, ◌<◌, List, length, Some}
use Rattle.smk_base.specs.{CatalogImage.{CatalogImage, view_place}, declared.reply.Reply.TheVariants.Back}
use Rattle.smk_model.specs.{Dependencies.violation_at, Profiles.{AreDependencies, ShowsDependency, shown_by, violations_of, group_of, mark_line, profile_reply}, ProfileTexts.IsProfileReply, Replies.reply, Session.{State, first_content}, Typing.info_at}

-- the view of a dependency has a mark for each violation, and the `back` line of the mark is answered by the rows of the violation
pub record MarksAreViolations (catalog : CatalogImage) (state : State) (view : List ℕ) (v : ℕ) : Type 0 where
  pub number : length (first_content catalog state v) ≡ length (violations_of state (shown_by catalog v))
  pub back : (mark : ℕ) → mark < length (violations_of state (shown_by catalog v))
      → let t = (shown_by catalog v).table in
      let group = group_of catalog state t (violation_at (violations_of state (shown_by catalog v)) mark) in
      reply catalog state (mark_line view (info_at catalog.tables t).name mark) ≡ (Back group.rids group.rows, state)

abbrev pub DependenciesAnswered : Type 0
DependenciesAnswered = (catalog : CatalogImage) (state : State) (view : List ℕ) (v : ℕ) → view_place catalog view ≡ Some v → ShowsDependency catalog v → MarksAreViolations catalog state view v

-- every answer to an `fd` line names a table of the catalog, so its text can be written
abbrev pub ProfilesFit : Type 0
ProfilesFit = (catalog : CatalogImage) (state : State) (names : List (List ℕ)) (view : List ℕ) → AreDependencies catalog names → IsProfileReply catalog (profile_reply catalog state names view)
