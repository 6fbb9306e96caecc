-- The answer to an `fd` line: for each key that violates a dependency, the rows with that key.
use Rattle.std.specs.{Prelude.{◌≡◌, ℕ, Bool, true, false, cond, List, [], ◌∷◌, length, map, Option, Some, None, IfSome, All}, List.sum_by}
use Rattle.smk_base.specs.{CatalogImage.{CatalogImage, view_place, table_place}, declared.reply.Group.Group, declared.reply.ProfileReply.ProfileReply, declared.reply.ProfileReply.TheVariants.{Found, Refused}, declared.reply.ProfileRefusal.TheVariants.{UnknownView, NotProfile}, declared.book.tree.Line.Line}
use Rattle.smk_base.specs.declared.book.tree.Line.TheVariants as lines
use Rattle.smk_base.specs.declared.book.tree.Marks.TheVariants as markings
use Rattle.smk_base.specs.declared.book.tree.Then.TheVariants as thens
use Rattle.smk_model.specs.{Dependencies.{Dependency, Violation, violations, dependency_of, plan_of}, Names.is_taken, Replies.rows_at_rids, Session.{State, view_at, rows_of_table}, Typing.info_at, Workload.declares_back}

-- the dependency that a view shows
abbrev pub shown_by : CatalogImage → ℕ → Dependency
shown_by catalog v = dependency_of (view_at catalog v).plan

-- the violations of a dependency
abbrev pub violations_of : State → Dependency → List Violation
violations_of state shown = violations (rows_of_table state shown.table) shown.keys shown.col

-- the rows of a violation, with their rids
abbrev pub group_of : CatalogImage → State → ℕ → Violation → Group
group_of catalog state t violation = record { rids = violation.rids; rows = rows_at_rids catalog state t violation.rids }

abbrev pub groups_of : CatalogImage → State → Dependency → List Group
groups_of catalog state shown = map (group_of catalog state shown.table) (violations_of state shown)

-- the answer to an `fd` line for the view with this number, or for an unknown view; `names` are those of the book's dependencies
abbrev pub profile_at : CatalogImage → State → List (List ℕ) → List ℕ → Option ℕ → ProfileReply
profile_at catalog state names view None = Refused UnknownView
profile_at catalog state names view (Some v) =
    cond (is_taken view names) (Found (shown_by catalog v).table (groups_of catalog state (shown_by catalog v))) (Refused NotProfile)

-- the answer to an `fd` line; the state stays
abbrev pub profile_reply : CatalogImage → State → List (List ℕ) → List ℕ → ProfileReply
profile_reply catalog state names view = profile_at catalog state names view (view_place catalog view)

-- one look for each row that is printed
abbrev pub looks_of_groups : List Group → ℕ
looks_of_groups groups = sum_by (λ group. length group.rids) groups

abbrev pub looks_of_profile : ProfileReply → ℕ
looks_of_profile (Found table groups) = looks_of_groups groups
looks_of_profile (Refused refusal) = 0

abbrev pub profile_looks : CatalogImage → State → List (List ℕ) → List ℕ → ℕ
profile_looks catalog state names view = looks_of_profile (profile_reply catalog state names view)

-- whether an answer is a refusal
abbrev pub is_profile_refused : ProfileReply → Bool
is_profile_refused (Found table groups) = false
is_profile_refused (Refused refusal) = true

-- a view shows a dependency: its plan is that of one, and its backward query to the table of the dependency is declared; the table is found by its name
pub record ShowsDependency (catalog : CatalogImage) (v : ℕ) : Type 0 where
  pub plan : (view_at catalog v).plan ≡ plan_of (shown_by catalog v)
  pub declared : declares_back catalog v (shown_by catalog v).table ≡ true
  pub named : table_place catalog (info_at catalog.tables (shown_by catalog v).table).name ≡ Some (shown_by catalog v).table

-- each view with one of these names shows a dependency
abbrev pub AreDependencies : CatalogImage → List (List ℕ) → Type 0
AreDependencies catalog names = All (λ name. IfSome (view_place catalog name) (ShowsDependency catalog)) names

-- the `back` line for a mark of a view
abbrev pub mark_line : List ℕ → List ℕ → ℕ → Line
mark_line view table mark = lines.Back view (markings.Listed (mark ∷ [])) table thens.Plain
