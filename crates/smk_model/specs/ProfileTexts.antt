-- The texts of answers to `fd` lines.
use Rattle.std.specs.{Prelude.{◌≡◌, ◌<◌, ℕ, List, [], ◌∷◌, ◌++◌, length, map, slice_index_or, All, codes, decimal}, List.flat_map}
use Rattle.smk_base.specs.{CatalogImage.CatalogImage, declared.reply.Group.Group, declared.reply.ProfileReply.ProfileReply, declared.reply.ProfileReply.TheVariants.{Found, Refused}, declared.reply.ProfileRefusal.ProfileRefusal, declared.reply.ProfileRefusal.TheVariants.{UnknownView, NotProfile}}
use Rattle.smk_model.specs.{Lineage.upto, Texts.{line, record_line, row_lines}, Typing.info_at}

-- the mark of rows with one key, and how many they are
abbrev pub mark_heading : ℕ → Group → List ℕ
mark_heading mark group = line (codes "mark " ∷ decimal mark ∷ codes " " ∷ decimal (length group.rows.rows) ∷ [])

-- rows with one key: the line of their mark, then each row with its rid
abbrev pub mark_text : ℕ → Group → List ℕ
mark_text mark group = mark_heading mark group ++ row_lines (λ i. slice_index_or group.rids i 0) group.rows.rows

-- a group of no rows
abbrev pub no_group : Group
no_group = record { rids = []; rows = record { kinds = []; rows = [] } }

-- the texts of the first n marks, each by its place
abbrev pub mark_texts_to : List Group → ℕ → List ℕ
mark_texts_to groups n = flat_map (λ mark. mark_text mark (slice_index_or groups mark no_group)) (upto n)

-- how many keys violate a dependency
abbrev pub found_line : List ℕ → ℕ → List ℕ
found_line view count = line (codes "fd " ∷ view ∷ codes " " ∷ decimal count ∷ [])

-- what violates a dependency: how many keys, the names of the columns of the table, then key by key
abbrev pub found_text : List ℕ → List (List ℕ) → List Group → List ℕ
found_text view columns groups =
    found_line view (length groups) ++ record_line (codes "rid" ∷ columns) ++ mark_texts_to groups (length groups)

-- why an `fd` line is refused
abbrev pub profile_refusal_text : List ℕ → ProfileRefusal → List ℕ
profile_refusal_text view UnknownView = line (codes "refused unknown view " ∷ view ∷ [])
profile_refusal_text view NotProfile = line (codes "refused no dependency " ∷ view ∷ [])

-- the text of an answer to an `fd` line
abbrev pub profile_text : CatalogImage → List ℕ → ProfileReply → List ℕ
profile_text catalog view (Found table groups) = found_text view (map (λ column. column.name) (info_at catalog.tables table).cols) groups
profile_text catalog view (Refused refusal) = profile_refusal_text view refusal

-- as many rows as rids
abbrev pub IsPlaced : Group → Type 0
IsPlaced group = length group.rids ≡ length group.rows.rows

-- groups of rows of a table that the catalog has
pub record AreFound (catalog : CatalogImage) (table : ℕ) (groups : List Group) : Type 0 where
  pub known : table < length catalog.tables
  pub placed : All IsPlaced groups

-- whether an answer names a table of the catalog, with as many rows as rids in each group
abbrev pub IsProfileReply : CatalogImage → ProfileReply → Type 0
IsProfileReply catalog (Found table groups) = AreFound catalog table groups
IsProfileReply catalog (Refused refusal) = Unit {0}
