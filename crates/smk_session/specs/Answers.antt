-- What is so of the calls that work out an answer, and the answers from the lineage that is kept.
use Rattle.std.specs.{Prelude.{◌≡◌, ◌<◌, ℕ, Result, Ok, Err, MatchResult, Bool, cond, false, List, [], ◌∷◌, nat_eq, length, map, set, Option, Some, None, All}, List.{filter, list_all, list_any}}
use Rattle.smk_base.specs.{CatalogImage.{CatalogImage, catalog_image}, Places.{IsPlaces, Lists, has, members_at, places, upto}, Rels.Relation, declared.brush.BrushOn.BrushOn, declared.book.catalog.Catalog.Catalog, declared.list.table_rids.Pick.Pick, declared.book.tree.Marks.Marks, declared.reply.Reply.Reply, declared.reply.Refusal.Refusal}
use Rattle.smk_base.specs.declared.reply.Reply.TheVariants as replies
use Rattle.smk_model.specs.{Lineage.sub, Looks.looks_of_rows, Names.◌>>=◌, Replies.{Asked, is_refused, unless_outside, marked}, Session.{State, concerns, rows_of_table, selected_for, under}}
use Rattle.smk_compose.specs.declared.kept_maps.KeptMap.{KeptMap}
use Rattle.smk_session.specs.{Opened.{AreExtras, AreOpened, state_over}, Kept.{kept_back, kept_fwd}, Sessions.{AreInForce, content_kept}, declared.brush.choices.Choice.Choice, declared.lent.Lent.Lent, declared.turn.Change.Change, declared.turn.Content.Content, declared.answer.no_answer.Turned.Turned, declared.answer.no_answer.Turned.TheVariants.Refused}

-- a refusal is the right one; where memory ran out, nothing is said
abbrev pub Turns : {A : Type 0} → Turned → Asked A → Type 0
Turns turned asked = (refusal : Refusal) → turned ≡ Refused refusal → asked ≡ Err refusal

-- what is given is the answer, or a refusal is the right one
abbrev pub Gives : {A : Type 0} → Result A Turned → Asked A → Type 0
Gives result asked = MatchResult result (λ given. asked ≡ Ok given) (λ turned. Turns turned asked)

-- nothing, or the refusal of a number that is none of so many rows
abbrev pub within_asked : Marks → ℕ → Asked (Unit {0})
within_asked marks n = unless_outside marks n (Ok tt)

-- the members of the lists at the marked places
abbrev pub members_asked : Lists → Marks → Asked (List ℕ)
members_asked map marks = unless_outside marks (length map.lists) (Ok (members_at map (marked marks (length map.lists))))

-- the rows of a table at these rids, with their rids
abbrev pub rows_told : Relation → List ℕ → Reply
rows_told table rids = replies.Back rids (record { kinds = table.kinds; rows = sub table.rows rids })

-- the answer to a forward query, from what is kept
abbrev pub fwd_by : List KeptMap → ℕ → Marks → Asked Reply
fwd_by kept t rows = kept_fwd kept t >>= λ map. members_asked map rows >>= λ marks. Ok (replies.Fwd marks)

-- the looks for an answer
abbrev pub looks_of_asked : Asked Reply → ℕ
looks_of_asked (Ok reply) = looks_of_rows reply
looks_of_asked (Err refusal) = 0

-- the backward lists that are kept of a table hold rids of its rows
abbrev pub BacksFit : List KeptMap → ℕ → ℕ → Type 0
BacksFit kept table rows = (map : Lists) → kept_back kept table ≡ Ok map → map.bound ≡ rows

-- what a session lends to a line is right: its views, its splits and groups, its brushes and contents
pub record IsLent (held : Lent) : Type 0 where
  pub opened : AreOpened held.catalog.now held.tables.now held.views.now
  pub extras : AreExtras held.catalog.now held.tables.now held.splits.now held.cubes.now
  pub in_force : AreInForce held.catalog.now held.tables.now held.brushes.now held.contents.now

abbrev pub book_of : Lent → CatalogImage
book_of held = catalog_image held.catalog.now

-- the rows of its tables under some brushes, and under those in force
abbrev pub state_at : Lent → List BrushOn → State
state_at held brushes = state_over held.tables.now brushes

abbrev pub state_lent : Lent → State
state_lent held = state_at held held.brushes.now

-- the state after a line
abbrev pub next_of : State → Option Change → State
next_of state None = state
next_of state (Some change) = under state change.brushes

-- the contents, with these in place of those of their views
abbrev pub placed : List Content → List (Option Relation) → List (Option Relation)
placed [] contents = contents
placed (content ∷ more) contents = set (placed more contents) content.view content.rel

-- what is kept of a view in a state
abbrev pub content_at : CatalogImage → State → ℕ → Content
content_at catalog state w = record { view = w; rel = content_kept catalog state w }

-- a change comes with a reply that is no refusal, and the brushes and contents after it are right
pub record ChangesOver (catalog : Catalog) (tables : List Relation) (contents : List (Option Relation)) (reply : Reply) (change : Change) : Type 0 where
  pub answered : is_refused reply ≡ false
  pub known : All (λ content. content.view < length contents) change.contents
  pub in_force : AreInForce catalog tables change.brushes (placed change.contents contents)

abbrev pub Changes : Lent → Reply → Change → Type 0
Changes held reply change = ChangesOver held.catalog.now held.tables.now held.contents.now reply change

-- the brushes on a table with so many rows are on rids of it, ascending and without repeats
abbrev pub AreOn : ℕ → ℕ → List BrushOn → Type 0
AreOn t n brushes = All (λ brush. brush.table ≡ t → IsPlaces n brush.rids) brushes

-- the rids among n that all the brushes that pass a test have; None if no brush passes
abbrev pub chosen_by : (BrushOn → Bool) → List BrushOn → ℕ → Option (List ℕ)
chosen_by test brushes n = cond (list_any test brushes) (Some (places (λ rid. list_all (λ brush. has brush.rids rid) (filter test brushes)) n)) None

-- whether a brush counts on a table: for a view it must concern the view; without a view any brush on the table does
abbrev pub counts : CatalogImage → Option ℕ → ℕ → BrushOn → Bool
counts catalog (Some w) t brush = concerns catalog w t brush
counts catalog None t brush = nat_eq brush.table t

-- the rids of a table that all the brushes that count have
abbrev pub selected_by : CatalogImage → State → Option ℕ → ℕ → List ℕ
selected_by catalog state view t = places (λ rid. list_all (λ brush. has brush.rids rid) (filter (counts catalog view t) state.brushes)) (length (rows_of_table state t))

-- the rids among n that brushes select for a view on a table; None if no brush concerns it
abbrev pub brushed_of : CatalogImage → List BrushOn → ℕ → ℕ → ℕ → Option (List ℕ)
brushed_of catalog brushes w t n = chosen_by (concerns catalog w t) brushes n

-- the same brushes concern two views on a table
abbrev pub AreAlike : CatalogImage → List BrushOn → ℕ → ℕ → ℕ → Type 0
AreAlike catalog brushes t w other = All (λ brush. concerns catalog w t brush ≡ concerns catalog other t brush) brushes

-- the rids of a choice are those that brushes select of a table for its view
abbrev pub IsChoice : CatalogImage → List BrushOn → ℕ → Choice → Type 0
IsChoice catalog brushes t choice = (n : ℕ) → AreOn t n brushes → choice.rids ≡ brushed_of catalog brushes choice.view t n

-- the rids that are left of those chosen so far, with one more brush
abbrev pub narrowed_by : Option (List ℕ) → List ℕ → List ℕ
narrowed_by (Some chosen) rids = filter (has rids) chosen
narrowed_by None rids = rids

-- the rids chosen, or all of n
abbrev pub rids_or_all : Option (List ℕ) → ℕ → List ℕ
rids_or_all (Some rids) n = rids
rids_or_all None n = upto n

-- the picks of a view, of those of the first n tables on which some brush concerns it
abbrev pub pick_for : CatalogImage → State → ℕ → ℕ → Pick
pick_for catalog state w t = record { table = t; rids = selected_for catalog state w t }

abbrev pub picks_brushed : CatalogImage → State → ℕ → ℕ → List Pick
picks_brushed catalog state w n = map (pick_for catalog state w) (filter (λ t. list_any (concerns catalog w t) state.brushes) (upto n))
