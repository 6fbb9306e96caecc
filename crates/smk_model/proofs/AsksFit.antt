-- An answer to an `ask` line is one to its line.
use Rattle.std.specs.Prelude.{◌≡◌, ◌<◌, ◌≤◌, ℕ, List, [], length, Some, Ok, Err}
use Rattle.std.proofs.{Common.{◌∙◌, refl, sym, subst, arith}, lemmas.List.length-map, lemmas.List.Quantifiers.position-Some}
use Rattle.smk_base.specs.{CatalogImage.{CatalogImage, table_place}, Trees.{AskImage, AskStepImage}, declared.book.catalog.Column.Column, declared.book.catalog.TableInfo.TableInfo, declared.reply.Refusal.Refusal, declared.reply.Refusal.TheVariants.Undeclared, declared.reply.Reply.Reply, declared.rel.TheConstants.COLUMN_LIMIT}
use Rattle.smk_base.specs.declared.reply.Reply.TheVariants as replies
use Rattle.smk_base.specs.declared.book.tree.Then.TheVariants as thens
use Rattle.smk_model.specs.{Values.Row, Asks.{AskPlan, ask_over, asked_plan, back_line, columns_named, scan_of, step_after, steps_reply, typed_steps}, AskLaws.{AskedBacksFit, AsksFit}, AskTexts.{AreBackRows, IsAskReplyTo, IsBackReply}, Catalogs.IsCatalog, Names.{Typed, ◌>>=◌, in_turn, same_name}, Replies.{Asked, named_back, or_refused, reply, rids_of, rows_at_rids, staying, known_pair}, ReplyTexts.IsRefusalOf, Session.State, TypedSteps.TypedPlan, Typing.{column_of, info_at, no_table, nothing_declared}, Workload.declares_back}
use Rattle.smk_model.proofs.{Replies.{reply_to, staying_told}, RepliesFit.{Fares, IsPair, next_fares, outside_fares, pair_fares, provided_fares, table_found}, Saying.{Says, step_says, turn_says}}

-- the rows at rids of a table that stands where its name is placed
rows_stand : (catalog : CatalogImage) (state : State) (asked : AskImage) (t : ℕ) (rids : List ℕ) → IsCatalog catalog → table_place catalog asked.table ≡ Some t → AreBackRows catalog asked (rows_at_rids catalog state t rids)
rows_stand catalog state asked t rids checked h =
    let found = table_found catalog asked.table t h in
    let low : t < length catalog.tables = (position-Some (λ (table : TableInfo). same_name table.name asked.table) catalog.tables t no_table h).0 in
    let few : length (info_at catalog.tables t).cols ≤ COLUMN_LIMIT = checked.limits.few_columns t no_table low in
    record {
      known = rw found refl;
      kinds = rw found refl;
      few = rw found (omega (arith, few, length-map (info_at catalog.tables t).cols column_of));
    }

-- what the `back` line asks for
back_stands : (catalog : CatalogImage) (state : State) (asked : AskImage) → IsCatalog catalog
    → Fares (IsRefusalOf nothing_declared (back_line asked)) (IsBackReply catalog asked) (named_back catalog state asked.view asked.marks asked.table thens.Plain)
back_stands catalog state asked checked =
    let refusable : Refusal → Type 0 = IsRefusalOf nothing_declared (back_line asked) in
    next_fares refusable (IsPair catalog asked.view asked.table) (IsBackReply catalog asked) (known_pair catalog asked.view asked.table) _
    (pair_fares refusable catalog asked.view asked.table tt tt)
    (λ p h. provided_fares refusable (IsBackReply catalog asked) (declares_back catalog p.0 p.1) Undeclared _ tt
    (next_fares refusable (λ rids. Unit {0}) (IsBackReply catalog asked) (rids_of catalog state p.0 p.1 asked.marks) _
    (outside_fares refusable (λ rids. Unit {0}) asked.marks _ _ (λ row rows. tt) tt)
    (λ rids k. rows_stand catalog state asked p.1 rids checked h.1)))

told_stands : (catalog : CatalogImage) (asked : AskImage) (wanted : Asked Reply) → Fares (IsRefusalOf nothing_declared (back_line asked)) (IsBackReply catalog asked) wanted → IsBackReply catalog asked (reply_to wanted)
told_stands catalog asked (Ok told) h = h
told_stands catalog asked (Err refusal) h = h

staying_stays : (state : State) (wanted : Asked Reply) → (or_refused state (staying state wanted)).1 ≡ state
staying_stays state (Ok told) = refl
staying_stays state (Err refusal) = refl

pub asked_backs_fit : AskedBacksFit
asked_backs_fit catalog state asked checked =
    let wanted : Asked Reply = named_back catalog state asked.view asked.marks asked.table thens.Plain in
    record {
      fits = subst (IsBackReply catalog asked) (sym (staying_told state wanted)) (told_stands catalog asked wanted (back_stands catalog state asked checked));
      stays = staying_stays state wanted;
    }

-- typed steps have a name for each kind, and no fault of them is being out of memory
abbrev IsNamed : AskPlan → Type 0
IsNamed typed = length typed.names ≡ length typed.kinds

abbrev Stand : Typed AskPlan → Type 0
Stand (Ok typed) = IsNamed typed
Stand (Err fault) = Says (let found : Typed AskPlan = Err fault in found)

planned_stand : (typed : Typed TypedPlan) → Says typed → Stand (typed >>= λ made. Ok (asked_plan made))
planned_stand (Ok made) says = length-map made.columns (λ (c : Column). c.name) ∙ sym (length-map made.columns (λ (c : Column). c.kind))
planned_stand (Err fault) says = says

steps_stand : (columns : List Column) (steps : List AskStepImage) → Stand (typed_steps columns steps)
steps_stand columns steps = planned_stand (in_turn step_after (scan_of columns) steps) (turn_says step_after (λ left step. step_says [] step.what step.at left) (scan_of columns) steps)

told_fits : (asked : AskImage) (typed : Typed AskPlan) (rows : List Row) → Stand typed → IsAskReplyTo asked (steps_reply typed rows)
told_fits asked (Ok typed) rows stand = stand
told_fits asked (Err fault) rows stand = stand

over_fits : (catalog : CatalogImage) (asked : AskImage) (told : Reply) → IsBackReply catalog asked told → IsAskReplyTo asked (ask_over catalog asked told)
over_fits catalog asked (replies.Back rids rows) h = told_fits asked (typed_steps (columns_named catalog asked.table) asked.steps) rows.rows (steps_stand (columns_named catalog asked.table) asked.steps)
over_fits catalog asked (replies.Refused refusal) h = h
over_fits catalog asked _ h = absurd h

pub asks_fit : AsksFit
asks_fit catalog state asked checked = over_fits catalog asked (reply catalog state (back_line asked)).0 (asked_backs_fit catalog state asked checked).fits
