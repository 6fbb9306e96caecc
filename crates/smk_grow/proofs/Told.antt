-- What holds after a line, by its answer.
use Rattle.std.proofs.{Common.{◌≡◌, ℕ, ◌<◌, true, List, [], length, ap, sym, ◌∙◌, subst, arith, Option, Some, None, is_some, Result, Ok, Err, All, OnOk, OnErr}, lemmas.Bool.false≢true}
use Rattle.smk_base.specs.{CatalogImage.{CatalogImage, catalog_image}, Rels.Relation, declared.book.catalog.Catalog.Catalog, declared.reply.AppendReply.AppendReply, declared.reply.AppendReply.TheVariants.Added}
use Rattle.smk_model.specs.{Appends.{append_turn, scanning, scans, turn_at}, AppendTexts.IsAppendReply, Catalogs.{each_table_kinds, table_kinds}, Opening.ViewFault, Selection.each_kinds, Typing.info_at, Values.Row}
use Rattle.smk_model.proofs.Appends.{appends_fit}
use Rattle.smk_base.proofs.Places.{places_below}
use Rattle.smk_compose.specs.Fetched.{table_of}
use Rattle.smk_session.specs.{Opened.workbook_image, Sessions.{IsSession, SessionImage, state_of, workbook_of}}
use Rattle.smk_session.proofs.OpenedViews.{table_is, tables_long}
use Rattle.smk_grow.specs.{Images.{next_image, renewed, renewed_unless, shortened}, Told.{added_told, told_text}}
use Rattle.smk_grow.proofs.{Grown.at_table, Images.{next_keeps, next_state}}

-- a view that is too big leaves the table as it was

pub after_refusal : {A E : Type 0} (r : Result A E) (found : Option ViewFault) (t len : ℕ) (session next : SessionImage) → OnOk r (is_some found ≡ true) → next ≡ shortened t len session → OnOk r (next ≡ renewed_unless found t len session)
after_refusal (Ok told) (Some found) t len session next some is = is
after_refusal (Ok told) None t len session next some is = absurd (false≢true some)
after_refusal (Err error) found t len session next some is = tt

-- the kinds of a table are those of the book

pub kinds_at : (catalog : Catalog) (tables : List Relation) (t : ℕ) → each_kinds tables ≡ each_table_kinds catalog.tables → t < length catalog.tables → (table_of tables t).kinds ≡ table_kinds (info_at catalog.tables t)
kinds_at catalog tables t kinds low =
    let less : t < length tables = omega (arith, low, tables_long catalog tables kinds) in
    ap (λ (r : Relation). r.kinds) (table_is catalog tables [] t (table_of tables t) kinds low (sym (at_table tables t (table_of tables t) less)))

pub table_below : (session : SessionImage) (t : ℕ) → IsSession session → t < length session.catalog.tables → t < length session.tables
table_below session t keeps low = omega (arith, low, tables_long session.catalog session.tables keeps.opened.kinds)

-- it is a session then, and stands where the line leaves it

pub told_keeps : {A E : Type 0} (r : Result A E) (session next : SessionImage) (t : ℕ) (more : List Row) → IsSession session → t < length session.tables → OnOk r (next ≡ next_image session t more) → OnErr r (next ≡ session) → IsSession next
told_keeps (Ok told) session next t more keeps low after kept = subst IsSession (sym after) (next_keeps session t more keeps low)
told_keeps (Err error) session next t more keeps low after kept = subst IsSession (sym kept) keeps

pub told_state : {A E : Type 0} (r : Result A E) (session parts next result : SessionImage) (t : ℕ) (more : List Row) → parts ≡ session → t < length session.tables → OnOk r (next ≡ next_image parts t more) → result ≡ next
    → OnOk r (state_of result ≡ (turn_at (catalog_image session.catalog) (state_of session) more (Some t)).next)
told_state (Ok told) session parts next result t more same low after is =
    ap state_of (is ∙ after ∙ ap (λ (s : SessionImage). next_image s t more) same) ∙ next_state session t more low
told_state (Err error) session parts next result t more same low after is = tt

-- the views that scan a table are views of the book

pub scanning_known : (catalog : CatalogImage) (t : ℕ) (views : List ℕ) → views ≡ scanning catalog t → All (λ v. v < length catalog.views) views
scanning_known catalog t views are = subst (All (λ v. v < length catalog.views)) (sym are) (places_below (scans catalog t) (length catalog.views))

-- the text that is made before anything takes its place is that of the session after it

pub told_committed : (said : Option (List ℕ)) (session next : SessionImage) (tables : List Relation) (t rows : ℕ) (fresh views text : List ℕ) → tables ≡ session.tables
    → text ≡ added_told said (workbook_image session.catalog tables) rows fresh → fresh ≡ scanning (catalog_image session.catalog) t → views ≡ scanning (catalog_image session.catalog) t → next ≡ renewed session
    → text ≡ told_text said (workbook_of next) (Added rows views)
told_committed said session next tables t rows fresh views text there is fresh_are views_are after =
    is
    ∙ ap (λ (T : List Relation). added_told said (workbook_image session.catalog T) rows fresh) there
    ∙ ap (added_told said (workbook_of session) rows) (fresh_are ∙ sym views_are)
    ∙ ap (λ (s : SessionImage). added_told said (workbook_of s) rows views) (sym after)

-- an answer is one of the session's book

pub told_fits : (before after : SessionImage) (table : List ℕ) (more : List Row) (told : AppendReply) → after.catalog ≡ before.catalog
    → told ≡ (append_turn (catalog_image before.catalog) (state_of before) table more).reply → IsAppendReply (catalog_image after.catalog) told
told_fits before after table more told same is =
    subst (λ (k : Catalog). IsAppendReply (catalog_image k) told) (sym same)
    (subst (IsAppendReply (catalog_image before.catalog)) (sym is) (appends_fit (catalog_image before.catalog) (state_of before) table more))
