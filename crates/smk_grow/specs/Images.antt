-- What a session is after a line that appends rows.
use Rattle.std.specs.Prelude.{ℕ, cond, List, [], length, map, Option, Some, None}
use Rattle.smk_base.specs.{CatalogImage.catalog_image, Places.upto, declared.reply.AppendReply.AppendReply, declared.reply.AppendReply.TheVariants.{Added, Refused}}
use Rattle.smk_model.specs.{Appends.{is_too_long, longer_fault, refusal_of}, Opening.ViewFault, Values.Row}
use Rattle.smk_session.specs.{Extras.{splits_of, all_cubes}, Opened.{opened_views, workbook_image}, Sessions.{SessionImage, state_of, workbook_of}}
use Rattle.smk_grow.specs.{Grown.{longer_tables, first_tables}, Renewed.kept_views}

-- with more rows at the end of a table: the views that scan it are still those before, the others are over the longer table
abbrev pub lengthened : ℕ → List Row → SessionImage → SessionImage
lengthened t more session = record session {
  tables = longer_tables session.tables t more;
  views = kept_views t (workbook_of session) (workbook_image session.catalog (longer_tables session.tables t more));
}

-- with only the first rows of a table, and all views over them
abbrev pub shortened : ℕ → ℕ → SessionImage → SessionImage
shortened t len session = record session {
  tables = first_tables session.tables t len;
  views = opened_views (workbook_image session.catalog (first_tables session.tables t len));
}

-- with everything made anew from its tables, and no brush
abbrev pub renewed : SessionImage → SessionImage
renewed session = record session {
  views = opened_views (workbook_of session);
  splits = splits_of (workbook_of session);
  cubes = all_cubes (workbook_of session);
  brushes = [];
  contents = map (λ (w : ℕ). None) (upto (length session.contents));
}

-- the answer, or the refusal if a view has a node that is too big
abbrev pub told_unless : Option ViewFault → ℕ → List ℕ → AppendReply
told_unless (Some found) rows views = Refused (refusal_of found)
told_unless None rows views = Added rows views

-- a session whose table is longer already: as it was before if a view has such a node, else made anew
abbrev pub renewed_unless : Option ViewFault → ℕ → ℕ → SessionImage → SessionImage
renewed_unless (Some found) t len session = shortened t len session
renewed_unless None t len session = renewed session

-- a session whose table gets more rows: it stays if a view has such a node, else it is made anew
abbrev pub grown_unless : Option ViewFault → ℕ → List Row → SessionImage → SessionImage
grown_unless (Some found) t more session = session
grown_unless None t more session = renewed (lengthened t more session)

abbrev pub next_image : SessionImage → ℕ → List Row → SessionImage
next_image session t more = cond (is_too_long (state_of session) t more) session (grown_unless (longer_fault (catalog_image session.catalog) (state_of session) t more) t more session)
