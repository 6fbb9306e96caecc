-- The parts of a session, as the session that has exactly these.
use Rattle.smk_session.specs.{Sessions.SessionImage, declared.parts.Parts.Parts}

-- each vector as its list
abbrev pub parts_image : Parts → SessionImage
parts_image parts = record {
  catalog = parts.book;
  tables = parts.tables.items;
  views = parts.views.items;
  splits = parts.splits.items;
  cubes = parts.cubes.items;
  brushes = parts.brushes.items;
  contents = parts.now.items;
  mode = parts.mode;
  workers = parts.workers;
}
