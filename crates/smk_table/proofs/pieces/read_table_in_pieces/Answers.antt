use Rattle.std.proofs.Common.{◌≡◌, map, flat_map, inl, inr}
use Rattle.csv.specs.Reading.{records, default_config}
use Rattle.smk_base.specs.Marks.{after_marks}
use Rattle.smk_table.specs.{Cuts.read_of, Pieces.{parts_of, parts_behind}}
use Rattle.smk_table.proofs.{Joins.{gives_rows, gives_fault}, PieceRows.{table_of_headed, table_of_unheaded}}
use Rattle.smk_table.proofs.pieces.read_table_in_pieces.Goals as goal

pub returns-in-Ok-Some-clause-rows : goal.returns-in-Ok-Some-clause-rows
returns-in-Ok-Some-clause-rows g c =
    let cols = c.args.cols.now in
    let texts = c.in_ok-texts.texts.items in
    let whole : records default_config (after_marks c.args.bytes.now) ≡ flat_map read_of texts = rw (← c.without_mark.ensures.rest) c.in_ok-texts.ensures.records in
    let header = c.in-Ok-Some.header in
    let found = rw c.in-Ok-Some.field-0-is at c.in-Ok-Some.ensures.found in
    let joined = table_of_headed cols c.args.bytes.now texts c.index.result.now header.width header.places.items c.in_ok-texts.ensures.some whole c.index.ensures found in
    rw (joined, ← c.as_slice.ensures.value) (gives_rows cols (parts_behind 0 (parts_of cols header.places.items header.width (map read_of c.as_slice.result.now))) c.table_in_pieces.result c.table_in_pieces.ensures)

pub returns-in-Ok-Some-clause-fault : goal.returns-in-Ok-Some-clause-fault
returns-in-Ok-Some-clause-fault g c =
    let cols = c.args.cols.now in
    let texts = c.in_ok-texts.texts.items in
    let whole : records default_config (after_marks c.args.bytes.now) ≡ flat_map read_of texts = rw (← c.without_mark.ensures.rest) c.in_ok-texts.ensures.records in
    let header = c.in-Ok-Some.header in
    let found = rw c.in-Ok-Some.field-0-is at c.in-Ok-Some.ensures.found in
    let joined = table_of_headed cols c.args.bytes.now texts c.index.result.now header.width header.places.items c.in_ok-texts.ensures.some whole c.index.ensures found in
    rw (joined, ← c.as_slice.ensures.value) (gives_fault cols (parts_behind 0 (parts_of cols header.places.items header.width (map read_of c.as_slice.result.now))) c.table_in_pieces.result c.table_in_pieces.ensures)

pub returns-clause-fault : goal.returns-clause-fault
returns-clause-fault g c =
    let cols = c.args.cols.now in
    let texts = c.in_ok-texts.texts.items in
    let whole : records default_config (after_marks c.args.bytes.now) ≡ flat_map read_of texts = rw (← c.without_mark.ensures.rest) c.in_ok-texts.ensures.records in
    elim c.in-Err.ensures.fault [
      | inl memory ↦ inl memory
      | inr found ↦ inr (table_of_unheaded cols c.args.bytes.now texts c.index.result.now found.0 c.in-Err.fault c.in_ok-texts.ensures.some whole c.index.ensures found.1)
    ]
