use Rattle.std.proofs.Common.{◌≡◌, ◌∙◌, Some}
use Rattle.smk_grow.specs.{Renewals.{book_of, first_book, last_book}, Renewed.apart_view}
use Rattle.smk_grow.proofs.{Fresh.{chain_no_fault, scan_kept, some_apart}, Renewed.chains_scan}
use Rattle.smk_grow.proofs.views.one_fresh.Goals as goal

pub returns-in-Ok-clause-none : goal.returns-in-Ok-clause-none
returns-in-Ok-clause-none g c =
    let r = c.args.renewal.now in
    let is : Some c.in-Some.new ≡ apart_view r.table (last_book r) c.args.v = cc (c.in-Some.is, c.requires.apart) in
    chain_no_fault r.book.now r.tables.now r.table c.args.v c.requires.renewal.table c.requires.renewal.few (some_apart r.table (last_book r) c.args.v c.in-Some.new is).0

pub grown_view-requires-clause-old : goal.grown_view-requires-clause-old
grown_view-requires-clause-old g c =
    let r = c.args.renewal.now in
    let is : Some c.in-Some.new ≡ apart_view r.table (last_book r) c.args.v = cc (c.in-Some.is, c.requires.apart) in
    let held = chains_scan (book_of r).catalog r.table c.args.v (some_apart r.table (last_book r) c.args.v c.in-Some.new is).0 in
    c.requires.old ∙ scan_kept r.table (first_book r) (book_of r) c.args.v held
