use Rattle.std.proofs.Common.{◌≡◌, get_or}
use Rattle.smk_tests.proofs.Opening.{scans_at, fits_at, few_at}
use Rattle.smk_tests.proofs.opened.counted.Given as given
use Rattle.smk_tests.proofs.opened.counted.Goals as goal

-- the view is one of the book's
is_view : (g : given.Over) (c : goal.After-steps-1 g) → c.index-as_slice-view.result ≡ get_or c.args.opened.now.book.views c.args.view c.index-as_slice-view.result
is_view g c = rw (c.as_slice.ensures, c.catalog.ensures.value) at c.index-as_slice-view.is

pub run_plan-requires-clause-scans : goal.run_plan-requires-clause-scans
run_plan-requires-clause-scans g c κs within =
    let opened = c.args.opened.now in
    rw c.as_slice-2.ensures.value (scans_at opened.tables.items opened.book.tables opened.book.views c.args.view c.index-as_slice-view.result opened.kinds c.catalog.ensures.checked.typed.views c.requires.view (is_view g c))

pub run_plan-requires-clause-nodes : goal.run_plan-requires-clause-nodes
run_plan-requires-clause-nodes g c κs within =
    let book = c.args.opened.now.book in
    few_at book.tables book.views c.args.view c.index-as_slice-view.result c.catalog.ensures.checked.typed.views c.requires.view (is_view g c)

pub run_plan-requires-clause-fits : goal.run_plan-requires-clause-fits
run_plan-requires-clause-fits g c κs within =
    let opened = c.args.opened.now in
    rw c.as_slice-2.ensures.value (fits_at opened.tables.items opened.book.tables opened.book.views c.args.view c.index-as_slice-view.result opened.kinds c.catalog.ensures.checked.typed.views c.requires.view (is_view g c))
