-- The first fault of a book's views: a node with too many rows, or with too many pairs with a table that its view needs.
use Rattle.std.specs.{Prelude.{ℕ, List, [], ◌∷◌, length, Option, None, option_map}, Option.option_or}
use Rattle.smk_base.specs.{Places.upto, CatalogImage.CatalogImage, declared.fault.Fault.Fault, declared.fault.Fault.TheVariants.{ViewRows, ViewPairs}}
use Rattle.smk_model.specs.{Plain.whole, Typing.info_at, NodeFaults.{NodeFault, FullRows, FullPairs, first_fault, asked_of}, Workload.needs, Session.{Workbook, view_at}}

-- a view, by its number, and the fault of one of its nodes
pub record ViewFault : Type 0 where
  pub view : ℕ
  pub fault : NodeFault

-- the first node of a view with too many rows, or with too many pairs with a table that the view needs
abbrev pub fault_of_view : Workbook → ℕ → Option NodeFault
fault_of_view book v =
    let plan = (view_at book.catalog v).plan in
    first_fault plan (whole plan book.tables) (asked_of book.tables (needs book.catalog v))

abbrev pub view_fault : Workbook → ℕ → Option ViewFault
view_fault book v = option_map (λ fault. record { view = v; fault = fault }) (fault_of_view book v)

-- the first value that some member of a list has
abbrev pub first_some : {A B : Type 0} → (A → Option B) → List A → Option B
first_some value [] = None
first_some value (a ∷ more) = option_or (value a) (first_some value more)

-- the first view with a fault, in the book's order
abbrev pub first_view_fault : Workbook → Option ViewFault
first_view_fault book = first_some (view_fault book) (upto (length book.catalog.views))

-- a view's fault as a fault of the run, with the names of the view and the table
abbrev pub named_fault : CatalogImage → List ℕ → NodeFault → Fault
named_fault catalog view (FullRows node) = ViewRows view node
named_fault catalog view (FullPairs node table) = ViewPairs view node (info_at catalog.tables table).name

abbrev pub fault_named : CatalogImage → ViewFault → Fault
fault_named catalog found = named_fault catalog (view_at catalog found.view).name found.fault
