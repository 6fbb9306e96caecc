-- The rows of records that are read in pieces, each with record numbers of its own.
use Rattle.std.specs.Prelude.{◌≡◌, ◌⊎◌, ◌<◌, slice_index_or, Bool, true, map, ℕ, ◌+◌, List, [], ◌∷◌, ◌++◌, length, Result, Ok, Err, if◌then◌else◌, nat_le}
use Rattle.smk_base.specs.{declared.value.Value.Value, declared.book.col_decl.ColDecl.ColDecl, declared.fault.TableFault.TableFault, Rels.Relation, declared.rel.TheConstants.ROW_LIMIT}
use Rattle.smk_base.specs.declared.fault.TableFault.TheVariants as faults
use Rattle.smk_model.specs.{Names.◌>>=◌, Tables.{all_or_first, numbered, header_place, record_row, declared_kinds}}

-- the rows of a part of a table, or its first fault
abbrev pub Part : Type 0
Part = Result (List (List Value)) TableFault

-- the rows of records; the first has number n
abbrev pub rows_from : List ColDecl → List ℕ → ℕ → ℕ → List (List (List ℕ)) → Part
rows_from cols places width n read = all_or_first (numbered (record_row cols places width) n read)

-- the record that a fault names; without one, the first for which a table has no room
abbrev pub record_of : TableFault → ℕ
record_of (faults.Ragged n) = n
record_of (faults.BadInt n c) = n
record_of _ = ROW_LIMIT + 1

-- the fault, with `base` records before it
abbrev pub fault_behind : ℕ → TableFault → TableFault
fault_behind base (faults.Ragged n) = faults.Ragged (base + n)
fault_behind base (faults.BadInt n c) = faults.BadInt (base + n) c
fault_behind base faults.NoHeader = faults.NoHeader
fault_behind base (faults.MissingColumn c) = faults.MissingColumn c
fault_behind base (faults.RepeatedColumn c) = faults.RepeatedColumn c
fault_behind base faults.TooManyRows = faults.TooManyRows
fault_behind base faults.NoMemory = faults.NoMemory

-- a part that was read by itself, with `base` records before it
abbrev pub part_behind : ℕ → Part → Part
part_behind base (Ok rows) = if nat_le (base + length rows) ROW_LIMIT then Ok rows else Err faults.TooManyRows
part_behind base (Err fault) = if nat_le (base + record_of fault) ROW_LIMIT then Err (fault_behind base fault) else Err faults.TooManyRows

-- parts that were each read by itself, one after the other
abbrev pub parts_behind : ℕ → List Part → Part
parts_behind base [] = Ok []
parts_behind base (part ∷ parts) = do
  rows ← part_behind base part
  more ← parts_behind (base + length rows) parts
  Ok (rows ++ more)

-- what reading a part gives: its rows, or its first fault; or memory ran out
abbrev pub Gives : List ColDecl → Part → Result Relation TableFault → Type 0
Gives cols part (Ok rel) = (part ≡ Ok rel.rows) × (rel.kinds ≡ declared_kinds cols)
Gives cols part (Err fault) = (fault ≡ faults.NoMemory) ⊎ (part ≡ Err fault)

-- each part was read
pub record GivesAll (cols : List ColDecl) (parts : List Part) (made : List (Result Relation TableFault)) : Type 0 where
  pub all : length made ≡ length parts
  pub each : (p : ℕ) (d : Part) (e : Result Relation TableFault) → p < length parts → Gives cols (slice_index_or parts p d) (slice_index_or made p e)

-- the records after the header, if the text has one
abbrev pub behind_header : Bool → List (List (List ℕ)) → List (List (List ℕ))
behind_header has [] = []
behind_header has (x ∷ read) = if has then read else x ∷ read

-- the parts of a table, by the records of its pieces; the first record is the header
abbrev pub parts_of : List ColDecl → List ℕ → ℕ → List (List (List (List ℕ))) → List Part
parts_of cols places width [] = []
parts_of cols places width (first ∷ others) = rows_from cols places width 1 (behind_header true first) ∷ map (rows_from cols places width 1) others

-- the first of these records as a header: how many fields it has, and the places of the columns in it or their fault
pub record HasHeader (cols : List ColDecl) (read : List (List (List ℕ))) (width : ℕ) (places : Result (List ℕ) TableFault) : Type 0 where
  pub header : List (List ℕ)
  pub rest : List (List (List ℕ))
  pub begins : read ≡ header ∷ rest
  pub wide : length header ≡ width
  pub placed : all_or_first (numbered (header_place header) 0 cols) ≡ places
