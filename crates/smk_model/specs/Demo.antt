-- The demo of a number of flights: its book, files and script, and the summary of its report.
use Rattle.std.specs.{Prelude.{ℕ, ◌*◌, ◌/◌, ◌%◌, pos, ◌-ℤ◌, List, [], ◌∷◌, ◌++◌, length, map, codes, decimal}, List.flat_map, Fmt.signed_decimal}
use Rattle.smk_base.specs.{Places.upto, declared.demo.Demo.Demo, declared.demo.DemoFile.DemoFile, declared.size.Size.Size, declared.demo.TheConstants.{DEMO_BOOK, DEMO_SCRIPT}}
use Rattle.smk_model.specs.{Texts.{line, record_line}, Reports.Report}

-- the text of a table: its records, one after the other
abbrev pub table_text : List (List (List ℕ)) → List ℕ
table_text rows = flat_map record_line rows

-- a number below 100 in two digits
abbrev pub two_digits : ℕ → List ℕ
two_digits m = decimal (m / 10) ++ decimal (m % 10)

abbrev pub flight_header : List (List ℕ)
flight_header = codes "id" ∷ codes "carrier" ∷ codes "hour" ∷ codes "delay" ∷ codes "airport" ∷ []

-- flight i: its id, one of ten carriers, its hour, its delay from -60 to 179, one of forty airports
abbrev pub flight : ℕ → List (List ℕ)
flight i =
    decimal i
    ∷ (codes "C" ++ decimal (i / 3 % 10))
    ∷ decimal (5 * i % 24)
    ∷ signed_decimal (pos (37 * i % 240) -ℤ pos 60)
    ∷ (codes "A" ++ two_digits (11 * i % 40))
    ∷ []

-- the header, and the flights below n
abbrev pub flight_records : ℕ → List (List (List ℕ))
flight_records n = flight_header ∷ map flight (upto n)

abbrev pub flights : ℕ → List ℕ
flights n = table_text (flight_records n)

abbrev pub airport_header : List (List ℕ)
airport_header = codes "code" ∷ codes "state" ∷ []

-- airport i: its code, and one of eight states
abbrev pub airport : ℕ → List (List ℕ)
airport i = (codes "A" ++ two_digits i) ∷ (codes "S" ++ decimal (i % 8)) ∷ []

abbrev pub airport_records : List (List (List ℕ))
airport_records = airport_header ∷ map airport (upto 40)

abbrev pub airports : List ℕ
airports = table_text airport_records

-- the files that the book names
abbrev pub demo_files : ℕ → List DemoFile
demo_files n =
    record { name = codes "flights.csv"; bytes = flights n }
    ∷ record { name = codes "airports.csv"; bytes = airports }
    ∷ []

-- the texts of the demo of n flights
abbrev pub demo_of : ℕ → Demo
demo_of n = record { book = DEMO_BOOK.now; files = demo_files n; script = DEMO_SCRIPT.now }

-- a view and the number of its rows
abbrev pub size_line : Size → List ℕ
size_line size = line (codes "view " ∷ size.name ∷ codes " " ∷ decimal size.rows ∷ [])

-- the summary of a report: the number of flights; each view with its number of rows; how many lines have a reply, and how many of these are refused; how many bytes the report has
abbrev pub summary : ℕ → List Size → ℕ → ℕ → ℕ → List ℕ
summary n sizes replies refused report =
    line (codes "demo " ∷ decimal n ∷ [])
    ++ flat_map size_line sizes
    ++ line (codes "replies " ∷ decimal replies ∷ codes " refused " ∷ decimal refused ∷ [])
    ++ line (codes "report " ∷ decimal report ∷ [])

abbrev pub summary_of : ℕ → Report → List ℕ
summary_of n report = summary n report.sizes report.replies report.refused (length report.text)
