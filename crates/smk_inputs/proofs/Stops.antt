-- Why a run stops where a file is read.
use Rattle.std.proofs.{Common.{◌≡◌, ◌<◌, ◌≤◌, ℕ, List, Option, Some, None, Result, Ok, Err, sym, ap, subst, arith, inl, inr}, lemmas.Bool.cases_lt}
use Rattle.std.specs.Prelude.{◌⊎◌, option_map}
use Rattle.smk_base.specs.{CatalogImage.CatalogImage, declared.fault.Fault.Fault, declared.fault.Fault.TheVariants.{Usage, Unread}}
use Rattle.smk_outside.specs.Outside.{Rose}
use Rattle.smk_model.specs.{Values.Row, Readings.{Reading, AreReadingsOf}, Words.{Invocation, invocation_of, words_of}, Reports.BookSaid, Outcome.{Held, Inputs, OpensBook, ReadsFiles, no_book, no_tables, no_readings, no_rows, inputs, the_book, a_table, the_script, of_a_line, appended, UntoldCause}}
use Rattle.smk_inputs.specs.{declared.called.RunWords.RunWords, declared.stop.Stop.Stop, declared.stop.Stop.TheVariants.{At, Unwritten, Exhausted}, Image.{invocation_image, texts_image}, Collecting.{ReadsNamed, Loads, unread_among, OpensBytes, ReadsAll}}

-- a count that rose in a part rose in the whole
pub rose_within : (start before after end : ℕ) → start ≤ before → before ≤ after → after ≤ end → Rose before after → Rose start end
rose_within start before after end s m e (inl less) = inl (omega arith)
rose_within start before after end s m e (inr last) = at_last (cases_lt 18446744073709551615 end)
  where
    at_last : (18446744073709551615 < end) ⊎ (end ≤ 18446744073709551615) → Rose start end
    at_last (inl above) = inl (omega arith)
    at_last (inr upto) = inr (omega arith)

-- the texts of what words are seen to ask for
pub texts_asked : (words : List (List ℕ)) (found : Option RunWords) → option_map invocation_image found ≡ invocation_of words → words_of words ≡ option_map (λ call. texts_image call.texts) found
texts_asked words (Some found) is = ap (option_map (λ (a : Invocation). a.texts)) (sym is)
texts_asked words None is = ap (option_map (λ (a : Invocation). a.texts)) (sym is)

-- a cause in a part is one in the whole
pub untold_within : (rose_here rose : Type 0) (fault : Fault) → (rose_here → rose) → UntoldCause rose_here fault → UntoldCause rose fault
untold_within rose_here rose Usage wide h = h
untold_within rose_here rose (Unread file) wide h = wide h
untold_within rose_here rose _ wide h = tt

-- the book
pub book_stops : {X Y : Type 0} (image : X → BookSaid) (reads : Y → List Reading → Inputs) (bytes : Y → List ℕ) (held : Option Held) (rose : Type 0) (book : List ℕ) (script : Option (List ℕ)) (stop : Stop)
    → ReadsNamed held rose book (λ h. OpensBook h book) image (Err stop) → ReadsAll {X = Y} held rose book script reads bytes (Err stop)
book_stops image reads bytes (Some held) rose book script (At fault) (inl err) = inl (no_book err)
book_stops image reads bytes (Some held) rose book script (At fault) (inr (up, name)) = inr (up, rw name the_book)
book_stops image reads bytes (Some held) rose book script Unwritten h = h
book_stops image reads bytes (Some held) rose book script Exhausted h = tt
book_stops image reads bytes None rose book script (At fault) h = h
book_stops image reads bytes None rose book script Unwritten h = h
book_stops image reads bytes None rose book script Exhausted h = tt

-- the tables
pub tables_stop : {X Y Z : Type 0} (image : X → BookSaid) (rows : Z → List (List Row)) (reads : Y → List Reading → Inputs) (bytes : Y → List ℕ) (opened : X) (held : Option Held) (rose_before rose_here rose : Type 0) (book : List ℕ) (script : Option (List ℕ)) (stop : Stop)
    → (rose_here → rose)
    → ReadsNamed held rose_before book (λ h. OpensBook h book) image (Ok opened)
    → Loads held rose_here (image opened).catalog.tables rows (Err stop) → ReadsAll {X = Y} held rose book script reads bytes (Err stop)
tables_stop image rows reads bytes opened (Some held) r1 r2 rose book script (At fault) wide ok (inl err) = inl (no_tables ok err)
tables_stop image rows reads bytes opened (Some held) r1 r2 rose book script (At fault) wide ok (inr (up, unread_among before table behind are loaded name)) = inr (wide up, rw name (a_table before table behind ok are loaded))
tables_stop image rows reads bytes opened (Some held) r1 r2 rose book script Unwritten wide ok h = h
tables_stop image rows reads bytes opened (Some held) r1 r2 rose book script Exhausted wide ok h = tt
tables_stop image rows reads bytes opened None r1 r2 rose book script (At fault) wide ok h = untold_within r2 rose fault wide h
tables_stop image rows reads bytes opened None r1 r2 rose book script Unwritten wide ok h = h
tables_stop image rows reads bytes opened None r1 r2 rose book script Exhausted wide ok h = tt

-- the script
pub script_stops : {X Y Z V : Type 0} (image : X → BookSaid) (rows : Z → List (List Row)) (content : V → List ℕ) (reads : Y → List Reading → Inputs) (bytes : Y → List ℕ) (opened : X) (tables : Z)
    (held : Option Held) (rose_first rose_second rose_here rose : Type 0) (book : List ℕ) (script : Option (List ℕ)) (stop : Stop)
    → (rose_here → rose)
    → ReadsNamed held rose_first book (λ h. OpensBook h book) image (Ok opened)
    → Loads held rose_second (image opened).catalog.tables rows (Ok tables)
    → OpensBytes {X = V} held rose_here script content (Err stop) → ReadsAll {X = Y} held rose book script reads bytes (Err stop)
script_stops image rows content reads bytes opened tables (Some held) r1 r2 r3 rose book script (At fault) wide ok fine (inl err) = inl (no_readings ok fine err)
script_stops image rows content reads bytes opened tables (Some held) r1 r2 r3 rose book script (At fault) wide ok fine (inr (up, (name, some, is))) = inr (wide up, rw is (the_script ok fine some))
script_stops image rows content reads bytes opened tables (Some held) r1 r2 r3 rose book script Unwritten wide ok fine h = h
script_stops image rows content reads bytes opened tables (Some held) r1 r2 r3 rose book script Exhausted wide ok fine h = tt
script_stops image rows content reads bytes opened tables None r1 r2 r3 rose book script (At fault) wide ok fine h = untold_within r3 rose fault wide h
script_stops image rows content reads bytes opened tables None r1 r2 r3 rose book script Unwritten wide ok fine h = h
script_stops image rows content reads bytes opened tables None r1 r2 r3 rose book script Exhausted wide ok fine h = tt

-- the files of the script's lines
pub added_stop : {X Y Z V W : Type 0} (image : X → BookSaid) (rows : Z → List (List Row)) (content : V → List ℕ) (more : W → List (List Row)) (reads : Y → List Reading → Inputs) (bytes : Y → List ℕ) (opened : X) (tables : Z) (text : V) (said : List Reading)
    (held : Option Held) (rose_first rose_second rose_third rose_here rose : Type 0) (book : List ℕ) (script : Option (List ℕ)) (stop : Stop)
    → (rose_here → rose)
    → ReadsNamed held rose_first book (λ h. OpensBook h book) image (Ok opened)
    → Loads held rose_second (image opened).catalog.tables rows (Ok tables)
    → OpensBytes held rose_third script content (Ok text) → AreReadingsOf (content text) said
    → Loads {X = W} held rose_here (appended (image opened).catalog said) more (Err stop) → ReadsAll {X = Y} held rose book script reads bytes (Err stop)
added_stop image rows content more reads bytes opened tables text said (Some held) r1 r2 r3 r4 rose book script (At fault) wide ok fine read are (inl err) = inl (no_rows ok fine (read said are) err)
added_stop image rows content more reads bytes opened tables text said (Some held) r1 r2 r3 r4 rose book script (At fault) wide ok fine read are (inr (up, unread_among before table behind cut loaded name)) = inr (wide up, rw name (of_a_line before table behind ok fine (read said are) cut loaded))
added_stop image rows content more reads bytes opened tables text said (Some held) r1 r2 r3 r4 rose book script Unwritten wide ok fine read are h = h
added_stop image rows content more reads bytes opened tables text said (Some held) r1 r2 r3 r4 rose book script Exhausted wide ok fine read are h = tt
added_stop image rows content more reads bytes opened tables text said None r1 r2 r3 r4 rose book script (At fault) wide ok fine read are h = untold_within r4 rose fault wide h
added_stop image rows content more reads bytes opened tables text said None r1 r2 r3 r4 rose book script Unwritten wide ok fine read are h = h
added_stop image rows content more reads bytes opened tables text said None r1 r2 r3 r4 rose book script Exhausted wide ok fine read are h = tt

-- the same of files that hold the same, and of the same catalog
pub added_of : {X : Type 0} (rows : X → List (List Row)) (rose : Type 0) (readings : List Reading) (result : Result X Stop) (now before : Option Held) (held_book book : CatalogImage)
    → now ≡ before → book ≡ held_book → Loads now rose (appended held_book readings) rows result → Loads before rose (appended book readings) rows result
added_of rows rose readings result now before held_book book same alike is =
    subst (λ (held : Option Held). Loads held rose (appended book readings) rows result) same (subst (λ (k : CatalogImage). Loads now rose (appended k readings) rows result) (sym alike) is)

-- all is read
pub all_read : {X Y Z V W : Type 0} (image : X → BookSaid) (rows : Z → List (List Row)) (content : V → List ℕ) (more : W → List (List Row)) (reads : Y → List Reading → Inputs) (bytes : Y → List ℕ) (opened : X) (tables : Z) (text : V) (added : W) (all : Y)
    (held : Option Held) (rose_first rose_second rose_third rose_fourth rose : Type 0) (book : List ℕ) (script : Option (List ℕ))
    → ((readings : List Reading) → reads all readings ≡ record { book = record { catalog = (image opened).catalog; tables = rows tables }; fds = (image opened).fds; readings = readings; added = more added }) → bytes all ≡ content text
    → ReadsNamed held rose_first book (λ h. OpensBook h book) image (Ok opened)
    → Loads held rose_second (image opened).catalog.tables rows (Ok tables)
    → OpensBytes held rose_third script content (Ok text)
    → ((readings : List Reading) → AreReadingsOf (content text) readings → Loads held rose_fourth (appended (image opened).catalog readings) more (Ok added))
    → ReadsAll held rose book script reads bytes (Ok all)
all_read image rows content more reads bytes opened tables text added all (Some held) r1 r2 r3 r4 rose book script made same ok fine read loaded =
    λ readings are.
    let here = subst (λ (l : List ℕ). AreReadingsOf l readings) same are in
    subst (λ (r : Inputs). ReadsFiles held book script (Ok r)) (sym (made readings))
    (inputs ok fine (read readings here) (loaded readings here))
all_read image rows content more reads bytes opened tables text added all None r1 r2 r3 r4 rose book script made same ok fine read loaded = tt

-- what is read after the book, and what all is
pub then_all : {X Y : Type 0} (reads : X → List Reading → Inputs) (bytes : X → List ℕ) (others : Y → List Reading → Inputs) (content : Y → List ℕ) (held : Option Held) (rose_here rose : Type 0) (book : List ℕ) (script : Option (List ℕ)) (rest : X) (all : Y)
    → ((readings : List Reading) → others all readings ≡ reads rest readings) → content all ≡ bytes rest → ReadsAll held rose_here book script reads bytes (Ok rest) → ReadsAll held rose book script others content (Ok all)
then_all reads bytes others content (Some held) r1 r2 book script rest all made same is =
    λ readings are.
    subst (λ (r : Inputs). ReadsFiles held book script (Ok r)) (sym (made readings)) (is readings (subst (λ (l : List ℕ). AreReadingsOf l readings) same are))
then_all reads bytes others content None r1 r2 book script rest all made same is = tt

pub rest_stops : {X Y : Type 0} (reads : X → List Reading → Inputs) (bytes : X → List ℕ) (others : Y → List Reading → Inputs) (content : Y → List ℕ) (held : Option Held) (rose_here rose : Type 0) (book : List ℕ) (script : Option (List ℕ)) (stop : Stop)
    → (rose_here → rose) → ReadsAll held rose_here book script reads bytes (Err stop) → ReadsAll held rose book script others content (Err stop)
rest_stops reads bytes others content (Some held) r1 r2 book script (At fault) wide (inl err) = inl err
rest_stops reads bytes others content (Some held) r1 r2 book script (At fault) wide (inr (up, named)) = inr (wide up, named)
rest_stops reads bytes others content (Some held) r1 r2 book script Unwritten wide is = is
rest_stops reads bytes others content (Some held) r1 r2 book script Exhausted wide is = tt
rest_stops reads bytes others content None r1 r2 book script (At fault) wide is = untold_within r1 r2 fault wide is
rest_stops reads bytes others content None r1 r2 book script Unwritten wide is = is
rest_stops reads bytes others content None r1 r2 book script Exhausted wide is = tt

-- a book that was opened, as what it says
pub opened_as : {X : Type 0} (image : X → BookSaid) (held : Option Held) (rose other : Type 0) (book : List ℕ) (opened : X)
    → ReadsNamed held rose book (λ h. OpensBook h book) image (Ok opened) → ReadsNamed held other book (λ h. OpensBook h book) (λ (said : BookSaid). said) (Ok (image opened))
opened_as image (Some held) rose other book opened is = is
opened_as image None rose other book opened is = tt
