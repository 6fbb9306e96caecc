-- What is worked by hand, by computing it.
use Rattle.std.specs.{Prelude.Ok, Fmt.digits}
use Rattle.std.proofs.Common.{◌≡◌, [], ◌∷◌, Some, refl}
use Rattle.clap.specs.{Walk.walked, Faults.{walk_fault, defaults_fault}}
use Rattle.csv.specs.{Writing.{fields_text, is_blank, escaped}, Reading.records_from, Machine.next_record}
use Rattle.smk_base.specs.Ints.{int_of}
use Rattle.smk_model.specs.{Texts.record_line, Tables.table_of, Readings.{asks, no_line, one_line}, Words.{Files, words_of}, Outcome.{spells, parsed, read, OpensBook, OpensScript, lines_read, no_script, a_script, load_all, inputs, usable, unusable, unreadable, reported}, WorkedExamples.{readme_book_name, readme_script_name, readme_files, readme_catalog, readme_workbook, readme_readings, readme_inputs, readme_report, ReadmeHolds, WordsHold, TablesHold, StringsHold, PlanHolds}}
use Rattle.smk_model.proofs.Spelling.{computed}

pub plan_holds : PlanHolds
plan_holds = record {
  rows = refl;
  sales_behind = refl;
  regions_behind = refl;
  zones_of_sales = refl;
  zones_of_regions = refl;
  behind_both = refl;
  of_two = refl;
  pairs_are = refl;
}

book_there : OpensBook readme_files readme_book_name (Ok (record { catalog = readme_catalog; fds = [] }))
book_there = read refl (parsed (spells (computed refl) refl) refl)

script_there : OpensScript readme_files (Some readme_script_name) (Ok readme_readings)
script_there = a_script (read refl (lines_read
    (one_line (asks (λ e. absurd (cc)) (computed refl) refl)
    (one_line (asks (λ e. absurd (cc)) (computed refl) refl)
    no_line))))

table_there : load_all readme_files readme_catalog.tables ≡ Ok readme_workbook.tables
unfolding table_of records_from next_record int_of
table_there = refl

reports : reported (readme_inputs readme_readings) ≡ Ok readme_report
unfolding digits record_line fields_text is_blank
reports = refl

called : words_of (readme_book_name ∷ readme_script_name ∷ []) ≡ Some (Files readme_book_name (Some readme_script_name))
unfolding walked walk_fault defaults_fault int_of
called = refl

pub readme : ReadmeHolds
readme = record {
  outcome = read (usable called (inputs book_there table_there script_there refl)) reports;
  book_alone = inputs book_there table_there no_script refl;
}

pub words : WordsHold
unfolding walked walk_fault defaults_fault int_of
words = record {
  book = refl;
  demo = refl;
  unknown_mode = λ held. unreadable (unusable refl);
  talk = refl;
  brief_talk = refl;
}

pub tables : TablesHold
unfolding table_of records_from next_record int_of record_line fields_text is_blank escaped
tables = record {
  rows = refl;
  line = refl;
}

pub strings_hold : StringsHold
strings_hold = record {
  reopened = refl;
  doubled = refl;
  unclosed = refl;
  at_line_end = refl;
  length_reopened = refl;
  length_unclosed = refl;
}
