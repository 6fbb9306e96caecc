-- The words of a run: what clap takes by this command's rules, and what they ask for.
use Rattle.std.specs.{Prelude.{ℕ, ◌+◌, ℤ, pos, negsuc, true, ◌&&◌, nat_lt, cond, List, [], ◌∷◌, Option, Some, None, option_map, option_and_then, codes}, Str.bytes_eq}
use Rattle.clap.specs.{Words.{App, Rule, new_app, new_rule, with_rule, matches_of, first_of, fault_of}, Simple.on_top, Kinds.Kinds}
use Rattle.clap.specs.declared.builder.value_parser.ValueParser.TheVariants as parsers
use Rattle.smk_base.specs.{Ints.int_of, declared.workers.TheConstants.WORKER_LIMIT}

-- when a step's lineage is made: while the step runs, or from what it kept
pub data Mode : Type 0 where
  Inject : Mode
  Defer : Mode

-- how a run works, by its options; its outcome doesn't depend on it
pub record Settings : Type 0 where
  pub mode : Mode
  pub workers : ℕ

-- where the texts of a run come from: the file of the book, and that of the script if there is one; or the demo of so many flights
pub data TextSource : Type 0 where
  Files : List ℕ → Option (List ℕ) → TextSource
  Demo : ℕ → TextSource

-- the option `--mode`; without it the mode is inject
abbrev pub mode_rule : Rule
mode_rule = record (new_rule (codes "mode")) { long = Some (codes "mode"); defaults = codes "inject" ∷ [] }

-- the option `--workers` with a number; without it there is one worker
abbrev pub workers_rule : Rule
workers_rule = record (new_rule (codes "workers")) { long = Some (codes "workers"); parser = Some (parsers.Signed (pos 1) (pos WORKER_LIMIT)); defaults = codes "1" ∷ [] }

-- the most flights that a demo may have
abbrev pub most_flights : ℕ
most_flights = 200000

-- the option `--demo` with a number of flights
abbrev pub demo_rule : Rule
demo_rule = record (new_rule (codes "demo")) { long = Some (codes "demo"); parser = Some (parsers.Signed (pos 1) (pos 200000)) }

-- the command: its options, and then the places of the book and the script
abbrev pub smoke_app : App
smoke_app = with_rule (with_rule (with_rule (with_rule (with_rule (on_top (λ s. record s { no_binary_name = true }) (new_app (codes "smoke"))) mode_rule) workers_rule) demo_rule) (new_rule (codes "book"))) (new_rule (codes "script"))

-- the values of options and places, by their names
abbrev pub Values : Type 0
Values = List ℕ → Option (List ℕ)

-- the values that clap finds in the words for a command
abbrev pub value_given_to : App → List (List ℕ) → Values
value_given_to app words name = first_of name (matches_of app words)

abbrev pub value_given : List (List ℕ) → Values
value_given words = value_given_to smoke_app words

-- the mode with this name
abbrev pub mode_named : List ℕ → Option Mode
mode_named text = cond (bytes_eq text (codes "inject")) (Some Inject) (cond (bytes_eq text (codes "defer")) (Some Defer) None)

-- so many workers, unless there may not be so many
abbrev pub workers_counted : ℤ → Option ℕ
workers_counted (pos n) = cond (nat_lt 0 n && nat_lt n (WORKER_LIMIT + 1)) (Some n) None
workers_counted (negsuc n) = None

abbrev pub settings_with : Option Mode → Option ℕ → Option Settings
settings_with (Some mode) (Some workers) = Some (record { mode = mode; workers = workers })
settings_with _ _ = None

-- the settings in these values, unless the mode is unknown
abbrev pub settings_in : Values → Option Settings
settings_in values = settings_with (option_and_then mode_named (values (codes "mode"))) (option_and_then workers_counted (option_and_then int_of (values (codes "workers"))))

-- the demo of a number of flights, unless there may not be so many
abbrev pub demo_sized : ℤ → Option TextSource
demo_sized (pos n) = cond (nat_lt 0 n && nat_lt n (most_flights + 1)) (Some (Demo n)) None
demo_sized (negsuc n) = None

-- the texts that the values of `--demo`, of the book and of the script name: either a demo or files
abbrev pub texts_named : Option (List ℕ) → Option (List ℕ) → Option (List ℕ) → Option TextSource
texts_named None (Some book) script = Some (Files book script)
texts_named (Some number) None script = option_and_then demo_sized (int_of number)
texts_named _ _ script = None

abbrev pub texts_in : Values → Option TextSource
texts_in values = texts_named (values (codes "demo")) (values (codes "book")) (values (codes "script"))

-- what the words of a run ask for: how it works, and where its texts come from
pub record Invocation : Type 0 where
  pub settings : Settings
  pub texts : TextSource

abbrev pub called : Option Settings → Option TextSource → Option Invocation
called (Some settings) (Some texts) = Some (record { settings = settings; texts = texts })
called _ _ = None

abbrev pub invocation_in : Values → Option Invocation
invocation_in values = called (settings_in values) (texts_in values)

-- something, if clap takes the words and finds no error
abbrev pub where_taken : {A : Type 0} → Kinds → Option A → Option A
where_taken [] found = found
where_taken (kind ∷ kinds) found = None

-- what the words of a run ask for, unless clap doesn't take them, they ask for help, the mode is unknown, or they don't give exactly one of a book and a demo
abbrev pub invocation_of : List (List ℕ) → Option Invocation
invocation_of words = where_taken (fault_of smoke_app words) (invocation_in (value_given words))

abbrev pub words_of : List (List ℕ) → Option TextSource
words_of words = option_map (λ call. call.texts) (invocation_of words)
