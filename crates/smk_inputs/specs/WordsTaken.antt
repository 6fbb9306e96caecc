-- What clap's matches say of the words.
use Rattle.std.specs.Prelude.{◌≡◌, ◌≢◌, ℕ, List, [], Option, Some, None}
use Rattle.clap.specs.{Words.{App, fault_of, first_value, found_of}, declared.parser.matches.ArgMatches.ArgMatches}
use Rattle.smk_model.specs.Words.{Values, value_given_to}

-- the values that matches have
abbrev pub values_of : ArgMatches → Values
values_of matches = first_value (found_of matches)

-- clap takes the words for a command, and the matches have the values that it finds; there are no matches exactly if it doesn't take them
abbrev pub MatchesOf : App → List (List ℕ) → Option ArgMatches → Type 0
MatchesOf app words (Some matches) = (fault_of app words ≡ []) × ((name : List ℕ) → values_of matches name ≡ value_given_to app words name)
MatchesOf app words None = fault_of app words ≢ []
