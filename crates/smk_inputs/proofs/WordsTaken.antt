-- Clap's matches are those of the words, and so is what is said by them.
use Rattle.std.proofs.{Common.{◌≡◌, ◌≢◌, ◌∙◌, ℕ, List, [], ◌∷◌, Option, Some, None, true, ap, refl, subst}, lemmas.Bool.and_parts}
use Rattle.clap.specs.{Kinds.Kinds, Words.{App, HasMatchesOf, found_of, first_of, fault_of, is_simple, is_simple_and_free}, declared.parser.matches.ArgMatches.ArgMatches}
use Rattle.clap.proofs.WalkLemmas.{first_value-rows}
use Rattle.smk_model.specs.Words.{Values, value_given_to, where_taken}
use Rattle.smk_inputs.specs.WordsTaken.{MatchesOf, values_of}

-- the words are taken, and the matches are theirs
pub matches_taken : (app : App) (words : List (List ℕ)) (matches : ArgMatches) → is_simple_and_free app ≡ true → (is_simple_and_free app ≡ true → fault_of app words ≡ [])
    → HasMatchesOf app words matches → MatchesOf app words (Some matches)
matches_taken app words matches simple taken has = (taken simple, λ name. first_value-rows (found_of matches) name ∙ ap (first_of name) (has (and_parts (is_simple app) _ simple).0).0)

-- what values say is then what the words say
pub said_by_matches : {A : Type 0} (says : Values → Option A) (app asked : App) (words : List (List ℕ)) (matches : ArgMatches) → app ≡ asked → MatchesOf app words (Some matches)
    → says (values_of matches) ≡ where_taken (fault_of asked words) (says (value_given_to asked words))
said_by_matches says app asked words matches is taken =
    subst (λ (a : App). says (values_of matches) ≡ where_taken (fault_of a words) (says (value_given_to a words))) is
    (ap says (λ i name. taken.1 name i) ∙ rw taken.0 refl)

-- where there are kinds of error nothing is said
none_where_refused : {A : Type 0} (kinds : Kinds) (found : Option A) → kinds ≢ [] → None ≡ where_taken kinds found
none_where_refused [] found some = absurd (some refl)
none_where_refused (kind ∷ kinds) found some = refl

pub none_without_matches : {A : Type 0} (says : Values → Option A) (app asked : App) (words : List (List ℕ)) → app ≡ asked → MatchesOf app words None
    → None ≡ where_taken (fault_of asked words) (says (value_given_to asked words))
none_without_matches says app asked words is refused =
    subst (λ (a : App). None ≡ where_taken (fault_of a words) (says (value_given_to a words))) is (none_where_refused (fault_of app words) _ refused)
