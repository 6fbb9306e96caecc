-- The words of a conversation: what clap takes by this command's rules, and what they ask for.
use Rattle.std.specs.{Prelude.{ℕ, Bool, true, false, List, Option, Some, None, option_map, codes}, Str.bytes_eq}
use Rattle.clap.specs.{Words.{App, Rule, new_app, new_rule, with_rule, fault_of}, Simple.on_top, declared.builder.action.ArgAction.TheVariants.SetTrue}
use Rattle.smk_model.specs.Words.{Settings, TextSource, Values, mode_rule, workers_rule, demo_rule, settings_in, texts_named, value_given_to, where_taken}

-- the option `--read-only`, which has no value of its own
abbrev pub read_only_rule : Rule
read_only_rule = record (new_rule (codes "read-only")) { long = Some (codes "read-only"); action = Some SetTrue }

-- the option `--brief`, which has no value either
abbrev pub brief_rule : Rule
brief_rule = record (new_rule (codes "brief")) { long = Some (codes "brief"); action = Some SetTrue }

-- the command: its options, and then the place of the book
abbrev pub talk_app : App
talk_app = with_rule (with_rule (with_rule (with_rule (with_rule (with_rule (on_top (λ s. record s { no_binary_name = true }) (new_app (codes "smoke_live"))) mode_rule) workers_rule) demo_rule) read_only_rule) brief_rule) (new_rule (codes "book"))

-- whether an option is set
abbrev pub is_set : Option (List ℕ) → Bool
is_set (Some text) = bytes_eq text (codes "true")
is_set None = false

-- what the words ask for: how the conversation works, where its texts come from, whether nothing may be appended, and whether the schema comes first in place of the views
pub record TalkCall : Type 0 where
  pub settings : Settings
  pub texts : TextSource
  pub read_only : Bool
  pub brief : Bool

abbrev pub called_to_talk : Bool → Bool → Option Settings → Option TextSource → Option TalkCall
called_to_talk read_only brief (Some settings) (Some texts) = Some (record { settings = settings; texts = texts; read_only = read_only; brief = brief })
called_to_talk read_only brief _ _ = None

-- the texts are those of a run without a script
abbrev pub talk_call_in : Values → Option TalkCall
talk_call_in values = called_to_talk (is_set (values (codes "read-only"))) (is_set (values (codes "brief"))) (settings_in values) (texts_named (values (codes "demo")) (values (codes "book")) None)

-- what the words ask for, unless clap doesn't take them, the mode is unknown, or they don't give exactly one of a book and a demo
abbrev pub talk_call_of : List (List ℕ) → Option TalkCall
talk_call_of words = where_taken (fault_of talk_app words) (talk_call_in (value_given_to talk_app words))

-- where the texts of the book are found, and those of the files that lines append
abbrev pub talk_source : List (List ℕ) → Option TextSource
talk_source words = option_map (λ call. call.texts) (talk_call_of words)
