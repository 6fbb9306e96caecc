-- Words and lines as the definitions see them.
use Rattle.smk_base.specs.TreeImage.{any_image}
use Rattle.smk_model.specs.Readings as readings
use Rattle.smk_model.specs.{Words.Invocation, TalkWords.TalkCall}
use Rattle.smk_model.specs.Words as calls
use Rattle.smk_session.specs.{declared.start.mode.Mode.Mode, declared.start.mode.Mode.TheVariants.{Inject, Defer}}
use Rattle.smk_inputs.specs.{declared.settings.Settings.Settings, declared.called.RunTexts.RunTexts, declared.called.RunTexts.TheVariants.{Files, Demo}, declared.called.RunWords.RunWords, declared.called.TalkWords.TalkWords, declared.script.Reading.Reading, declared.script.Reading.TheVariants.{Nothing, Asks, Unread}}

abbrev pub mode_image : Mode → calls.Mode
mode_image Inject = calls.Inject
mode_image Defer = calls.Defer

abbrev pub settings_image : Settings → calls.Settings
settings_image settings = record { mode = mode_image settings.mode; workers = settings.workers }

abbrev pub texts_image : RunTexts → calls.TextSource
texts_image (Files book script) = calls.Files book script
texts_image (Demo flights) = calls.Demo flights.count

-- what the words of a run ask for
abbrev pub invocation_image : RunWords → Invocation
invocation_image words = record { settings = settings_image words.settings; texts = texts_image words.texts }

-- what the words of a conversation ask for
abbrev pub talk_image : TalkWords → TalkCall
talk_image words = record { settings = settings_image words.settings; texts = texts_image words.texts; read_only = words.read_only; brief = words.brief }

-- what a line says
abbrev pub reading_image : Reading → readings.Reading
reading_image Nothing = readings.Nothing
reading_image (Asks line) = readings.Asks (any_image line)
reading_image (Unread at) = readings.Unread at
