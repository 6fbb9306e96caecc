-- An answer to an `fd` line without its rows.
use Rattle.std.specs.{Prelude.{ℕ, List, [], ◌∷◌, ◌++◌, length, map, slice_index_or, codes, decimal}, List.flat_map}
use Rattle.smk_base.specs.{declared.reply.Group.Group, declared.reply.ProfileReply.ProfileReply}
use Rattle.smk_base.specs.declared.reply.ProfileReply.TheVariants as whole
use Rattle.smk_model.specs.{Lineage.upto, ProfileTexts.found_line, Texts.line}
use Rattle.smk_profile.specs.{declared.brief.BriefProfile.BriefProfile, declared.brief.BriefProfile.TheVariants.{Found, Refused}}

-- how many rows each group has, or the refusal
abbrev pub size_of : Group → ℕ
size_of group = length group.rows.rows

abbrev pub group_sizes : ProfileReply → BriefProfile
group_sizes (whole.Found table groups) = Found (map size_of groups)
group_sizes (whole.Refused refusal) = Refused refusal

-- the text of so many rows with each key
abbrev pub sizes_text : List ℕ → List ℕ → List ℕ
sizes_text view counts = found_line view (length counts) ++ flat_map (λ mark. line (codes "mark " ∷ decimal mark ∷ codes " " ∷ decimal (slice_index_or counts mark 0) ∷ [])) (upto (length counts))
