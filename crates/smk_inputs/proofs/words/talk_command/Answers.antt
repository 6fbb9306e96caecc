use Rattle.std.proofs.Common.{rules, ap₂, codes, true, ◌≡◌, ◌∙◌}
use Rattle.clap.specs.{Words.{app_of, new_app, with_rule}, Simple.on_top}
use Rattle.smk_inputs.proofs.words.talk_command.Goals as goal

pub returns : goal.returns
returns c =
    let plain : app_of c.no_binary_name-plain.result ≡ on_top (λ s. record s { no_binary_name = true }) (new_app (codes "smoke_live")) = search rules in
    let mode = c.in_ok-with_mode.ensures.shape c.mode_arg.ensures.local ∙ ap₂ with_rule plain c.mode_arg.ensures.rule in
    let workers = c.in_ok-with_workers.ensures.shape c.workers_arg.ensures.local ∙ ap₂ with_rule mode c.workers_arg.ensures.rule in
    let demo = c.in_ok-with_demo.ensures.shape c.demo_arg.ensures.local ∙ ap₂ with_rule workers c.demo_arg.ensures.rule in
    let read_only = c.in_ok-with_read_only.ensures.shape c.read_only_arg.ensures.local ∙ ap₂ with_rule demo c.read_only_arg.ensures.rule in
    let brief = c.in_ok-with_brief.ensures.shape c.brief_arg.ensures.local ∙ ap₂ with_rule read_only c.brief_arg.ensures.rule in
    c.in_ok-with_book.ensures.shape c.place_arg.ensures.local ∙ ap₂ with_rule brief c.place_arg.ensures.rule
