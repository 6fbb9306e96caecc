use Rattle.std.proofs.Common.{◌∙◌, ◌++◌, ap, sym, codes}
use Rattle.smk_model.specs.{Texts.record_line, Demo.{airport, airport_header}}
use Rattle.smk_demo.proofs.{DemoTexts.airport_header_line, Records.records_more}
use Rattle.smk_demo.proofs.tables.airports.Goals as goal

pub loop-i-init : goal.loop-i-init
loop-i-init c = c.in_ok-extend_from_slice.ensures.items ∙ (ap (λ x. x ++ codes "code,state\n") c.in_ok-text.ensures.items ∙ sym airport_header_line)

pub loop-i-preserved : goal.loop-i-preserved
loop-i-preserved c = c.in_ok-add_airport.ensures ∙ (ap (λ x. x ++ record_line (airport c.loop-i.i)) c.loop-i.invariant ∙ sym (records_more airport_header airport c.loop-i.i))
