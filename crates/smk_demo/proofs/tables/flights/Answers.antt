use Rattle.std.proofs.{Common.{◌∙◌, ◌++◌, ap, sym, codes, arith}, lemmas.Grind.common_steps}
use Rattle.smk_model.specs.{Texts.record_line, Demo.{flight, flight_header}}
use Rattle.smk_demo.proofs.{DemoTexts.flight_header_line, Records.records_more}
use Rattle.smk_demo.proofs.tables.flights.Goals as goal

pub loop-i-init : goal.loop-i-init
loop-i-init c = c.in_ok-extend_from_slice.ensures.items ∙ (ap (λ x. x ++ codes "id,carrier,hour,delay,airport\n") c.in_ok-text.ensures.items ∙ sym flight_header_line)

pub loop-i-preserved : goal.loop-i-preserved
loop-i-preserved c = c.in_ok-add_flight.ensures ∙ (ap (λ x. x ++ record_line (flight c.loop-i.i)) c.loop-i.invariant ∙ sym (records_more flight_header flight c.loop-i.i))

pub returns : goal.returns
returns c = grind (arith, common_steps)
