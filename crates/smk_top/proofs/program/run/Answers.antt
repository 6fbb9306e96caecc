use Rattle.std.proofs.Common.{List, ℕ, map, Bor}
use Rattle.smk_top.proofs.Endings.{ends_reported, ends_unwritten, ends_exhausted, ends_faulted, no_report_is_a_fault, no_memory_is_no_fault, said_later}
use Rattle.smk_top.proofs.program.run.Goals as goal

pub returns-in-Ok-clause-ends : goal.returns-in-Ok-clause-ends
returns-in-Ok-clause-ends g c =
    ends_reported (map (λ (w : Bor (List ℕ)). w.now) c.args.words.now) _ _ _ _ _ _ _ c.in-Ok.counts _ c.in-Ok.ensures.works c.status_of_counts.ensures

pub returns-in-Err-At-clause-ends : goal.returns-in-Err-At-clause-ends
returns-in-Err-At-clause-ends g c =
    ends_faulted (map (λ (w : Bor (List ℕ)). w.now) c.args.words.now) _ _ _ _ _ _ _ _ c.in-Err-At.fault _ (rw c.in-Err-At.field-0-is at c.in-Err-At.ensures.works) c.say_fault.ensures.said

pub returns-in-Err-Unwritten-clause-ends : goal.returns-in-Err-Unwritten-clause-ends
returns-in-Err-Unwritten-clause-ends g c =
    ends_unwritten (map (λ (w : Bor (List ℕ)). w.now) c.args.words.now) _ _ _ _ _ _ _ (rw c.in-Err-Unwritten.field-0-is at c.in-Err-Unwritten.ensures.works)

pub returns-in-Err-Exhausted-clause-ends : goal.returns-in-Err-Exhausted-clause-ends
returns-in-Err-Exhausted-clause-ends g c =
    ends_exhausted (map (λ (w : Bor (List ℕ)). w.now) c.args.words.now) _ _ _ _ _ _ _ _ _ (rw c.in-Err-Exhausted.field-0-is at c.in-Err-Exhausted.ensures.works) c.say_no_memory.ensures.said

pub returns-in-Ok-clause-no_look : goal.returns-in-Ok-clause-no_look
returns-in-Ok-clause-no_look g c met =
    let w = c.in-Ok.ensures.works in
    absurd (no_report_is_a_fault w.0 _ (c.status_of_counts.ensures w.0 w.3) met)

pub returns-in-Err-At-clause-no_look : goal.returns-in-Err-At-clause-no_look
returns-in-Err-At-clause-no_look g c met =
    said_later c.in-Err-At.fault _ _ _ _ _ _ c.say_fault.ensures.said (rw c.in-Err-At.field-0-is at c.in-Err-At.ensures.no_look) met

pub returns-in-Err-Exhausted-clause-no_look : goal.returns-in-Err-Exhausted-clause-no_look
returns-in-Err-Exhausted-clause-no_look g c met = absurd (no_memory_is_no_fault _ _ _ _ c.say_no_memory.ensures.said met)

pub say_fault-requires : goal.say_fault-requires
say_fault-requires g c = rw c.in-Err-At.field-0-is at c.in-Err-At.ensures.said
