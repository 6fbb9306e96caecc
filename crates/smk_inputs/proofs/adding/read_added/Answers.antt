use Rattle.std.proofs.{Common.{◌∙◌, refl, arith, deque_items}, lemmas.Result.err_from_is_err_and}
use Rattle.smk_outside.specs.Outside.{Rose}
use Rattle.smk_inputs.proofs.{Stops.rose_within, AddedReads.{pass_begins, pass_on, pass_stops, pass_ends}}
use Rattle.smk_inputs.proofs.adding.read_added.Goals as goal

pub loop-span-init : goal.loop-span-init
loop-span-init g c = record {
  passed = pass_begins _ deque_items _ _ _ _ c.new-added.ensures.items;
  inside = omega arith;
  held = refl;
  later = omega arith;
}

pub loop-span-preserved : goal.loop-span-preserved
loop-span-preserved g c =
    let inv = c.loop-span.invariant in
    record {
      passed = pass_on _ deque_items _ _ _ _ _ _ _ _ _ _ _ inv.passed c.in-Some.ensures.some.cut c.in_ok-reading.ensures.says (rw inv.held at c.in_ok-brought.ensures.read) c.in_ok-brought.ensures.kinds c.in_ok-keep.ensures.kept;
      inside = c.in-Some.ensures.some.within;
      held = c.in_ok-brought.ensures.held ∙ inv.held;
      later = omega (arith, inv.later, c.in_ok-brought.ensures.later);
    }

pub returns-in_err-brought-clause-read : goal.returns-in_err-brought-clause-read
returns-in_err-brought-clause-read g c said all =
    let p = err_from_is_err_and c.from_residual-in_err-brought.result c.from_residual-in_err-brought.ensures.1 in
    let inv = c.loop-span.invariant in
    let wide : Rose (g.F.Files.faults c.loop-span.files) (g.F.Files.faults c.bring-found.new.files) → Rose (g.F.Files.faults c.args.files.now) (g.F.Files.faults c.bring-found.new.files) =
    λ up. rose_within _ _ _ _ inv.later c.in_err-brought.ensures.later (omega arith) up in
    rw (p.1, p.2) (pass_stops _ deque_items _ _ _ _ _ _ _ _ _ _ _ inv.passed c.in-Some.ensures.some.cut c.in_ok-reading.ensures.says wide (rw inv.held at c.in_err-brought.ensures.read) said all)

pub returns-clause-read : goal.returns-clause-read
returns-clause-read g c said all = pass_ends _ deque_items _ _ _ _ _ _ c.loop-span.invariant.passed c.in_default.ensures.none said all
