use Rattle.std.specs.Prelude.{Ok}
use Rattle.std.proofs.Common.{◌≡◌, ◌∙◌, length, sym, subst}
use Rattle.smk_parse.{specs.Reads.reads_one, specs.Reads.reads_list, specs.Reads.before, proofs.Steps.reads_rest, proofs.Steps.list_begins, proofs.Steps.list_goes, proofs.Steps.list_ends, proofs.Steps.list_smaller}
use Rattle.smk_parse.proofs.lists.listed.Goals as goal

pub members-init : goal.members-init
members-init g c = subst (λ xs. reads_list g.M.Member.rule c.args.reader.now ≡ before xs (reads_rest g.M.Member.rule (length xs) c.args.reader.now)) (sym c.new-list.ensures) (list_begins g.M.Member.rule c.args.reader.now)

pub members-preserved : goal.members-preserved
members-preserved g c = list_goes g.M.Member.rule _ c.members.list c.push.new.self c.in_ok-next.next c.members.reader c.read.new.reader c.advance.new.self c.members.invariant (subst (λ xs. reads_one g.M.Member.rule (length xs) c.members.reader ≡ Ok (c.in_ok-next.next, c.read.new.reader)) c.as_slice-before.ensures c.in_ok-next.ensures) c.kind.ensures.here (sym c.in-Comma.ensures.is) c.advance.ensures c.in_ok-push.ensures.pushed

pub members-smaller : goal.members-smaller
members-smaller g c = list_smaller g.M.Member.rule _ _ c.members.reader c.read.new.reader c.advance.new.self c.in_ok-next.next c.in_ok-next.ensures c.advance.ensures

pub returns-in_default : goal.returns-in_default
returns-in_default g c = list_ends g.M.Member.rule _ c.members.list c.push.new.self c.in_ok-next.next c.members.reader c.read.new.reader c.members.invariant (subst (λ xs. reads_one g.M.Member.rule (length xs) c.members.reader ≡ Ok (c.in_ok-next.next, c.read.new.reader)) c.as_slice-before.ensures c.in_ok-next.ensures) c.kind.ensures.here (λ e. c.in_default.not-Comma (c.kind.ensures.is ∙ e)) c.in_ok-push.ensures.pushed
