use Rattle.std.proofs.Common.{◌∙◌, ap, nat_lt, refl, sym, subst}
use Rattle.smk_base.specs.{declared.book.limits.TheConstants.LINEAGE_LIMIT, declared.fault.Many.TheVariants.{Tables, Views, Lineages, Links}}
use Rattle.smk_base.specs.declared.book.token.TokenKind.TheVariants as kinds
use Rattle.smk_model.specs.TokenReadings.{Fine, within}
use Rattle.smk_model.proofs.InTurn.{only}
use Rattle.smk_parse.{specs.Vocabulary.stmt_image, specs.Vocabulary.table_rule, specs.Vocabulary.view_rule, specs.Vocabulary.link_rule, specs.Vocabulary.depends_rule, specs.Vocabulary.ALineage, specs.Vocabulary.Reads, specs.Vocabulary.Gives, specs.Vocabulary.no_counts, specs.Vocabulary.runs, specs.Reads.Answers, proofs.Steps.stmt_answers}
use Rattle.smk_parse.proofs.book.stmt.Goals as goal

pub returns-in_ok-within-in-Table : goal.returns-in_ok-within-in-Table
returns-in_ok-within-in-Table c = stmt_answers stmt_image c.args.tally.now _ kinds.Table (λ t. table_rule) c.args.reader.now c.advance_to.new.self c.table_stmt.new.reader c.table_stmt.result (sym c.in-Table.ensures.is) refl (ap (λ o. within o Tables (Fine no_counts)) c.in_ok-within-in-Table.ensures.few) c.kind.ensures.here c.advance_to.ensures refl c.table_stmt.ensures

pub returns-in_ok-within-in-View : goal.returns-in_ok-within-in-View
returns-in_ok-within-in-View c = stmt_answers stmt_image c.args.tally.now _ kinds.View (λ t. view_rule) c.args.reader.now c.advance_to-in-View.new.self c.view_stmt.new.reader c.view_stmt.result (sym c.in-View.ensures.is) refl (ap (λ o. within o Views (Fine no_counts)) c.in_ok-within-in-View.ensures.few) c.kind.ensures.here c.advance_to-in-View.ensures refl c.view_stmt.ensures

pub returns-in_ok-within-in-Link : goal.returns-in_ok-within-in-Link
returns-in_ok-within-in-Link c = stmt_answers stmt_image c.args.tally.now _ kinds.Link (λ t. link_rule) c.args.reader.now c.advance_to-in-Link.new.self c.link_stmt.new.reader c.link_stmt.result (sym c.in-Link.ensures.is) refl (ap (λ o. within o Links (Fine no_counts)) c.in_ok-within-in-Link.ensures.few) c.kind.ensures.here c.advance_to-in-Link.ensures refl c.link_stmt.ensures

pub returns-in_ok-within-in-Lineage : goal.returns-in_ok-within-in-Lineage
returns-in_ok-within-in-Lineage c =
    let read = subst (λ n. Answers (runs (Reads (ALineage n) Gives) c.advance_to-in-Lineage.new.self) stmt_image c.lineage_stmt.new.reader c.lineage_stmt.result) c.at-at.ensures (subst (λ q. Answers q stmt_image c.lineage_stmt.new.reader c.lineage_stmt.result) (sym (only (ALineage c.at-at.result) c.advance_to-in-Lineage.new.self)) c.lineage_stmt.ensures) in
    stmt_answers stmt_image c.args.tally.now _ kinds.Lineage (λ t. Reads (ALineage t.at) Gives) c.args.reader.now c.advance_to-in-Lineage.new.self c.lineage_stmt.new.reader c.lineage_stmt.result (sym c.in-Lineage.ensures.is) refl (ap (λ o. within o Lineages (Fine no_counts)) c.in_ok-within-in-Lineage.ensures.few) c.kind.ensures.here c.advance_to-in-Lineage.ensures refl read

pub returns-in_ok-within-in-Fd-2 : goal.returns-in_ok-within-in-Fd-2
returns-in_ok-within-in-Fd-2 c =
    let read = subst (λ n. Answers (runs (depends_rule n) c.advance_to-in-Fd.new.self) stmt_image c.depends_stmt.new.reader c.depends_stmt.result) c.at-at.ensures c.depends_stmt.ensures in
    stmt_answers stmt_image c.args.tally.now _ kinds.Fd (λ t. depends_rule t.at) c.args.reader.now c.advance_to-in-Fd.new.self c.depends_stmt.new.reader c.depends_stmt.result (sym c.in-Fd.ensures.is) refl (ap (λ o. within o Views (within (nat_lt c.args.tally.now.lineages LINEAGE_LIMIT) Lineages (Fine no_counts))) c.in_ok-within-in-Fd.ensures.few ∙ ap (λ o. within o Lineages (Fine no_counts)) c.in_ok-within-in-Fd-2.ensures.few) c.kind.ensures.here c.advance_to-in-Fd.ensures refl read
