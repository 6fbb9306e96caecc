use Rattle.std.proofs.Common.{Some, ℕ, List, Bool, cond, ap, sym, ◌∙◌, subst}
use Rattle.smk_model.specs.{OwnLines.{IsOwnReading, without_lead, alone, not_alone}, Tokens.HasNoToken}
use Rattle.smk_own.specs.{Image.own_reading_image, Leads.lead_image}
use Rattle.smk_own.proofs.OwnReads.{kept_if_ok}
use Rattle.smk_own.proofs.reading.read_own.Goals as goal

-- a text has no token, or has one
abbrev IfBlank : List ℕ → Bool → Type 0
IfBlank text blank = cond blank (HasNoToken text) (HasNoToken text → ⊥)

pub returns-in_default-clause-says : goal.returns-in_default-clause-says
returns-in_default-clause-says c = subst (IsOwnReading c.args.text.now) (sym c.at_first_dot.ensures) (without_lead (sym c.in_default.ensures))

pub returns-then-branch-clause-says : goal.returns-then-branch-clause-says
returns-then-branch-clause-says c = alone (sym c.in-Some.ensures ∙ ap (λ lead. Some (lead_image lead, c.in-Some.rest.now)) c.in-Schema.is) (subst (IfBlank c.in-Some.rest.now) c.if-branch.true c.in_ok-is_blank-in-Schema.ensures)

pub returns-else-branch-clause-says : goal.returns-else-branch-clause-says
returns-else-branch-clause-says c =
    let missed = not_alone (sym c.in-Some.ensures ∙ ap (λ lead. Some (lead_image lead, c.in-Some.rest.now)) c.in-Schema.is) (subst (IfBlank c.in-Some.rest.now) c.if-branch.false c.in_ok-is_blank-in-Schema.ensures) in
    subst (IsOwnReading c.args.text.now) (sym c.at_first_dot-else-branch.ensures) missed

pub returns-then-branch-2-clause-says : goal.returns-then-branch-2-clause-says
returns-then-branch-2-clause-says c = alone (sym c.in-Some.ensures ∙ ap (λ lead. Some (lead_image lead, c.in-Some.rest.now)) c.in-Help.is) (subst (IfBlank c.in-Some.rest.now) c.if-branch-2.true c.in_ok-is_blank-in-Help.ensures)

pub returns-else-branch-2-clause-says : goal.returns-else-branch-2-clause-says
returns-else-branch-2-clause-says c =
    let missed = not_alone (sym c.in-Some.ensures ∙ ap (λ lead. Some (lead_image lead, c.in-Some.rest.now)) c.in-Help.is) (subst (IfBlank c.in-Some.rest.now) c.if-branch-2.false c.in_ok-is_blank-in-Help.ensures) in
    subst (IsOwnReading c.args.text.now) (sym c.at_first_dot-else-branch-2.ensures) missed

pub returns-in-Selected-clause-kept : goal.returns-in-Selected-clause-kept
returns-in-Selected-clause-kept c = kept_if_ok own_reading_image c.args.text.now c.before_table.result c.before_table.ensures

pub returns-in-Before-clause-kept : goal.returns-in-Before-clause-kept
returns-in-Before-clause-kept c = kept_if_ok own_reading_image c.args.text.now c.before_line.result c.before_line.ensures
