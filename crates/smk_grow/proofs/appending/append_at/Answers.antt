use Rattle.std.proofs.Common.{◌≡◌, ◌∙◌, ◌≤◌, ◌<◌, ◌+◌, IfOk, Some, ap, length, option_map, subst, sym}
use Rattle.smk_base.specs.CatalogImage.{catalog_image}
use Rattle.smk_model.specs.Appends.{append_looks_at}
use Rattle.smk_compose.specs.Fetched.{table_of}
use Rattle.smk_session.specs.{Parts.parts_image, Sessions.{IsSession, SessionImage, state_of, workbook_of}}
use Rattle.smk_grow.specs.Told.{told_text}
use Rattle.smk_grow.proofs.Told.{kinds_at, table_below, told_keeps, told_state}
use Rattle.smk_grow.proofs.appending.append_at.Goals as goal

pub grow_within-told-requires-clause-kinds : goal.grow_within-told-requires-clause-kinds
grow_within-told-requires-clause-kinds g c κs within =
    let session = c.args.session in
    let keeps = c.into_parts-parts.ensures.keeps in
    c.requires.kinds ∙ sym (kinds_at session.catalog session.tables c.args.table keeps.opened.kinds c.requires.table)
    ∙ ap (λ (i : SessionImage). (table_of i.tables c.args.table).kinds) (sym c.into_parts-parts.ensures.parts)

pub grow_within-told-requires-clause-table : goal.grow_within-told-requires-clause-table
grow_within-told-requires-clause-table g c κs within =
    let below = table_below c.args.session c.args.table c.into_parts-parts.ensures.keeps c.requires.table in
    subst (λ (i : SessionImage). c.args.table < length i.tables) (sym c.into_parts-parts.ensures.parts) below

pub from_parts-requires : goal.from_parts-requires
from_parts-requires g c =
    let session = c.args.session in
    let parts = parts_image c.into_parts-parts.result in
    let keeps : IsSession parts = subst IsSession (sym c.into_parts-parts.ensures.parts) c.into_parts-parts.ensures.keeps in
    let below = table_below session c.args.table c.into_parts-parts.ensures.keeps c.requires.table in
    let low = subst (λ (i : SessionImage). c.args.table < length i.tables) (sym c.into_parts-parts.ensures.parts) below in
    record { keeps = told_keeps c.grow_within-told.result parts (parts_image c.grow_within-told.new.parts) c.args.table c.args.more.rows keeps low c.grow_within-told.ensures.after c.grow_within-told.ensures.kept }

pub returns-clause-after : goal.returns-clause-after
returns-clause-after g c =
    let session = c.args.session in
    let parts = parts_image c.into_parts-parts.result in
    let below = table_below session c.args.table c.into_parts-parts.ensures.keeps c.requires.table in
    told_state c.grow_within-told.result session parts (parts_image c.grow_within-told.new.parts) c.from_parts.result c.args.table c.args.more.rows c.into_parts-parts.ensures.parts below c.grow_within-told.ensures.after c.from_parts.ensures.session

pub returns-clause-looks : goal.returns-clause-looks
returns-clause-looks g c =
    subst (λ (i : SessionImage). c.grow_within-told.new.steps ≤ c.args.steps.now + append_looks_at (catalog_image i.catalog) (state_of i) c.args.more.rows (Some c.args.table)) c.into_parts-parts.ensures.parts c.grow_within-told.ensures.looks

pub returns-clause-text : goal.returns-clause-text
returns-clause-text g c =
    subst (λ (i : SessionImage). IfOk c.grow_within-told.result (λ told. told.1.items ≡ told_text (option_map (λ name. name.now) c.args.said) (workbook_of i) told.0)) (sym c.from_parts.ensures.session) c.grow_within-told.ensures.text
