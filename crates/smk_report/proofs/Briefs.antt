-- The text of a reply without its lists of rids and marks is that of any reply with the same contents and as many rids.
use Rattle.std.proofs.{Common.{◌≡◌, ◌∙◌, ℕ, List, ◌++◌, map, refl, ap, sym}, lemmas.List.Folds.flat_map-map}
use Rattle.std.specs.List.{flat_map}
use Rattle.smk_base.specs.{CatalogImage.CatalogImage, declared.book.tree.Line.Line, declared.reply.Linked.Linked, declared.reply.Reply.Reply}
use Rattle.smk_base.specs.declared.reply.Reply.TheVariants as replies
use Rattle.smk_model.specs.{OwnTexts.{brief_text, brushed_rids, unlisted, without_marks}, ReplyTexts.{cleared_line, linked_rows_text, reply_text, table_in, view_in}, Texts.brush_heading}

-- the text of a reply, where it selects so many rids
abbrev pub brief_of : CatalogImage → Line → ℕ → Reply → List ℕ
brief_of catalog asked count (replies.Brush rids linked) = brush_heading (view_in asked) (table_in asked) count ++ flat_map (linked_rows_text catalog) linked
brief_of catalog asked count (replies.ClearedOne linked) = cleared_line (view_in asked) (table_in asked) ++ flat_map (linked_rows_text catalog) linked
brief_of catalog asked count told = reply_text catalog asked told

counted : (catalog : CatalogImage) (asked : Line) (told : Reply) → brief_text catalog asked told ≡ brief_of catalog asked (brushed_rids told) told
counted catalog asked (replies.Brush rids linked) = refl
counted catalog asked _ = refl

contents : (catalog : CatalogImage) (linked : List Linked) → flat_map (linked_rows_text catalog) (map without_marks linked) ≡ flat_map (linked_rows_text catalog) linked
contents catalog linked = flat_map-map (linked_rows_text catalog) without_marks linked

unlisted_brief : (catalog : CatalogImage) (asked : Line) (count : ℕ) (told : Reply) → brief_of catalog asked count (unlisted told) ≡ brief_of catalog asked count told
unlisted_brief catalog asked count (replies.Brush rids linked) = ap (λ (x : List ℕ). brush_heading (view_in asked) (table_in asked) count ++ x) (contents catalog linked)
unlisted_brief catalog asked count (replies.ClearedOne linked) = ap (λ (x : List ℕ). cleared_line (view_in asked) (table_in asked) ++ x) (contents catalog linked)
unlisted_brief catalog asked count _ = refl

pub brief_same : (catalog : CatalogImage) (asked : Line) (count : ℕ) (told reply : Reply) → unlisted told ≡ unlisted reply → brushed_rids told ≡ count → brief_text catalog asked told ≡ brief_of catalog asked count reply
brief_same catalog asked count told reply e n =
    counted catalog asked told ∙ ap (λ (k : ℕ). brief_of catalog asked k told) n ∙ sym (unlisted_brief catalog asked count told) ∙ ap (brief_of catalog asked count) e ∙ unlisted_brief catalog asked count reply
