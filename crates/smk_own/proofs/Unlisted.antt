-- A reply without its lists is one to the same line.
use Rattle.std.specs.Prelude.{All, map}
use Rattle.std.proofs.{Common.{◌≡◌, List, [], ◌∷◌, refl, ap}, lemmas.List.Elements.{All-nil, All-cons, All-head, All-tail}}
use Rattle.smk_base.specs.{CatalogImage.CatalogImage, declared.book.tree.Line.Line, declared.reply.Linked.Linked, declared.reply.Reply.Reply}
use Rattle.smk_base.specs.declared.book.tree.Line.TheVariants as lines
use Rattle.smk_base.specs.declared.reply.Reply.TheVariants as replies
use Rattle.smk_model.specs.{OwnTexts.{unlisted, without_marks}, Replies.is_refused, ReplyTexts.{IsLinkedIn, IsReplyTo}}

all_without : (catalog : CatalogImage) (linked : List Linked) → All (IsLinkedIn catalog) linked → All (IsLinkedIn catalog) (map without_marks linked)
all_without catalog [] h = All-nil (IsLinkedIn catalog)
all_without catalog (one ∷ more) h =
    let head = All-head (IsLinkedIn catalog) one more h in
    All-cons (IsLinkedIn catalog) (without_marks one) (map without_marks more) (record { known = head.known; named = head.named }) (all_without catalog more (All-tail (IsLinkedIn catalog) one more h))

pub unlisted_fits : (catalog : CatalogImage) (asked : Line) (told : Reply) → IsReplyTo catalog asked told → IsReplyTo catalog asked (unlisted told)
unlisted_fits catalog (lines.Brush view marks table) (replies.Brush rids linked) h = all_without catalog linked h
unlisted_fits catalog (lines.ClearOne view table) (replies.ClearedOne linked) h = all_without catalog linked h
unlisted_fits catalog (lines.Show view) (replies.Brush rids linked) h = absurd h
unlisted_fits catalog (lines.Back view marks table then) (replies.Brush rids linked) h = absurd h
unlisted_fits catalog (lines.Fwd table rows view) (replies.Brush rids linked) h = absurd h
unlisted_fits catalog lines.Clear (replies.Brush rids linked) h = absurd h
unlisted_fits catalog (lines.ClearOne view table) (replies.Brush rids linked) h = absurd h
unlisted_fits catalog (lines.Show view) (replies.ClearedOne linked) h = absurd h
unlisted_fits catalog (lines.Back view marks table then) (replies.ClearedOne linked) h = absurd h
unlisted_fits catalog (lines.Fwd table rows view) (replies.ClearedOne linked) h = absurd h
unlisted_fits catalog lines.Clear (replies.ClearedOne linked) h = absurd h
unlisted_fits catalog (lines.Brush view marks table) (replies.ClearedOne linked) h = absurd h
unlisted_fits catalog asked (replies.View rel) h = h
unlisted_fits catalog asked (replies.Back rids rows) h = h
unlisted_fits catalog asked (replies.Grouped rel) h = h
unlisted_fits catalog asked (replies.Fwd marks) h = h
unlisted_fits catalog asked replies.Cleared h = h
unlisted_fits catalog asked (replies.Refused refusal) h = h

without_twice : (linked : List Linked) → map without_marks (map without_marks linked) ≡ map without_marks linked
without_twice [] = refl
without_twice (one ∷ more) = ap (λ l. without_marks one ∷ l) (without_twice more)

pub unlisted_twice : (told : Reply) → unlisted (unlisted told) ≡ unlisted told
unlisted_twice (replies.Brush rids linked) = ap (replies.Brush []) (without_twice linked)
unlisted_twice (replies.ClearedOne linked) = ap replies.ClearedOne (without_twice linked)
unlisted_twice _ = refl

pub unlisted_refused : (told : Reply) → is_refused (unlisted told) ≡ is_refused told
unlisted_refused (replies.Brush rids linked) = refl
unlisted_refused (replies.ClearedOne linked) = refl
unlisted_refused _ = refl
