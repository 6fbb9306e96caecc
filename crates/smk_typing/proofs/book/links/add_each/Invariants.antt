use Rattle.std.proofs.Common.{◌≡◌, ◌++◌, [], map}
use Rattle.smk_model.specs.Typing.{to_after, all_links, linked_to}
use Rattle.smk_typing.specs.{Drafts.over, Keys.link_key, Turns.Remains}
use Rattle.smk_typing.proofs.book.links.add_each.Given as goal

abbrev pub invariant-loop-word : goal.invariant-loop-word
invariant-loop-word l = Remains (to_after (over l.views l.links) l.from.view l.from.table) [] l.words l.to l.word-index × (l.keys.keys ≡ map link_key (all_links l.links ++ linked_to l.from.view l.from.table l.to))
