use Rattle.cases.proofs.talking.hold_talk.Given as goal

abbrev pub ghosts-counted_talk : goal.ghosts-counted_talk
ghosts-counted_talk g a = record { name = a.blank.name; parts = a.blank.parts }
