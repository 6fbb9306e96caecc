use Rattle.smk_tests.proofs.tables.regions_give.Given as goal

abbrev pub ghosts-gives : goal.ghosts-gives
ghosts-gives a = record { name = a.blank.name; parts = a.blank.parts }

abbrev pub ghosts-builds : goal.ghosts-builds
ghosts-builds a = record { name = a.blank.name; parts = a.blank.parts }
