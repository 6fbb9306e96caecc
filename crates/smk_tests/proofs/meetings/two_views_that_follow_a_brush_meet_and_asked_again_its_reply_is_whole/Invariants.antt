use Rattle.smk_tests.proofs.meetings.two_views_that_follow_a_brush_meet_and_asked_again_its_reply_is_whole.Given as goal

abbrev pub ghosts-told_in_two : goal.ghosts-told_in_two
ghosts-told_in_two g a = record { name = a.blank.name; parts = a.blank.parts }
