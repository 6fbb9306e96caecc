use Rattle.smk_chain.proofs.growing.grown_groups.Goals as goal

pub rows_of_both-requires-clause-kinds : goal.rows_of_both-requires-clause-kinds
rows_of_both-requires-clause-kinds c = c.requires.joins.kinds

pub rows_of_both-requires-clause-few : goal.rows_of_both-requires-clause-few
rows_of_both-requires-clause-few c = c.requires.joins.few
