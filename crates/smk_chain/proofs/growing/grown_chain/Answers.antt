use Rattle.smk_chain.proofs.growing.grown_chain.Goals as goal

pub rows_of_both-requires-clause-kinds : goal.rows_of_both-requires-clause-kinds
rows_of_both-requires-clause-kinds c = c.requires.kinds

pub rows_of_both-requires-clause-few : goal.rows_of_both-requires-clause-few
rows_of_both-requires-clause-few c = c.requires.few
