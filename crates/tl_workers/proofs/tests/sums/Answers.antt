use Rattle.tl_workers.proofs.tests.sums.Goals as goal

pub fill_all-requires-clause-job : goal.fill_all-requires-clause-job
fill_all-requires-clause-job g c κs within = (7, c.in_ok-blanks.ensures.job, c.in_ok-adders.ensures.start)
