use Rattle.tl_border.proofs.border.Border.open.Given as goal

abbrev pub ghosts-open_line : goal.ghosts-open_line
ghosts-open_line g a = record { job = g.J.RowJob.rows a.job.now; from = a.from }
