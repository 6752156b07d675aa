use Rattle.tl_crew.proofs.stretches.sweep_by_hands.Goals as goal

pub sweep_apart-requires-clause-at : goal.sweep_apart-requires-clause-at
sweep_apart-requires-clause-at g c κs outlives k d within = record { coins = c.begin.ensures.coins k d within; at = c.in_ok-begin.ensures.at k d within }

pub returns-clause-coins : goal.returns-clause-coins
returns-clause-coins g c k d within = (c.finish.ensures.at k d within).coins
