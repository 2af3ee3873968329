use Rattle.hmc_outside.proofs.counts.ReadCounts.count_fault.Goals as goal

pub returns : goal.returns
returns c = rw (c.one_more-self.ensures, c.one_more-self-2.ensures, c.count_once.ensures)
