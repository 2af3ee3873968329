-- The line of an entry with this first word.
use Rattle.hmc_log.proofs.Writing.{gave_written, took_written, retired_written}
use Rattle.hmc_log.proofs.entry_read.entry_of.Goals as goal

pub returns-clause-gave : goal.returns-clause-gave
returns-clause-gave c = λ words is.
    gave_written c.args.text.now words c.parse.result c.parse.ensures is

pub returns-clause-took : goal.returns-clause-took
returns-clause-took c = λ words is.
    took_written c.args.text.now words c.parse.result c.parse.ensures is

pub returns-clause-retired : goal.returns-clause-retired
returns-clause-retired c = λ words is.
    retired_written c.args.text.now words c.parse.result c.parse.ensures is
