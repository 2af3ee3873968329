use Rattle.hmc_packet.proofs.LawLemmas.{sent-alone, sent-no_irtry, sent-several}
use Rattle.hmc_packet.proofs.laws.first_flit_alone_reads_as_no_other_command.Goals as goal

pub returns-clause-command : goal.returns-clause-command
returns-clause-command c = sent-alone

pub returns-clause-no_irtry : goal.returns-clause-no_irtry
returns-clause-no_irtry c = sent-no_irtry

pub returns-clause-several : goal.returns-clause-several
returns-clause-several c = sent-several
