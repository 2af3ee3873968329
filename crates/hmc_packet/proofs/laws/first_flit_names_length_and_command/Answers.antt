use Rattle.hmc_packet.proofs.LawLemmas.{sent-lng, sent-command, sent-some}
use Rattle.hmc_packet.proofs.laws.first_flit_names_length_and_command.Goals as goal

pub returns-clause-lng : goal.returns-clause-lng
returns-clause-lng c = sent-lng

pub returns-clause-command : goal.returns-clause-command
returns-clause-command c = sent-command

pub returns-clause-some : goal.returns-clause-some
returns-clause-some c = sent-some
