use Rattle.hmc_hops.proofs.Feeds.{feeds_requests, feeds_answers}
use Rattle.hmc_hops.proofs.laws.feeds_from_one_buffer.Goals as goal

pub returns : goal.returns
returns c = record { requests = feeds_requests; answers = feeds_answers }
