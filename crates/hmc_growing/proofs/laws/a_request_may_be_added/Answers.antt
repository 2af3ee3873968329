-- Only a give sees the script, and of it only the request that is next.
use Rattle.hmc_growing.proofs.AddedItem.{next_with_item, lawful_with_item, open_with_item, network_with_item}
use Rattle.hmc_growing.proofs.laws.a_request_may_be_added.Goals as goal

pub returns-clause-same : goal.returns-clause-same
returns-clause-same c = next_with_item

pub returns-clause-exactly : goal.returns-clause-exactly
returns-clause-exactly c = λ setup item past lawful. (λ free. lawful_with_item setup item past free lawful, λ longer. open_with_item setup item past lawful longer)

pub returns-clause-network : goal.returns-clause-network
returns-clause-network c = network_with_item
