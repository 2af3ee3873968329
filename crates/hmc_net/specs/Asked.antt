-- A network one of whose hosts is asked for a request more.
use Rattle.hmc_script.specs.Items.{ItemFields}
use Rattle.hmc_host.specs.Host.{asked}
use Rattle.hmc_kept.specs.Hosts.{with_host}
use Rattle.hmc_net.specs.NetState.{NetState}

-- its host has one more request, and nothing else changes
abbrev pub net_asked : ItemFields → NetState → NetState
net_asked item net = record net { hosts = with_host item.host (asked item) net.hosts }
