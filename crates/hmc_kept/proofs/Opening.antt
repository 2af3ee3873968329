-- What the empty journal says.
use Rattle.std.proofs.Common.{◌≡◌, ◌≤◌, ℕ, None, List, [], length, refl, arith, Result, Ok, Err, IfOk}
use Rattle.hmc_host.specs.Host.{opening_host}
use Rattle.hmc_send.specs.LinkEntries.{LinkEntry}
use Rattle.hmc_journal.specs.Hosts.{host_of, given_count, tags_out}
use Rattle.hmc_journal.specs.Lawful.{Lawful}
use Rattle.hmc_journal.specs.Links.{link_entries}
use Rattle.hmc_journal.specs.Queues.{QueueId, left, entered, contents}
use Rattle.hmc_journal.specs.Piped.{forwarded_onto, pipe_onto}
use Rattle.hmc_journal.specs.Setup.{Topology, Setup}

pub nothing_in : (topology : Topology) (queue : QueueId) → contents topology [] queue ≡ []
unfolding contents left entered
nothing_in topology queue = refl

pub within_nothing : (topology : Topology) (queue : QueueId) → left [] queue ≤ length (entered topology [] queue)
unfolding left entered
within_nothing topology queue = omega arith

pub lawful_nothing : (setup : Setup) → Lawful setup []
unfolding Lawful
lawful_nothing setup = tt

pub opening_host_is : (setup : Setup) (host : ℕ) → opening_host host setup.script ≡ host_of setup [] host
unfolding host_of given_count tags_out
opening_host_is setup host = refl

pub no_entries : (topology : Topology) (link : ℕ) → ◌≡◌ {A = List LinkEntry} [] (link_entries topology link [])
unfolding link_entries
no_entries topology link = refl

pub nothing_forwarded : (topology : Topology) (direction : ℕ) → None ≡ forwarded_onto topology direction []
unfolding forwarded_onto
nothing_forwarded topology direction = refl

pub nothing_piped : (topology : Topology) (direction : ℕ) → None ≡ pipe_onto topology direction []
unfolding pipe_onto
nothing_piped topology direction = refl

-- what holds of each value holds of a good answer
pub ok_then : {A E : Type 0} (P Q : A → Type 0) (result : Result A E) → ((x : A) → P x → Q x) → IfOk result P → IfOk result Q
ok_then P Q (Ok x) more is = more x is
ok_then P Q (Err e) more is = tt
