-- What the queues hold after a lawful journal.
use Rattle.std.proofs.Common.{◌≡◌, ◌∙◌, ℕ, true, false, nat_lt, List, sym, subst, lt-ltb}
use Rattle.std.proofs.lemmas.List.Elements.{All-weaker}
use Rattle.hmc_packet.specs.Packet.{PacketFields}
use Rattle.hmc_crossbar.specs.To.{HasGoal}
use Rattle.hmc_routes.specs.WellFormed.{is_host_of}
use Rattle.hmc_entries.specs.declared.entry.Entry.{Entry}
use Rattle.hmc_journal.specs.Setup.{Setup, Topology, hosts_in, graph_of}
use Rattle.hmc_journal.specs.Network.{IsNetwork}
use Rattle.hmc_journal.specs.Queues.{QueueId}
use Rattle.hmc_journal.specs.Queues.QueueId.{Port, Vault, Bank, Registers, Answers}
use Rattle.hmc_journal.specs.Lawful.{Lawful}
use Rattle.hmc_journal.specs.QueueInvariant.{IsCubeRequest, IsOnItsWay, IsHostAnswer, QueueInvariant}
use Rattle.hmc_laws.proofs.Standing.{IsMoving, IsLeaving, Stands}
use Rattle.hmc_laws.proofs.Standing.IsMoving.{ToCube, ToHost, Spoiled}
use Rattle.hmc_laws.proofs.Entering.{contents_stand}
use Rattle.hmc_laws.proofs.Sound.{kept}
use Rattle.hmc_laws.proofs.LinkInvariant.{link_invariant}

on_its_way : (topology : Topology) (packet : PacketFields) → ((host : ℕ) → is_host_of (graph_of topology) host ≡ nat_lt host (hosts_in topology)) → IsMoving topology packet → IsOnItsWay topology packet
on_its_way topology packet hosts (ToCube is) = record {
  goal = subst (HasGoal (graph_of topology) packet) (sym is.asks) is.cube;
  errstat = λ clean. is.counted.errstat;
}
on_its_way topology packet hosts (ToHost is) = record {
  goal = subst (HasGoal (graph_of topology) packet) (sym is.replies) (hosts packet.slid ∙ lt-ltb packet.slid (hosts_in topology) is.slid);
  errstat = λ clean. is.counted.errstat;
}
on_its_way topology packet hosts (Spoiled is) = record {
  goal = is.goal;
  errstat = λ clean. absurd (let clash : true ≡ false = sym is.poisoned ∙ clean in cc);
}

host_answer : (topology : Topology) (cube : ℕ) (packet : PacketFields) → IsLeaving topology cube packet → IsHostAnswer topology packet
host_answer topology cube packet is = record { replies = is.replying.replies; host = is.replying.slid; errstat = is.replying.counted.errstat }

pub queue_invariant : (setup : Setup) (past : List Entry) → IsNetwork setup → Lawful setup past → QueueInvariant setup past
queue_invariant setup past network lawful =
    let keeps = kept setup past network lawful in
    let t = setup.topology in
    let stand = λ (queue : QueueId). contents_stand setup past queue keeps in record {
      ports = λ cube port. All-weaker (Stands t (Port cube port)) (IsOnItsWay t) (λ p is. on_its_way t p network.hosts is.goes) _ (stand (Port cube port));
      vaults = λ cube vault. All-weaker (Stands t (Vault cube vault)) (IsCubeRequest cube) (λ p is. record { asks = is.asking.asks; cube = is.own }) _ (stand (Vault cube vault));
      banks = λ cube vault bank. All-weaker (Stands t (Bank cube vault bank)) (IsCubeRequest cube) (λ p is. record { asks = is.bound.asking.asks; cube = is.bound.own }) _ (stand (Bank cube vault bank));
      registers = λ cube. All-weaker (Stands t (Registers cube)) (IsCubeRequest cube) (λ p is. record { asks = is.asking.asks; cube = is.own }) _ (stand (Registers cube));
      answers = λ cube from. All-weaker (Stands t (Answers cube from)) (IsHostAnswer t) (λ p is. host_answer t cube p is) _ (stand (Answers cube from));
      links = λ direction below. link_invariant setup past direction network below lawful;
    }
