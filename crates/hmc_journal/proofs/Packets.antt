-- What several crates use of packets: the front of a queue, the tokens of a reply, the goal of a
-- request in its own cube, and the length that a head names.
use Rattle.std.proofs.Common.{◌≡◌, ℕ, zero, suc, Bool, true, false, Some, List, [], ◌∷◌, length, drop, slice_get, refl, arith, ◌<◌}
use Rattle.std.specs.Prelude.{is_none, if◌then◌else◌}
use Rattle.hmc_packet.specs.Packet.{PacketFields}
use Rattle.hmc_packet.specs.Parts.{lng_of, header_in}
use Rattle.hmc_journal.specs.Queues.{front_of}
use Rattle.hmc_codes.specs.Commands.{family_of_layout, is_flow}
use Rattle.hmc_codes.specs.declared.layout.Layout.{Layout}
use Rattle.hmc_entries.specs.declared.outcome.Goal.{Goal}
use Rattle.hmc_journal.specs.Next.{goal_at}
use Rattle.hmc_crossbar.specs.To.{into_cube}
use Rattle.hmc_packet.specs.declared.head.Head.{Head}
use Rattle.hmc_packet.specs.Head.{named_by, head_in}
use Rattle.hmc_packet.specs.Reading.{command_in}
use Rattle.hmc_wire.proofs.Filled.{head-lng}
pub use Rattle.hmc_wire.proofs.Queued.{nothing-front}
use Rattle.hmc_codes.specs.declared.family.Family.TheVariants as families
use Rattle.hmc_codes.specs.declared.layout.Layout.TheVariants as layouts
use Rattle.hmc_entries.specs.declared.outcome.Goal.TheVariants as goals

-- the front that is there is the first packet
pub front_is_first : (packets : List PacketFields) (front : PacketFields) →
    slice_get packets 0 ≡ Some front → front_of packets ≡ front
front_is_first [] front is = absurd cc
front_is_first (packet ∷ packets) front is = cc

-- a front after n packets: the list is longer than n
pub front_inside : (n : ℕ) (packets : List PacketFields) (front : PacketFields) →
    slice_get (drop n packets) 0 ≡ Some front → n < length packets
front_inside zero [] front is = absurd cc
front_inside zero (packet ∷ packets) front is = omega arith
front_inside (suc n) [] front is = absurd cc
front_inside (suc n) (packet ∷ packets) front is =
    let less = front_inside n packets front is in omega arith

-- a reply takes tokens
pub reply_layout : (layout : Layout) →
    family_of_layout layout ≡ families.Reply → is_flow layout ≡ false
reply_layout layouts.Reply is = refl
reply_layout layouts.Ask is = refl
reply_layout _ is = absurd cc

-- a request that goes into its cube goes to the registers or to its vault
pub inside_goal : (registers : Bool) (vault : ℕ) (goal : Goal) →
    goal_at (into_cube registers vault) ≡ Some goal →
    (if registers then goals.Registers else goals.Vault vault) ≡ goal
inside_goal true vault goal is = cc
inside_goal false vault goal is = cc

-- a head names the length that its flit has in the field LNG
pub head_lng : (flit : List ℕ) (head : Head) →
    head_in flit ≡ Some head → head.flits ≡ lng_of flit
unfolding head_in named_by lng_of
head_lng flit head is = head-lng flit (command_in (header_in flit)) head is
