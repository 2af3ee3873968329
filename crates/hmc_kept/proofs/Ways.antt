-- Packets at ports, and where they go.
use Rattle.std.proofs.Common.{◌≡◌, ◌<◌, ◌/◌, ◌==◌, ◌^◌, ◌∙◌, ℕ, Bool, true, false, not, nat_le, if◌then◌else◌, Option, Some, None, refl, sym, ap, subst, arith}
use Rattle.std.proofs.Math.Nat.{mod-lt}
use Rattle.std.proofs.lemmas.Bool.Decides.{nat_tests}
use Rattle.std.proofs.lemmas.Nat.{pow_pos}
use Rattle.hmc_codes.specs.Commands.{is_flow, layout_of, family_of, family_of_layout}
use Rattle.hmc_codes.specs.Graph.{GraphFields}
use Rattle.hmc_codes.specs.Shape.{ShapeFields, vault_of}
use Rattle.hmc_codes.specs.declared.family.Family.{Family}
use Rattle.hmc_codes.specs.declared.family.Family.TheVariants as families
use Rattle.hmc_codes.specs.declared.layout.Layout.{Layout}
use Rattle.hmc_codes.specs.declared.layout.Layout.TheVariants as layouts
use Rattle.hmc_codes.specs.declared.place.Place.TheVariants as places
use Rattle.hmc_codes.specs.declared.profile.Profile.{Profile}
use Rattle.hmc_packet.specs.Packet.{PacketFields}
use Rattle.hmc_serial.specs.Unit.{is_for_registers}
use Rattle.hmc_crossbar.specs.declared.to.To.TheVariants as tos
use Rattle.hmc_crossbar.specs.To.{out_of_cube, request_to, unpoisoned_to, where_to, HasGoal, HasWay}
use Rattle.hmc_send.specs.Given.{IsTaken}
use Rattle.hmc_send.specs.LinkEntries.{LinkEntry}
use Rattle.hmc_entries.specs.declared.outcome.Goal.{Goal}
use Rattle.hmc_entries.specs.declared.outcome.Goal.TheVariants as goals
use Rattle.hmc_entries.specs.declared.entry.Entry.TheVariants as entries
use Rattle.hmc_journal.specs.Links.{put_on, direction_to}
use Rattle.hmc_journal.specs.Next.{goal_at}
use Rattle.hmc_journal.specs.QueueInvariant.{IsOnItsWay, IsHostAnswer}
use Rattle.hmc_journal.specs.Setup.{Topology, graph_of, shape_of}
use Rattle.hmc_journal.specs.StepView.{StepView}
use Rattle.hmc_kept.specs.After.{entries_after}
use Rattle.hmc_kept.specs.Ways.{IsInner}
use Rattle.hmc_journal.proofs.Packets.{reply_layout, inside_goal}

pub has_way : (graph : GraphFields) (packet : PacketFields) (poisoned : Bool) → HasGoal graph packet (family_of packet.command) → HasWay graph packet poisoned
has_way graph packet true goal = tt
has_way graph packet false goal = goal

-- a packet with a goal takes tokens
pub goal_layout : (graph : GraphFields) (packet : PacketFields) (layout : Layout) → HasGoal graph packet (family_of_layout layout) → is_flow layout ≡ false
goal_layout graph packet layouts.Reply goal = refl
goal_layout graph packet layouts.Ask goal = refl
goal_layout graph packet layouts.Null goal = absurd goal
goal_layout graph packet layouts.Pret goal = absurd goal
goal_layout graph packet layouts.Tret goal = absurd goal
goal_layout graph packet layouts.Irtry goal = absurd goal

pub way_taken : (profile : Profile) (topology : Topology) (packet : PacketFields) → IsOnItsWay topology packet → packet.poisoned ≡ false → IsTaken profile packet
way_taken profile topology packet is good = record { token = goal_layout (graph_of topology) packet (layout_of packet.command) is.goal; errstat = λ two. is.errstat good }

-- a packet that goes somewhere is not poisoned
pub goes_good : (topology : Topology) (cube : ℕ) (packet : PacketFields) (goal : Goal) → goal_at (where_to (graph_of topology) (shape_of topology cube) cube packet) ≡ Some goal → packet.poisoned ≡ false
goes_good topology cube packet goal is = by_poison packet.poisoned refl
  where
    by_poison : (poisoned : Bool) → packet.poisoned ≡ poisoned → packet.poisoned ≡ false
    by_poison false at = at
    by_poison true at =
        let nowhere = sym (ap (λ (t : Bool). goal_at (if t then tos.Nowhere else unpoisoned_to (graph_of topology) (shape_of topology cube) cube packet (family_of packet.command))) at) ∙ is in absurd (cc)

pub answer_taken : (profile : Profile) (topology : Topology) (packet : PacketFields) → IsHostAnswer topology packet → IsTaken profile packet
answer_taken profile topology packet is = record { token = reply_layout (layout_of packet.command) is.replies; errstat = λ two. is.errstat }

pub lacks_by : (room lacks : Bool) → room ≡ not lacks → lacks ≡ not room
lacks_by room true is = sym (ap not is)
lacks_by room false is = sym (ap not is)

-- what goes into its cube is an unpoisoned request
pub record IsGoingIn (shape : ShapeFields) (packet : PacketFields) (goal : Goal) : Type 0 where
  pub unpoisoned : packet.poisoned ≡ false
  pub asks : family_of packet.command ≡ families.Ask
  pub goal_is : (if is_for_registers packet.command then goals.Registers else goals.Vault (vault_of shape packet.address)) ≡ goal

pub out_inner : (found : Option ℕ) (goal : Goal) → IsInner goal → goal_at (out_of_cube found) ≡ Some goal → ⊥
out_inner None goal inner is = let no : None ≡ Some goal = is in absurd (cc)
out_inner (Some port) goal inner is = let same : goals.Port port ≡ goal = cc in absurd (subst IsInner (sym same) inner)

pub ask_in : (graph : GraphFields) (shape : ShapeFields) (cube : ℕ) (packet : PacketFields) (here : Bool) (goal : Goal) → IsInner goal → goal_at (request_to graph shape cube packet here) ≡ Some goal → (if is_for_registers packet.command then goals.Registers else goals.Vault (vault_of shape packet.address)) ≡ goal
ask_in graph shape cube packet true goal inner is = inside_goal (is_for_registers packet.command) (vault_of shape packet.address) goal is
ask_in graph shape cube packet false goal inner is = absurd (out_inner _ goal inner is)

pub family_in : (graph : GraphFields) (shape : ShapeFields) (cube : ℕ) (packet : PacketFields) (family : Family) (goal : Goal) → IsInner goal → packet.poisoned ≡ false → family_of packet.command ≡ family → goal_at (unpoisoned_to graph shape cube packet family) ≡ Some goal → IsGoingIn shape packet goal
family_in graph shape cube packet families.Reply goal inner clean family is = absurd (out_inner _ goal inner is)
family_in graph shape cube packet families.Ask goal inner clean family is = record { unpoisoned = clean; asks = family; goal_is = ask_in graph shape cube packet (packet.cube == cube) goal inner is }
family_in graph shape cube packet families.Flow goal inner clean family is = let no : None ≡ Some goal = is in absurd (cc)

pub poisoned_in : (graph : GraphFields) (shape : ShapeFields) (cube : ℕ) (packet : PacketFields) (poisoned : Bool) (goal : Goal) → IsInner goal → packet.poisoned ≡ poisoned → goal_at (if poisoned then tos.Nowhere else unpoisoned_to graph shape cube packet (family_of packet.command)) ≡ Some goal → IsGoingIn shape packet goal
poisoned_in graph shape cube packet true goal inner is goes = let no : None ≡ Some goal = goes in absurd (cc)
poisoned_in graph shape cube packet false goal inner is goes = family_in graph shape cube packet (family_of packet.command) goal inner is refl goes

pub going_in : (topology : Topology) (cube : ℕ) (packet : PacketFields) (goal : Goal) → goal_at (where_to (graph_of topology) (shape_of topology cube) cube packet) ≡ Some goal → IsInner goal → IsGoingIn (shape_of topology cube) packet goal
going_in topology cube packet goal is inner = poisoned_in (graph_of topology) (shape_of topology cube) cube packet packet.poisoned goal inner refl is

pub vault_below : (shape : ShapeFields) (packet : PacketFields) (registers : Bool) (vault : ℕ) → (if registers then goals.Registers else goals.Vault (vault_of shape packet.address)) ≡ goals.Vault vault → vault < 2 ^ shape.vault_bits
vault_below shape packet true vault is = absurd (cc)
vault_below shape packet false vault is = let same : vault_of shape packet.address ≡ vault = cc in subst (λ (n : ℕ). n < 2 ^ shape.vault_bits) same (mod-lt (packet.address / shape.block) (pow_pos shape.vault_bits))

pub for_vault : (shape : ShapeFields) (packet : PacketFields) (registers : Bool) (vault : ℕ) → is_for_registers packet.command ≡ registers → (if registers then goals.Registers else goals.Vault (vault_of shape packet.address)) ≡ goals.Vault vault → is_for_registers packet.command ≡ false
for_vault shape packet true vault test is = absurd (cc)
for_vault shape packet false vault test is = test

pub for_registers : (shape : ShapeFields) (packet : PacketFields) (registers : Bool) → is_for_registers packet.command ≡ registers → (if registers then goals.Registers else goals.Vault (vault_of shape packet.address)) ≡ goals.Registers → is_for_registers packet.command ≡ true
for_registers shape packet true test is = test
for_registers shape packet false test is = absurd (cc)

pub at_most : (size used : ℕ) → (used < size → ⊥) → nat_le size used ≡ true
at_most size used full = grind (arith, nat_tests)

pub shift_links : (topology : Topology) (view : StepView) (cube port link : ℕ) (goal : Goal) → IsInner goal → put_on link (direction_to topology (places.Port cube port)) LinkEntry.taken (view.entries link) ≡ entries_after topology view (entries.Shifted cube port goal) link
shift_links topology view cube port link (goals.Vault vault) inner = refl
shift_links topology view cube port link goals.Registers inner = refl
shift_links topology view cube port link (goals.Port out) inner = absurd inner
