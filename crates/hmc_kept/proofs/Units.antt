-- The front of a unit's queue that is executed is a request to its cube.
use Rattle.std.proofs.Common.{◌≡◌, ◌∙◌, ℕ, Bool, true, false, if◌then◌else◌, Option, Some, None, List, ◌∷◌, refl, sym, ap, subst}
use Rattle.std.specs.List.{All}
use Rattle.std.specs.Prelude.{slice_index_or, slice_set, is_some}
use Rattle.std.proofs.lemmas.List.{set-get_or}
use Rattle.std.proofs.lemmas.List.Elements.{All-head}
use Rattle.hmc_codes.specs.Request.{RequestFields}
use Rattle.hmc_codes.specs.declared.unit.Unit.TheVariants as units
use Rattle.hmc_units.specs.Unit.{UnitFields}
use Rattle.hmc_units.specs.Bench.{is_live, retired_slots}
use Rattle.hmc_packet.specs.Packet.{PacketFields}
use Rattle.hmc_packet.specs.Transactions.{request_in}
use Rattle.hmc_codes.specs.Commands.{layout_of, is_ask}
use Rattle.hmc_entries.specs.declared.entry.Entry.{Entry}
use Rattle.hmc_entries.specs.declared.entry.Entry.TheVariants.{Executed}
use Rattle.hmc_journal.specs.QueueInvariant.{IsCubeRequest}
use Rattle.hmc_journal.specs.Queues.{contents}
use Rattle.hmc_journal.specs.Queues.QueueId.{Bank, Registers}
use Rattle.hmc_journal.specs.Setup.{Setup, unit_cube}
use Rattle.hmc_journal.proofs.EntryRule.{EntryRule}
use Rattle.hmc_kept.proofs.LawsShown.{IsLawBound}

-- a front of a unit's queue that is executed is a request to its cube
pub asked_of : (ask : Bool) (request found : RequestFields) → (if ask then Some found else None) ≡ Some request → found ≡ request
asked_of true request found is = cc
asked_of false request found is = cc

pub own_cube : (packet : PacketFields) (request : RequestFields) (own : ℕ) → request_in packet ≡ Some request → packet.cube ≡ own → request.cube ≡ own
unfolding request_in
own_cube packet request own is here = sym (ap (λ (r : RequestFields). r.cube) (asked_of (is_ask (layout_of packet.command)) request _ is)) ∙ here

pub front_asks : (packets rest : List PacketFields) (front : PacketFields) (own : ℕ) → packets ≡ front ∷ rest → All (IsCubeRequest own) packets → front.cube ≡ own
front_asks packets rest front own is asks = (All-head (IsCubeRequest own) front rest (subst (All (IsCubeRequest own)) is asks)).cube

-- an executed request is one of the unit's cube
abbrev pub IsOwn : Entry → Type 0
IsOwn (Executed unit host tag request answer) = request.cube ≡ unit_cube unit
IsOwn _ = Unit {0}

pub own_of : (setup : Setup) (past : List Entry) (entry : Entry) → IsLawBound setup past → EntryRule setup past entry → IsOwn entry
own_of setup past (Executed (units.Bank cube vault bank) host tag request answer) law rule =
    own_cube rule.at.front request cube rule.is_request (front_asks (contents setup.topology past (Bank cube vault bank)) rule.at.rest rule.at.front cube rule.at.is (law.queues.banks cube vault bank))
own_of setup past (Executed (units.Registers cube) host tag request answer) law rule =
    own_cube rule.at.front request cube rule.is_request (front_asks (contents setup.topology past (Registers cube)) rule.at.rest rule.at.front cube rule.at.is (law.queues.registers cube))
own_of setup past _ law rule = tt

-- an empty slot stays
pub empty_stays : (slots : List (Option UnitFields)) (slot : ℕ) → is_live slots slot ≡ false → retired_slots slots slot ≡ slots
empty_stays slots slot is = by_unit (slice_index_or slots slot None) refl is
  where
    by_unit : (unit : Option UnitFields) → slice_index_or slots slot None ≡ unit → is_some unit ≡ false → retired_slots slots slot ≡ slots
    by_unit None at gone = ap (slice_set slots slot) (sym at) ∙ set-get_or slots slot None
    by_unit (Some unit) at gone = absurd (cc)
