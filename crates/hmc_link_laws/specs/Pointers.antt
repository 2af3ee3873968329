-- What a return pointer acknowledges that a landing counts.
use Rattle.std.specs.Prelude.{◌≡◌, ℕ, ◌-◌, List, [], ◌∷◌, Option, Some, None}
use Rattle.hmc_codes.specs.Link.{LinkFields}
use Rattle.hmc_packet.specs.Receptions.{reception_of}
use Rattle.hmc_send.specs.Acknowledged.{acknowledged_after}
use Rattle.hmc_send.specs.LinkEntries.{LinkEntry, other, receiver_entries}
use Rattle.hmc_send.specs.LinkSenders.{sender_entries, places_in}
use Rattle.hmc_send.specs.declared.toward.Toward.{Toward}
use Rattle.hmc_wire.specs.LinkLaws.{NamesOne, acked_in}
use Rattle.hmc_ends.specs.declared.link_landed.LinkLanded.{LinkLanded}
use Rattle.hmc_ends.specs.declared.link_landed.LinkLanded.TheVariants as links

-- the return pointer that the landing of this flit in a direction counts, if it counts one
abbrev pub counted_pointer : LinkFields → Toward → List LinkEntry → (flit : List ℕ) → Option ℕ
counted_pointer link d past flit = (reception_of link.profile (receiver_entries d past) flit).rrp

-- the same of what a landing gives; none where no flit came
abbrev pub pointer_landed : LinkFields → Toward → List LinkEntry → LinkLanded → Option ℕ
pointer_landed link d past (links.Came flit landed) = counted_pointer link d past flit
pointer_landed link d past landed = None

-- A return pointer acknowledges packets of a direction: it is never stray, and acknowledges exactly
-- those up to its number, which its receiver had accepted when the other end sent the pointer.
pub record Acknowledges (link : LinkFields) (d : Toward) (past after : List LinkEntry) (rrp : ℕ)
    : Type 0 where
  -- the only number of packets, from those acknowledged before to those begun, with this pointer
  pub names : NamesOne link d past rrp
  -- the retry buffer drops the packets up to that number
  pub dropped : acknowledged_after link.profile rrp (sender_entries link d past)
      ≡ Some (names.front.stamp - acked_in link d past)
  -- so many are acknowledged then, and no packet is begun
  pub acknowledged : acked_in link d after ≡ names.front.stamp
  pub places : places_in link d after ≡ places_in link d past

-- each return pointer that the landings of a list counted acknowledged packets of the other
-- direction
unfoldable pub PointersAcknowledge : LinkFields → List LinkEntry → Type 0
PointersAcknowledge link [] = Unit {0}
PointersAcknowledge link (LinkEntry.landed d mask flit outcome ∷ past) =
    ((rrp : ℕ) → counted_pointer link d past flit ≡ Some rrp →
    Acknowledges link (other d) past (LinkEntry.landed d mask flit outcome ∷ past) rrp)
    × PointersAcknowledge link past
PointersAcknowledge link (_ ∷ past) = PointersAcknowledge link past
