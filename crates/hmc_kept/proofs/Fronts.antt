-- The fronts of queues.
use Rattle.std.proofs.Common.{◌≡◌, ◌∙◌, Bool, true, false, Option, Some, None, List, [], ◌∷◌, slice_get, refl, sym, ap, subst}
use Rattle.std.specs.Prelude.{is_some}
use Rattle.std.specs.List.{All}
use Rattle.std.proofs.lemmas.List.Elements.{All-head}
use Rattle.hmc_packet.specs.Packet.{PacketFields}
use Rattle.hmc_schedule.specs.declared.step.Step.{Step}
use Rattle.hmc_entries.specs.declared.outcome.Cause.TheVariants as causes
use Rattle.hmc_entries.specs.declared.entry.Entry.{Entry}
use Rattle.hmc_entries.specs.declared.entry.Entry.TheVariants.{Idle}
use Rattle.hmc_journal.specs.Next.{with_front}

-- where no packet came there is no front
pub no_packet : (arrived : Bool) (front : Option PacketFields) → arrived ≡ false → arrived ≡ is_some front → None ≡ front
no_packet arrived None none is = refl
no_packet arrived (Some front) none is = absurd (let clash : false ≡ true = sym none ∙ is in cc)

pub front_some : (step : Step) (packets : List PacketFields) (front : PacketFields) (does : PacketFields → Entry) → slice_get packets 0 ≡ Some front → with_front step packets does ≡ does front
front_some step [] front does is = absurd (cc)
front_some step (packet ∷ rest) front does is = let same : packet ≡ front = cc in ap does same

pub front_none : (step : Step) (packets : List PacketFields) (does : PacketFields → Entry) → slice_get packets 0 ≡ None → with_front step packets does ≡ Idle step causes.Empty
front_none step [] does is = refl
front_none step (packet ∷ rest) does is = absurd (cc)

pub no_front : (packets : List PacketFields) → packets ≡ [] → slice_get packets 0 ≡ None
no_front packets none = ap (λ (l : List PacketFields). slice_get l 0) none

pub front_all : (P : PacketFields → Type 0) (packets : List PacketFields) (front : PacketFields) → slice_get packets 0 ≡ Some front → All P packets → P front
front_all P [] front is all = absurd (cc)
front_all P (packet ∷ rest) front is all = let same : packet ≡ front = cc in subst P same (All-head P packet rest all)
