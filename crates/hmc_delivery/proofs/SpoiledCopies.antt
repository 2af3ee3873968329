-- The copy of a packet that was not accepted is poisoned, and what is known after a landing.
use Rattle.std.proofs.Common.{◌≡◌, ◌<◌, ◌∙◌, ℕ, true, false, Option, Some, None, List, [], ◌∷◌, ◌++◌, refl, ap}
use Rattle.hmc_packet.specs.Packet.{PacketFields}
use Rattle.hmc_packet.specs.declared.outcome.Outcome.{Outcome}
use Rattle.hmc_through.specs.Pipe.{PipeFields}
use Rattle.hmc_entries.specs.declared.entry.Entry.{Entry}
use Rattle.hmc_entries.specs.declared.entry.Entry.TheVariants.{Landed, Unlocked}
use Rattle.hmc_journal.specs.Carried.{begun_on}
use Rattle.hmc_journal.specs.Directions.{profile_of}
use Rattle.hmc_journal.specs.Piped.{forwarded_onto, pipe_onto, with_landing, with_unlock}
use Rattle.hmc_journal.specs.Setup.{Setup, directions_in}
use Rattle.hmc_journal.proofs.EntryRule.{EntryRule}
use Rattle.hmc_laws.proofs.Entering.{Kept, landed-real}
use Rattle.hmc_laws.proofs.ForwardingLandings.{back_false}
use Rattle.hmc_laws.proofs.PipeSteps.{pipe_landed, pipe_unlocked}
use Rattle.hmc_laws.proofs.Wired.{Wired}
use Rattle.hmc_delivery.proofs.Seen.{last_packet}
use Rattle.hmc_delivery.proofs.Underway.{known_on, piped_with, copy_on, CopyKnown, copy_known, places_landed, known-quiet}
use Rattle.hmc_laws.proofs.CopyWhole.{copy-poisoned}
use Rattle.hmc_delivery.proofs.Forwarded.{ForwardedPacket, forwarded_packet}
use Rattle.hmc_delivery.proofs.LandingMoves.{change_pipe, idle_pipe, other_known, Spoils}

pub landing_spoils : (setup : Setup) (past : List Entry) (d onto : ℕ) (flit : List ℕ)
    (outcome : Outcome) → Wired setup.topology → Kept setup past →
    EntryRule setup past (Landed d flit outcome) → forwarded_onto setup.topology d past
    ≡ Some onto → Spoils flit outcome
    → (last_packet (begun_on setup.topology onto (Landed d flit outcome ∷ past))).poisoned ≡ true
landing_spoils setup past d onto flit outcome wires keeps right forwarded ends =
    let t = setup.topology in
    let entry = Landed d flit outcome in
    let is : ForwardedPacket t past d onto =
    forwarded_packet setup past d onto wires keeps
    (landed-real setup past d flit outcome right keeps) forwarded in
    let came = is.pipe.pipe.came ++ flit ∷ [] in
    let pipe : pipe_onto t onto (entry ∷ past) ≡ Some (piped_with is.pipe came (Some false)) =
    pipe_landed t onto d flit outcome past
    ∙ change_pipe t past d onto (with_landing flit outcome) is
    ∙ ap (λ (x : PipeFields). Some (record { from = is.pipe.from; pipe = x }))
    (ends (piped_with is.pipe is.pipe.pipe.came None).pipe) in
    let known : CopyKnown t onto (entry ∷ past) past
    (copy_on t onto is.pipe came false is.up.numbers) =
    copy_known t onto (entry ∷ past) past is.pipe is.pipe.pipe.came came false is.up is.some
    is.is pipe (places_landed t onto entry past tt) in
    ap (λ (x : PacketFields). x.poisoned) known.last
    ∙ copy-poisoned (profile_of t onto) is.pipe.pipe.flits is.pipe.pipe.profile came false
    is.up.numbers

pub unlock_spoils : (setup : Setup) (past : List Entry) (d onto : ℕ) → Wired setup.topology →
    Kept setup past → d < directions_in setup.topology → forwarded_onto setup.topology d past
    ≡ Some onto → (last_packet (begun_on setup.topology onto (Unlocked d ∷ past))).poisoned ≡ true
unlock_spoils setup past d onto wires keeps inside forwarded =
    let t = setup.topology in
    let entry = Unlocked d in
    let is : ForwardedPacket t past d onto =
    forwarded_packet setup past d onto wires keeps inside forwarded in
    let came = is.pipe.pipe.came in
    let pipe : pipe_onto t onto (entry ∷ past) ≡ Some (piped_with is.pipe came (Some false)) =
    pipe_unlocked t onto d past ∙ change_pipe t past d onto with_unlock is in
    let known : CopyKnown t onto (entry ∷ past) past
    (copy_on t onto is.pipe came false is.up.numbers) =
    copy_known t onto (entry ∷ past) past is.pipe came came false is.up is.some is.is pipe
    (places_landed t onto entry past tt) in
    ap (λ (x : PacketFields). x.poisoned) known.last
    ∙ copy-poisoned (profile_of t onto) is.pipe.pipe.flits is.pipe.pipe.profile came false
    is.up.numbers

-- a landing leaves what is known on its own direction
pub known_here : (setup : Setup) (past : List Entry) (d : ℕ) (flit : List ℕ) (outcome : Outcome) →
    Wired setup.topology → Kept setup past → EntryRule setup past (Landed d flit outcome) →
    known_on setup.topology d (Landed d flit outcome ∷ past) ≡ known_on setup.topology d past
known_here setup past d flit outcome wires keeps right =
    by_onto (forwarded_onto setup.topology d past) refl
  where
    by_onto : (onto : Option ℕ) → forwarded_onto setup.topology d past ≡ onto →
        known_on setup.topology d (Landed d flit outcome ∷ past) ≡ known_on setup.topology d past
    by_onto None forwarded =
        known-quiet setup.topology d (Landed d flit outcome) past tt
        (pipe_landed setup.topology d d flit outcome past
        ∙ idle_pipe setup past d d (with_landing flit outcome) keeps forwarded)
    by_onto (Some onto) forwarded =
        let is : ForwardedPacket setup.topology past d onto =
        forwarded_packet setup past d onto wires keeps
        (landed-real setup past d flit outcome right keeps) forwarded in
        other_known setup past d onto d flit outcome keeps forwarded (back_false d onto is.apart)
