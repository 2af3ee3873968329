-- What an unlock moves: where it ends a packet that is forwarded, its poisoned copy comes.
use Rattle.std.proofs.Common.{◌≡◌, ◌≤◌, ◌<◌, ◌/◌, ◌∙◌, ◌==◌, ℕ, Bool, true, false, Option, Some, None, List, [], ◌∷◌, ◌++◌, map, length, drop, refl, sym, ap, subst, append-nil, nat_lt, ltb-true}
use Rattle.std.specs.Prelude.{option_map}
use Rattle.hmc_packet.specs.Packet.{PacketFields}
use Rattle.hmc_hops.specs.Map.{Map}
use Rattle.hmc_hops.specs.Queues.{QueueId as hops}
use Rattle.hmc_hops.specs.Moves.{Move, contents as hop_contents}
use Rattle.hmc_hops.specs.Moves.Move.{Comes}
use Rattle.hmc_entries.specs.declared.entry.Entry.{Entry}
use Rattle.hmc_entries.specs.declared.entry.Entry.TheVariants.{Unlocked}
use Rattle.hmc_journal.specs.Directions.{accepted}
use Rattle.hmc_journal.specs.Piped.{forwarded_onto, pipe_onto, with_unlock, while_gathering}
use Rattle.hmc_journal.specs.Queues.{leaves, enters, contents, QueueId as queues}
use Rattle.hmc_journal.specs.Setup.{Setup, directions_in}
use Rattle.hmc_journal.proofs.Moves.{entering}
use Rattle.hmc_laws.proofs.Buffers.{accepted-same}
use Rattle.hmc_laws.proofs.Entering.{Kept}
use Rattle.hmc_laws.proofs.PipeSteps.{pipe_unlocked}
use Rattle.hmc_laws.proofs.Wired.{Wired}
use Rattle.hmc_delivery.proofs.Seen.{seen, hop_queue, copy_comes, if_there, unlocks}
use Rattle.hmc_delivery.proofs.Agreeing.{Agrees}
use Rattle.hmc_delivery.proofs.Hopping.{queue-more}
use Rattle.hmc_delivery.proofs.Underway.{known_on, line_on, piped_with, copy_on, CopyKnown, copy_known, places_landed, known-quiet, accepted_within}
use Rattle.hmc_delivery.proofs.Forwarded.{ForwardedPacket, forwarded_packet}
use Rattle.hmc_delivery.proofs.LineMoves.{Held, left_on, agrees_held, lines_same, comes_held, copy_lines}
use Rattle.hmc_delivery.proofs.LandingMoves.{change_pipe, other_pipe, idle_pipe, far_pipe}

unlock_held : (setup : Setup) (m : Map) (past : List Entry) (moved : List Move) (d : ℕ) →
    Kept setup past → Agrees setup.topology m past moved
    → Held setup.topology m (contents setup.topology (Unlocked d ∷ past))
    (left_on setup.topology (Unlocked d) past) moved
unfolding entering enters leaves
unlock_held setup m past moved d keeps agrees =
    let t = setup.topology in record {
      queues = λ q real. queue-more setup (Unlocked d) past q false []
          (hop_contents m moved (hop_queue t q)) tt tt keeps.within refl refl (agrees.queues q real)
          ∙ append-nil (hop_contents m moved (hop_queue t q));
      lines = λ e. ap (λ (l : List PacketFields). map (seen t)
          (drop (length l) (known_on t e past))) (accepted-same t e (Unlocked d) past tt)
          ∙ agrees.lines e;
    }

known_unlocked : (setup : Setup) (past : List Entry) (d e : ℕ) →
    option_map (while_gathering d with_unlock) (pipe_onto setup.topology e past)
    ≡ pipe_onto setup.topology e past → known_on setup.topology e (Unlocked d ∷ past)
    ≡ known_on setup.topology e past
known_unlocked setup past d e same =
    known-quiet setup.topology e (Unlocked d) past tt (pipe_unlocked setup.topology e d past ∙ same)

idle_unlock : (setup : Setup) (m : Map) (past : List Entry) (moved : List Move) (d : ℕ) →
    Kept setup past → Agrees setup.topology m past moved →
    ((e : ℕ) → option_map (while_gathering d with_unlock) (pipe_onto setup.topology e past)
    ≡ pipe_onto setup.topology e past)
    → Agrees setup.topology m (Unlocked d ∷ past) moved
idle_unlock setup m past moved d keeps agrees same =
    lines_same setup.topology m (Unlocked d) past moved
    (λ e. known_unlocked setup past d e (same e)) (unlock_held setup m past moved d keeps agrees)

spoiled_unlock : (setup : Setup) (m : Map) (past : List Entry) (moved : List Move) (d onto : ℕ) →
    Wired setup.topology → Kept setup past → Agrees setup.topology m past moved →
    d < directions_in setup.topology → forwarded_onto setup.topology d past ≡ Some onto
    → Agrees setup.topology m (Unlocked d ∷ past)
    (copy_comes setup.topology (Unlocked d ∷ past) onto ++ moved)
spoiled_unlock setup m past moved d onto wires keeps agrees inside forwarded =
    let t = setup.topology in
    let entry = Unlocked d in
    let is : ForwardedPacket t past d onto =
    forwarded_packet setup past d onto wires keeps inside forwarded in
    let came = is.pipe.pipe.came in
    let pipe : pipe_onto t onto (entry ∷ past) ≡ Some (piped_with is.pipe came (Some false)) =
    pipe_unlocked t onto d past ∙ change_pipe t past d onto with_unlock is in
    let copy = copy_on t onto is.pipe came false is.up.numbers in
    let known : CopyKnown t onto (entry ∷ past) past copy =
    copy_known t onto (entry ∷ past) past is.pipe came came false is.up is.some is.is pipe
    (places_landed t onto entry past tt) in
    let within : length (accepted t onto (entry ∷ past)) ≤ length (known_on t onto past) =
    subst (λ l. length l ≤ length (known_on t onto past)) (sym (accepted-same t onto entry past tt))
    (accepted_within t onto past (keeps.links (onto / 2))) in
    subst (λ (x : PacketFields). Agrees t m (entry ∷ past)
    (Comes (hops.Line onto) (seen t x) ∷ moved)) (sym known.last)
    (agrees_held t m (entry ∷ past) (Comes (hops.Line onto) (seen t copy) ∷ moved)
    (comes_held t m (contents t (entry ∷ past)) (left_on t entry past)
    (λ e. line_on t e (entry ∷ past)) moved onto copy
    (unlock_held setup m past moved d keeps agrees)
    (λ e. copy_lines t entry past onto copy e (onto == e) refl known.known
    (λ k off. known_unlocked setup past d k
    (other_pipe setup past d onto k with_unlock keeps forwarded off)) within)))

there_unlock : (setup : Setup) (m : Map) (past : List Entry) (moved : List Move) (d : ℕ)
    (onto : Option ℕ) → Wired setup.topology → Kept setup past →
    Agrees setup.topology m past moved → d < directions_in setup.topology →
    forwarded_onto setup.topology d past ≡ onto
    → Agrees setup.topology m (Unlocked d ∷ past)
    (unlocks setup.topology (Unlocked d ∷ past) onto ++ moved)
there_unlock setup m past moved d None wires keeps agrees inside forwarded =
    idle_unlock setup m past moved d keeps agrees
    (λ e. idle_pipe setup past d e with_unlock keeps forwarded)
there_unlock setup m past moved d (Some onto) wires keeps agrees inside forwarded =
    spoiled_unlock setup m past moved d onto wires keeps agrees inside forwarded

pub unlocked_step : (setup : Setup) (m : Map) (past : List Entry) (moved : List Move) (d : ℕ)
    (there : Bool) → Wired setup.topology → Kept setup past → Agrees setup.topology m past moved →
    nat_lt d (directions_in setup.topology) ≡ there
    → Agrees setup.topology m (Unlocked d ∷ past)
    (unlocks setup.topology (Unlocked d ∷ past)
    (if_there there (forwarded_onto setup.topology d past)) ++ moved)
unlocked_step setup m past moved d true wires keeps agrees at =
    there_unlock setup m past moved d (forwarded_onto setup.topology d past) wires keeps agrees
    (ltb-true d (directions_in setup.topology) at) refl
unlocked_step setup m past moved d false wires keeps agrees at =
    idle_unlock setup m past moved d keeps agrees
    (λ e. far_pipe setup past d e with_unlock keeps at)
