-- The landing that accepts a packet which was cut through is three moves that may come.
use Rattle.std.proofs.Common.{◌≡◌, ◌∙◌, ℕ, Bool, Option, List, [], ◌∷◌, ◌++◌, length, refl, sym, ap, ap₂, subst, eq-eqb, append-nil}
use Rattle.hmc_hops.specs.Packets.{Packet, is_token}
use Rattle.hmc_hops.specs.Map.{Map}
use Rattle.hmc_hops.specs.Queues.{QueueId, is_at, next_queue, after_line}
use Rattle.hmc_hops.specs.Queues.QueueId.{Output, Line, Buffer}
use Rattle.hmc_hops.specs.Moves.{Move, packet_if, without, without_if, remaining, contents, IsPlaced, MayAll}
use Rattle.hmc_hops.specs.Moves.Move.{Goes}
use Rattle.hmc_hops.specs.CutThrough.{NoneOfFlow, MayForward, forwarded, IsForwarded}
use Rattle.hmc_hops.proofs.SameQueue.{at_of}

-- a packet that passes all of a queue
placed_last : (x : Packet) (ys : List Packet) → NoneOfFlow x ys → IsPlaced (length ys) x (ys ++ x ∷ [])
placed_last x [] apart = refl
placed_last x (y ∷ ys) apart = (apart.0, placed_last x ys apart.1)

pub without_last : (x : Packet) (ys : List Packet) → without (length ys) (ys ++ x ∷ []) ≡ ys
unfolding without
without_last x [] = refl
without_last x (y ∷ ys) = ap (λ (l : List Packet). y ∷ l) (without_last x ys)

-- what the queues hold after each of the moves
at_buffer : (m : Map) (past : List Move) (e d : ℕ) (x : Packet) → MayForward m past e d x → contents m (Goes (Line e) 0 x ∷ past) (Buffer e) ≡ x ∷ []
unfolding contents
at_buffer m past e d x may =
    ap₂ (λ (xs ys : List Packet). xs ++ ys) may.empty (ap (λ (b : Bool). packet_if b x) (at_of (after_line (is_token x.kind) e) (Buffer e) (ap (λ (b : Bool). after_line b e) may.token)))

at_output_first : (m : Map) (past : List Move) (e d : ℕ) (x : Packet) → MayForward m past e d x → contents m (Goes (Line e) 0 x ∷ past) (Output d) ≡ contents m past (Output d)
unfolding contents
at_output_first m past e d x may = ap (λ (b : Bool). contents m past (Output d) ++ packet_if (is_at (after_line b e) (Output d)) x) may.token ∙ append-nil (contents m past (Output d))

at_output : (m : Map) (past : List Move) (e d : ℕ) (x : Packet) → MayForward m past e d x → contents m (Goes (Buffer e) 0 x ∷ Goes (Line e) 0 x ∷ past) (Output d) ≡ contents m past (Output d) ++ x ∷ []
unfolding contents
at_output m past e d x may =
    ap₂ (λ (xs ys : List Packet). xs ++ ys) (at_output_first m past e d x may) (ap (λ (b : Bool). packet_if b x) (at_of (next_queue m (Buffer e) x) (Output d) may.goes))

output_left : (m : Map) (past : List Move) (e d : ℕ) (x : Packet) → MayForward m past e d x → contents m (forwarded m past e d x) (Output d) ≡ contents m past (Output d)
unfolding contents
output_left m past e d x may =
    append-nil (remaining (Goes (Output d) (length (contents m past (Output d))) x) (Output d) (contents m (Goes (Buffer e) 0 x ∷ Goes (Line e) 0 x ∷ past) (Output d)))
    ∙ ap₂ (λ (b : Bool) (xs : List Packet). without_if b (length (contents m past (Output d))) xs) (eq-eqb d d refl) (at_output m past e d x may)
    ∙ without_last x (contents m past (Output d))

buffer_left : (m : Map) (past : List Move) (e d : ℕ) (x : Packet) → MayForward m past e d x → contents m (forwarded m past e d x) (Buffer e) ≡ []
unfolding contents without
buffer_left m past e d x may =
    append-nil (contents m (Goes (Buffer e) 0 x ∷ Goes (Line e) 0 x ∷ past) (Buffer e))
    ∙ ap₂ (λ (xs ys : List Packet). xs ++ ys) (ap₂ (λ (b : Bool) (xs : List Packet). without_if b 0 xs) (eq-eqb e e refl) (at_buffer m past e d x may)) (ap (λ (o : Option QueueId). packet_if (is_at o (Buffer e)) x) may.goes)

line_gets : (m : Map) (past : List Move) (e d : ℕ) (x : Packet) → MayForward m past e d x → contents m (forwarded m past e d x) (Line d) ≡ contents m past (Line d) ++ x ∷ []
unfolding contents
line_gets m past e d x may =
    ap₂ (λ (xs ys : List Packet). xs ++ ys)
    (ap₂ (λ (xs ys : List Packet). xs ++ ys) (ap₂ (λ (xs ys : List Packet). xs ++ ys) (ap (λ (b : Bool). without_if b 0 (contents m past (Line d))) may.other) (ap (λ (b : Bool). packet_if (is_at (after_line b e) (Line d)) x) may.token) ∙ append-nil (contents m past (Line d)))
    (ap (λ (o : Option QueueId). packet_if (is_at o (Line d)) x) may.goes) ∙ append-nil (contents m past (Line d)))
    (ap (λ (b : Bool). packet_if b x) (eq-eqb d d refl))

pub is_forwarded : (m : Map) (past : List Move) (e d : ℕ) (x : Packet) → MayAll m past → MayForward m past e d x → IsForwarded m past e d x
unfolding MayAll
is_forwarded m past e d x lawful may = record {
  may = (
    (tt, subst (IsPlaced (length (contents m past (Output d))) x) (sym (at_output m past e d x may)) (placed_last x (contents m past (Output d)) may.apart)),
    ((tt, subst (IsPlaced 0 x) (sym (at_buffer m past e d x may)) refl), ((tt, may.front), lawful)),
  );
  line = line_gets m past e d x may;
  output = output_left m past e d x may;
  buffer = buffer_left m past e d x may;
}
