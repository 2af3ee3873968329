-- Queues, spots and lifts that are the same by their tests are equal.
use Rattle.std.proofs.Common.{◌≡◌, ◌∙◌, ◌==◌, Bool, true, false, not, Option, Some, None, refl, sym, ap, ap₂, eqb-true, eq-eqb}
use Rattle.std.proofs.lemmas.Bool.{and_parts, and_from, not-true}
use Rattle.hmc_codes.proofs.General.{two_equal}
use Rattle.hmc_codes.proofs.Places.{lift_is, lift_same}
use Rattle.hmc_codes.specs.Places.{same_lift}
use Rattle.hmc_hops.specs.Packets.{Spot, same_spot, Packet, is_live, is_token}
use Rattle.hmc_hops.specs.Packets.Spot.{Bank, Registers}
use Rattle.hmc_hops.specs.Queues.{QueueId, same_queue, is_at}
use Rattle.hmc_hops.specs.Queues.QueueId.{Output, Line, Buffer, Vault, UnitQueue, Answers}

pub bool_same : (a b : Bool) → (a ≡ true → b ≡ true) → (b ≡ true → a ≡ true) → a ≡ b
bool_same true b there back = sym (there refl)
bool_same false true there back = back refl
bool_same false false there back = refl

pub spot_is : (s t : Spot) → same_spot s t ≡ true → s ≡ t
spot_is (Bank v b) (Bank w a) is = let both = two_equal v w b a is in ap₂ Bank both.0 both.1
spot_is Registers Registers is = refl
spot_is (Bank v b) Registers is = cc
spot_is Registers (Bank v b) is = cc

pub spot_same : (s : Spot) → same_spot s s ≡ true
spot_same (Bank v b) = and_from _ _ (eq-eqb v v refl) (eq-eqb b b refl)
spot_same Registers = refl

pub queue_is : (here there : QueueId) → same_queue here there ≡ true → here ≡ there
queue_is (Output d) (Output e) is = ap Output (eqb-true d e is)
queue_is (Line d) (Line e) is = ap Line (eqb-true d e is)
queue_is (Buffer d) (Buffer e) is = ap Buffer (eqb-true d e is)
queue_is (Vault c v) (Vault d w) is = let both = two_equal c d v w is in ap₂ Vault both.0 both.1
queue_is (UnitQueue c s) (UnitQueue d t) is = let both = and_parts (c == d) (same_spot s t) is in ap₂ UnitQueue (eqb-true c d both.0) (spot_is s t both.1)
queue_is (Answers c l) (Answers d k) is = let both = and_parts (c == d) (same_lift l k) is in ap₂ Answers (eqb-true c d both.0) (lift_is l k both.1)
queue_is _ _ is = cc

pub queue_same : (here : QueueId) → same_queue here here ≡ true
queue_same (Output d) = eq-eqb d d refl
queue_same (Line d) = eq-eqb d d refl
queue_same (Buffer d) = eq-eqb d d refl
queue_same (Vault c v) = and_from _ _ (eq-eqb c c refl) (eq-eqb v v refl)
queue_same (UnitQueue c s) = and_from _ _ (eq-eqb c c refl) (spot_same s)
queue_same (Answers c l) = and_from _ _ (eq-eqb c c refl) (lift_same l)

pub same_of : (here there : QueueId) → here ≡ there → same_queue here there ≡ true
same_of here there is = ap (same_queue here) (sym is) ∙ queue_same here

pub at_is : (o : Option QueueId) (here : QueueId) → is_at o here ≡ true → o ≡ Some here
at_is None here is = cc
at_is (Some queue) here is = ap Some (queue_is queue here is)

pub at_of : (o : Option QueueId) (here : QueueId) → o ≡ Some here → is_at o here ≡ true
at_of o here is = ap (λ (r : Option QueueId). is_at r here) is ∙ queue_same here

pub live_parts : (x : Packet) → is_live x ≡ true → (x.poisoned ≡ false) × (is_token x.kind ≡ true)
live_parts x live = let both = and_parts (not x.poisoned) (is_token x.kind) live in (not-true x.poisoned both.0, both.1)
