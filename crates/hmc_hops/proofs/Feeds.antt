-- Into a direction of a route its flow comes from the buffer of the direction before, and from nowhere else.
use Rattle.std.proofs.Common.{◌≡◌, ◌∙◌, ℕ, suc, true, Option, Some, None, List, refl, sym, ap}
use Rattle.hmc_hops.specs.Packets.{Packet, Spot}
use Rattle.hmc_routes.specs.Route.{Goal}
use Rattle.hmc_hops.specs.Map.{Map, IsMap, leg, after}
use Rattle.hmc_routes.specs.Route.Goal.{ToHost, ToCube}
use Rattle.hmc_hops.specs.Queues.{QueueId, next_queue}
use Rattle.hmc_hops.specs.Queues.QueueId.{Output, Buffer}
use Rattle.hmc_hops.specs.Moves.{Move, May, MayAll}
use Rattle.hmc_hops.specs.Moves.Move.{Goes}
use Rattle.hmc_hops.specs.Flows.{Flow, requests_to, answers_to}
use Rattle.hmc_hops.specs.Delivered.{request_leg, answer_leg}
use Rattle.hmc_hops.proofs.Legs.{follows, no_leg}
use Rattle.hmc_hops.proofs.QueueLaws.{IsFlow}
use Rattle.hmc_hops.proofs.OnRoute.{mover_on_way}
use Rattle.hmc_hops.proofs.Junctions.{buffer_output}
use Rattle.hmc_hops.proofs.Requests.{requests_flow}
use Rattle.hmc_hops.proofs.Replies.{answers_flow}

feeds : {X : Type 0} (m : Map) (f : Flow X) (goal : Goal) (first : ℕ) (past : List Move) → IsMap m → IsFlow m f goal first → MayAll m past → (i d e : ℕ) → leg m goal (Some first) i ≡ Some d → leg m goal (Some first) (suc i) ≡ Some e
    → (p : QueueId) (n : ℕ) (x : Packet) → May m past (Goes p n x) → f.mine x ≡ true → next_queue m p x ≡ Some (Output e) → p ≡ Buffer d
unfolding leg
feeds m f goal first past map flow lawful i d e at next p n x may mine goes =
    (buffer_output m f goal first i d e map flow at (follows m goal d e (sym (ap (after m goal) at) ∙ next)) next).back p x mine (mover_on_way m map past lawful p n x may.1) goes

pub feeds_requests : (m : Map) (past : List Move) (h c i d e n : ℕ) (s : Spot) (p : QueueId) (x : Packet) → IsMap m → MayAll m past → request_leg m h c i ≡ Some d → request_leg m h c (suc i) ≡ Some e
    → May m past (Goes p n x) → (requests_to h c s).mine x ≡ true → next_queue m p x ≡ Some (Output e) → p ≡ Buffer d
feeds_requests m past h c i d e n s p x map lawful at next may mine goes = feeds m (requests_to h c s) (ToCube c) (m.from_host h) past map (requests_flow m h c s) lawful i d e at next p n x may mine goes

from_first : (m : Map) (past : List Move) (c h i d e n : ℕ) (p : QueueId) (x : Packet) (o : Option ℕ) → m.next (ToHost h) c ≡ o → IsMap m → MayAll m past → leg m (ToHost h) o i ≡ Some d → leg m (ToHost h) o (suc i) ≡ Some e
    → May m past (Goes p n x) → (answers_to c h).mine x ≡ true → next_queue m p x ≡ Some (Output e) → p ≡ Buffer d
from_first m past c h i d e n p x None first map lawful at next may mine goes = absurd (no_leg m (ToHost h) i d at)
from_first m past c h i d e n p x (Some f) first map lawful at next may mine goes = feeds m (answers_to c h) (ToHost h) f past map (answers_flow m c h f first) lawful i d e at next p n x may mine goes

pub feeds_answers : (m : Map) (past : List Move) (c h i d e n : ℕ) (p : QueueId) (x : Packet) → IsMap m → MayAll m past → answer_leg m c h i ≡ Some d → answer_leg m c h (suc i) ≡ Some e
    → May m past (Goes p n x) → (answers_to c h).mine x ≡ true → next_queue m p x ≡ Some (Output e) → p ≡ Buffer d
feeds_answers m past c h i d e n p x map lawful at next may mine goes = from_first m past c h i d e n p x (m.next (ToHost h) c) refl map lawful at next may mine goes
