-- What of a flow entered a route left it, or waits along it.
use Rattle.std.proofs.Common.{◌≡◌, ◌≤◌, ◌∙◌, ℕ, zero, suc, Option, Some, None, List, [], ◌∷◌, ◌++◌, map, refl, sym, ap, ap₂, arith, append_assoc}
use Rattle.hmc_routes.specs.Route.{Goal}
use Rattle.hmc_hops.specs.Map.{Map, IsMap, leg, after, hops_at, route}
use Rattle.hmc_hops.specs.Queues.QueueId.{Output, Line, Buffer}
use Rattle.hmc_hops.specs.Moves.{Move, MayAll}
use Rattle.hmc_hops.specs.Flows.{Flow, flow_entered, flow_left, waiting_at, waiting_along}
use Rattle.hmc_hops.specs.Delivered.{IsPrefix, IsChain}
use Rattle.hmc_hops.proofs.Legs.{Follows, follows, one_nearer}
use Rattle.hmc_hops.proofs.QueueLaws.{IsFlow, queue_law}
use Rattle.hmc_hops.proofs.Junctions.{junction, output_line, line_buffer, buffer_output}

-- a flow, and moves that may come
pub record IsWalked {X : Type 0} (m : Map) (f : Flow X) (goal : Goal) (first : ℕ) (past : List Move) : Type 0 where
  pub map : IsMap m
  pub flow : IsFlow m f goal first
  pub lawful : MayAll m past

two_stretches : {X : Type 0} (all line host output_waits line_waits : List X) → all ≡ line ++ output_waits → line ≡ host ++ line_waits → all ≡ host ++ (line_waits ++ output_waits)
two_stretches all line host output_waits line_waits first then = first ∙ ap (λ l. l ++ output_waits) then ∙ append_assoc host line_waits output_waits

-- the two laws of a direction: over its queue and its line, and over its buffer
pub sent_law : {X : Type 0} (m : Map) (f : Flow X) (goal : Goal) (first : ℕ) (past : List Move) → IsWalked m f goal first past → (d : ℕ)
    → flow_entered m f past (Output d) ≡ flow_left f past (Line d) ++ (waiting_at m f past (Line d) ++ waiting_at m f past (Output d))
sent_law m f goal first past w d =
    two_stretches (flow_entered m f past (Output d)) (flow_left f past (Output d)) (flow_left f past (Line d)) (waiting_at m f past (Output d)) (waiting_at m f past (Line d))
    (queue_law m f w.flow.apart past (Output d) w.lawful)
    (junction m f (Output d) (Line d) w.map (output_line m f goal first d w.flow) past w.lawful ∙ queue_law m f w.flow.apart past (Line d) w.lawful)

pub landed_law : {X : Type 0} (m : Map) (f : Flow X) (goal : Goal) (first : ℕ) (past : List Move) → IsWalked m f goal first past → (d : ℕ)
    → flow_left f past (Line d) ≡ flow_left f past (Buffer d) ++ waiting_at m f past (Buffer d)
landed_law m f goal first past w d = junction m f (Line d) (Buffer d) w.map (line_buffer m f goal first d w.flow) past w.lawful ∙ queue_law m f w.flow.apart past (Buffer d) w.lawful

-- the hop: what left the buffer of a direction entered the next direction
pub hop_law : {X : Type 0} (m : Map) (f : Flow X) (goal : Goal) (first : ℕ) (past : List Move) → IsWalked m f goal first past → (i d e : ℕ) → leg m goal (Some first) i ≡ Some d → leg m goal (Some first) (suc i) ≡ Some e
    → flow_left f past (Buffer d) ≡ flow_entered m f past (Output e)
unfolding leg
hop_law m f goal first past w i d e at next =
    let f' : Follows m goal d e = follows m goal d e (sym (ap (after m goal) at) ∙ next) in
    junction m f (Buffer d) (Output e) w.map (buffer_output m f goal first i d e w.map w.flow at f' next) past w.lawful

direction_law : {X : Type 0} (m : Map) (f : Flow X) (goal : Goal) (first : ℕ) (past : List Move) → IsWalked m f goal first past → (d : ℕ)
    → flow_entered m f past (Output d) ≡ flow_left f past (Buffer d) ++ (waiting_at m f past (Buffer d) ++ (waiting_at m f past (Line d) ++ waiting_at m f past (Output d)))
direction_law m f goal first past w d =
    two_stretches (flow_entered m f past (Output d)) (flow_left f past (Line d)) (flow_left f past (Buffer d)) (waiting_at m f past (Line d) ++ waiting_at m f past (Output d)) (waiting_at m f past (Buffer d))
    (sent_law m f goal first past w d) (landed_law m f goal first past w d)

-- what leaves the last buffer
abbrev pub Sinks : {X : Type 0} → Map → Flow X → Goal → ℕ → List Move → List X → Type 0
Sinks m f goal first past sink = (j e : ℕ) → leg m goal (Some first) j ≡ Some e → leg m goal (Some first) (suc j) ≡ None → flow_left f past (Buffer e) ≡ sink

no_more : (m : Map) (goal : Goal) (d : ℕ) (o : Option ℕ) → IsMap m → after m goal (Some d) ≡ o → hops_at m goal (m.end_of d) ≤ 0 → o ≡ None
no_more m goal d None map is far = refl
no_more m goal d (Some e) map is far = let near : hops_at m goal (m.end_of d) ≡ suc (hops_at m goal (m.end_of e)) = one_nearer m goal d e map (follows m goal d e is) in absurd (omega arith)

pub telescope : {X : Type 0} (m : Map) (f : Flow X) (goal : Goal) (first : ℕ) (past : List Move) (sink : List X) → IsWalked m f goal first past → Sinks m f goal first past sink
    → (more i d : ℕ) → leg m goal (Some first) i ≡ Some d → hops_at m goal (m.end_of d) ≤ more → flow_entered m f past (Output d) ≡ sink ++ waiting_along m f past (route m goal more (Some d))
unfolding route waiting_along leg
telescope m f goal first past sink w sinks zero i d at far =
    let next : leg m goal (Some first) (suc i) ≡ None = ap (after m goal) at ∙ no_more m goal d (after m goal (Some d)) w.map refl far in
    direction_law m f goal first past w d ∙ ap (λ l. l ++ (waiting_at m f past (Buffer d) ++ (waiting_at m f past (Line d) ++ waiting_at m f past (Output d)))) (sinks i d at next)
telescope m f goal first past sink w sinks (suc more) i d at far =
    by (after m goal (Some d)) refl (λ e is. telescope m f goal first past sink w sinks more (suc i) e (ap (after m goal) at ∙ is)
    (let near : hops_at m goal (m.end_of d) ≡ suc (hops_at m goal (m.end_of e)) = one_nearer m goal d e w.map (follows m goal d e is) in omega arith))
  where
    by : (o : Option ℕ) → after m goal (Some d) ≡ o → ((e : ℕ) → after m goal (Some d) ≡ Some e → flow_entered m f past (Output e) ≡ sink ++ waiting_along m f past (route m goal more (Some e)))
        → flow_entered m f past (Output d) ≡ sink ++ (waiting_along m f past (route m goal more o) ++ (waiting_at m f past (Buffer d) ++ (waiting_at m f past (Line d) ++ waiting_at m f past (Output d))))
    by None is later = direction_law m f goal first past w d ∙ ap (λ l. l ++ (waiting_at m f past (Buffer d) ++ (waiting_at m f past (Line d) ++ waiting_at m f past (Output d)))) (sinks i d at (ap (after m goal) at ∙ is))
    by (Some e) is later =
        direction_law m f goal first past w d
        ∙ ap (λ l. l ++ (waiting_at m f past (Buffer d) ++ (waiting_at m f past (Line d) ++ waiting_at m f past (Output d)))) (hop_law m f goal first past w i d e at (ap (after m goal) at ∙ is) ∙ later e is)
        ∙ append_assoc sink (waiting_along m f past (route m goal more (Some e))) (waiting_at m f past (Buffer d) ++ (waiting_at m f past (Line d) ++ waiting_at m f past (Output d)))

-- the prefix chain
pub prefix_then : {X : Type 0} (all line rest host more : List X) → all ≡ line ++ rest → line ≡ host ++ more → IsPrefix host all
prefix_then all line rest host more first then = (more ++ rest, first ∙ ap (λ l. l ++ rest) then ∙ append_assoc host more rest)

pub next_prefix : {X : Type 0} (m : Map) (f : Flow X) (goal : Goal) (first : ℕ) (past : List Move) → IsWalked m f goal first past → (i d e : ℕ) → leg m goal (Some first) i ≡ Some d → leg m goal (Some first) (suc i) ≡ Some e
    → IsPrefix (flow_left f past (Line e)) (flow_left f past (Line d))
next_prefix m f goal first past w i d e at next =
    prefix_then (flow_left f past (Line d)) (flow_left f past (Buffer d)) (waiting_at m f past (Buffer d)) (flow_left f past (Line e)) (waiting_at m f past (Line e) ++ waiting_at m f past (Output e))
    (landed_law m f goal first past w d) (hop_law m f goal first past w i d e at next ∙ sent_law m f goal first past w e)

-- along a route of empty queues nothing waits
pub nothing_waits : {X : Type 0} (m : Map) (f : Flow X) (past : List Move) → ((d : ℕ) → waiting_at m f past (Buffer d) ++ (waiting_at m f past (Line d) ++ waiting_at m f past (Output d)) ≡ []) → (ds : List ℕ) → waiting_along m f past ds ≡ []
unfolding waiting_along
nothing_waits m f past none [] = refl
nothing_waits m f past none (d ∷ ds) = ap₂ (λ a b. a ++ b) (nothing_waits m f past none ds) (none d)

-- along a route each direction carried a prefix of what the one before carried
pub chain_along : {X : Type 0} (m : Map) (f : Flow X) (goal : Goal) (first : ℕ) (past : List Move) (sink : List X) → IsWalked m f goal first past → ((i d : ℕ) → leg m goal (Some first) i ≡ Some d → leg m goal (Some first) (suc i) ≡ None → IsPrefix sink (flow_left f past (Line d)))
    → (more i d : ℕ) (whole : List X) → leg m goal (Some first) i ≡ Some d → hops_at m goal (m.end_of d) ≤ more → IsPrefix (flow_left f past (Line d)) whole → IsChain whole (map (λ e. flow_left f past (Line e)) (route m goal more (Some d)) ++ sink ∷ [])
unfolding route leg
chain_along m f goal first past sink w last zero i d whole at far here =
    let next : leg m goal (Some first) (suc i) ≡ None = ap (after m goal) at ∙ no_more m goal d (after m goal (Some d)) w.map refl far in
    (here, (last i d at next, tt))
chain_along m f goal first past sink w last (suc more) i d whole at far here = (
  here,
  by (after m goal (Some d)) refl (λ e is. chain_along m f goal first past sink w last more (suc i) e (flow_left f past (Line d)) (ap (after m goal) at ∙ is)
      (let near : hops_at m goal (m.end_of d) ≡ suc (hops_at m goal (m.end_of e)) = one_nearer m goal d e w.map (follows m goal d e is) in omega arith)
      (next_prefix m f goal first past w i d e at (ap (after m goal) at ∙ is))),
)
  where
    by : (o : Option ℕ) → after m goal (Some d) ≡ o → ((e : ℕ) → after m goal (Some d) ≡ Some e → IsChain (flow_left f past (Line d)) (map (λ k. flow_left f past (Line k)) (route m goal more (Some e)) ++ sink ∷ []))
        → IsChain (flow_left f past (Line d)) (map (λ k. flow_left f past (Line k)) (route m goal more o) ++ sink ∷ [])
    by None is later = (last i d at (ap (after m goal) at ∙ is), tt)
    by (Some e) is later = later e is
