-- Two cubes in a row with one host, as a graph: a request goes to the second cube, and its answer
-- comes back. The same with the request cut through the first cube; and moves that may not come.
use Rattle.std.proofs.Common.{◌≡◌, ◌<◌, ℕ, zero, suc, true, false, Some, None, List, [], ◌∷◌, refl, arith}
use Rattle.hmc_codes.specs.Graph.{GraphFields}
use Rattle.hmc_codes.specs.Request.{RequestFields}
use Rattle.hmc_codes.specs.declared.answer.Answer.TheVariants.{Stored}
use Rattle.hmc_codes.specs.declared.command.Command.TheVariants.{Wr16}
use Rattle.hmc_codes.specs.declared.lift.Lift.TheVariants as lifts
use Rattle.hmc_codes.specs.declared.place.Place.TheVariants as places
use Rattle.hmc_routes.specs.Directions.{direction_among}
use Rattle.hmc_routes.specs.Distance.{within, has_walk, distance}
use Rattle.hmc_routes.specs.Neighbours.{joined_to}
use Rattle.hmc_routes.specs.Parted.{InOnePart}
use Rattle.hmc_routes.specs.Ports.{port_to_cube, port_to_host}
use Rattle.hmc_routes.specs.WellFormed.{has_no_gap, IsGraph}
use Rattle.hmc_hops.specs.Packets.{Packet, reply_to}
use Rattle.hmc_hops.specs.Packets.Spot.{Bank, Registers}
use Rattle.hmc_hops.specs.Packets.Kind.{Asks}
use Rattle.hmc_hops.specs.Map.{Map, IsMap, route}
use Rattle.hmc_hops.specs.Queues.{next_queue}
use Rattle.hmc_hops.specs.Queues.QueueId.{Output, Line, Buffer, Vault, UnitQueue, Answers}
use Rattle.hmc_hops.specs.Moves.{Move, contents, without, IsPlaced, IsGiven, May, MayAll}
use Rattle.hmc_hops.specs.Moves.Move.{Comes, Goes, Executes}
use Rattle.hmc_hops.specs.Flows.{pick, collect, waiting_along, requests_to, given_to, requests_accepted, executed_by, answers_lifted, answers_accepted, answers_taken}
use Rattle.hmc_hops.specs.Delivered.{request_route, answer_route, IsDrained}
use Rattle.hmc_hops.specs.Tags.{asked_under, replied_under, answers_under, is_out, KeepsTags}
use Rattle.hmc_hops.specs.Order.{InOrder}
use Rattle.hmc_hops.specs.CutThrough.{MayForward, forwarded}
use Rattle.hmc_hops.specs.GraphMap.{map_of}
use Rattle.hmc_hops.proofs.GraphMaps.{is_map}

-- The network

-- host 0 is joined to port 0 of cube 0, and port 1 of cube 0 to port 0 of cube 1
abbrev pub two_cubes : GraphFields
two_cubes = record {
  cubes = 2;
  joins =
      record { a = places.Host 0; b = places.Port 0 0 }
      ∷ record { a = places.Port 0 1; b = places.Port 1 0 } ∷ [];
}

pub is_graph : IsGraph two_cubes
unfolding has_no_gap joined_to
is_graph = record {
  some_cubes = omega arith;
  few_cubes = omega arith;
  ends_exist = refl;
  joined_once = refl;
  ends_apart = refl;
  no_gap = refl;
}

near : (goal cube : ℕ) → goal < 2 → cube < 2 → has_walk two_cubes goal cube ≡ true
unfolding within joined_to
near zero zero less is = refl
near zero (suc zero) less is = refl
near (suc zero) zero less is = refl
near (suc zero) (suc zero) less is = refl
near (suc (suc goal)) cube less is = absurd (omega arith)
near zero (suc (suc cube)) less is = absurd (omega arith)
near (suc zero) (suc (suc cube)) less is = absurd (omega arith)

pub one_part : InOnePart two_cubes
one_part = near

abbrev pub two : Map
two = map_of two_cubes

pub two_is_map : IsMap two
two_is_map = is_map two_cubes is_graph one_part

-- direction 0 goes from the host to cube 0 and 1 back, 2 from cube 0 to cube 1 and 3 back
pub there : request_route two 0 1 2 ≡ 0 ∷ 2 ∷ []
unfolding route direction_among port_to_cube distance within joined_to
there = refl

pub back : answer_route two 1 0 1 ≡ 3 ∷ 1 ∷ []
unfolding route direction_among port_to_host port_to_cube distance within joined_to
back = refl

-- A request and its answer

abbrev pub write : RequestFields
write = record { command = Wr16; cube = 1; address = 16; payload = 1 ∷ 2 ∷ [] }

-- a request of host 0 to a bank of cube 1, under tag 5
abbrev pub ask : Packet
ask = record {
  kind = Asks;
  host = 0;
  cube = 1;
  spot = Bank 3 0;
  tag = 5;
  poisoned = false;
  request = write;
  answer = Stored;
}

abbrev pub reply : Packet
reply = reply_to ask Stored

-- the request is on direction 2
abbrev pub half_way : List Move
half_way =
    Goes (Output 2) 0 ask ∷ Goes (Buffer 0) 0 ask ∷ Goes (Line 0) 0 ask ∷ Goes (Output 0) 0 ask ∷
    Comes (Output 0) ask ∷ []

-- it is executed, and the answer waits in the vault's queue of answers
abbrev pub executed : List Move
executed =
    Executes 1 (Bank 3 0) 0 ask Stored ∷ Goes (Vault 1 3) 0 ask ∷ Goes (Buffer 2) 0 ask ∷
    Goes (Line 2) 0 ask ∷ half_way

-- the host takes the answer
abbrev pub taken : List Move
taken =
    Goes (Buffer 1) 0 reply ∷ Goes (Line 1) 0 reply ∷ Goes (Output 1) 0 reply ∷
    Goes (Buffer 3) 0 reply ∷ Goes (Line 3) 0 reply ∷ Goes (Output 3) 0 reply ∷
    Goes (Answers 1 (lifts.Vault 3)) 0 reply ∷ executed

pub may_half_way : MayAll two half_way
unfolding MayAll contents without direction_among port_to_cube distance within joined_to
may_half_way =
    ((tt, refl), ((tt, refl), ((tt, refl), ((tt, refl), (record { direction = refl; request = refl; host = refl; cube = refl }, tt)))))

pub may_executed : MayAll two executed
unfolding MayAll contents without direction_among port_to_cube distance within joined_to
may_executed = (refl, ((tt, refl), ((tt, refl), ((tt, refl), may_half_way))))

pub may_taken : MayAll two taken
unfolding MayAll contents without direction_among port_to_host port_to_cube distance within joined_to
may_taken = ((tt, refl), ((tt, refl), ((tt, refl), ((tt, refl), ((tt, refl), ((tt, refl), ((tt, refl), may_executed)))))))

pub in_order : InOrder taken
unfolding InOrder
in_order = (λ s. refl, (λ s. refl, (λ s. refl, (λ s. refl, (λ s. refl, (λ s. refl, (λ s. refl, (refl, (λ s. refl, (λ s. refl, (λ s. refl, (λ s. refl, (λ s. refl, (λ s. refl, (λ s. refl, (tt, tt))))))))))))))))

pub keeps_tags : KeepsTags two taken
unfolding KeepsTags is_out
keeps_tags = (λ h t off. cc, (λ h t off. cc, (λ h t off. cc, (λ h t off. cc, (λ h t off. cc, (λ h t off. cc, (λ h t off. cc, (λ h t off. cc, (λ h t off. cc, (λ h t off. cc, (λ h t off. cc, (λ h t off. cc, (λ h t off. cc, (λ h t off. cc, (λ h t off. cc, (λ h t asks. refl, tt))))))))))))))))

-- half way the request waits on the second direction of its route, and is accepted on the first
pub waits : waiting_along two (requests_to 0 1 (Bank 3 0)) half_way (request_route two 0 1 2) ≡ record { tag = Some 5; request = write } ∷ []
unfolding waiting_along route pick contents without direction_among port_to_cube distance within joined_to
waits = refl

pub accepted_first : requests_accepted 0 1 (Bank 3 0) half_way 0 ≡ record { tag = Some 5; request = write } ∷ []
unfolding collect pick
accepted_first = refl

pub not_yet_second : requests_accepted 0 1 (Bank 3 0) half_way 2 ≡ []
unfolding collect pick
not_yet_second = refl

-- at the end it was given and executed, and the answer lifted, accepted and taken
pub given_once : given_to 0 1 (Bank 3 0) taken ≡ record { tag = Some 5; request = write } ∷ []
unfolding collect pick
given_once = refl

pub executed_once : executed_by 0 1 (Bank 3 0) taken ≡ record { tag = Some 5; request = write } ∷ []
unfolding collect pick
executed_once = refl

-- another unit executed nothing
pub not_elsewhere : executed_by 0 1 Registers taken ≡ []
unfolding collect pick
not_elsewhere = refl

pub lifted_once : answers_lifted 1 0 taken ≡ record { tag = 5; answer = Stored } ∷ []
unfolding collect pick
lifted_once = refl

pub accepted_back : answers_accepted 1 0 taken 1 ≡ record { tag = 5; answer = Stored } ∷ []
unfolding collect pick
accepted_back = refl

pub taken_once : answers_taken two 1 0 taken ≡ record { tag = 5; answer = Stored } ∷ []
unfolding collect pick
taken_once = refl

-- under its tag, and under another one
pub asked : asked_under 0 5 taken ≡ write ∷ []
unfolding collect
asked = refl

pub replied : replied_under 0 5 executed ≡ Stored ∷ []
unfolding collect
replied = refl

pub answered : answers_under two 0 5 taken ≡ Stored ∷ []
unfolding collect
answered = refl

pub other_tag : asked_under 0 4 taken ≡ []
unfolding collect
other_tag = refl

pub out_before : is_out two 0 5 executed ≡ true
unfolding is_out
out_before = refl

pub free_after : is_out two 0 5 taken ≡ false
unfolding is_out
free_after = refl

-- Cut through the first cube

-- the request is on direction 0, and both the buffer at its end and the output queue of 2 are empty
abbrev pub on_line : List Move
on_line = Goes (Output 0) 0 ask ∷ Comes (Output 0) ask ∷ []

pub may_forward : MayForward two on_line 0 2 ask
unfolding contents without direction_among port_to_cube distance within joined_to
may_forward = record { front = refl; token = refl; empty = refl; goes = refl; apart = tt; other = refl }

pub on_second : contents two (forwarded two on_line 0 2 ask) (Line 2) ≡ ask ∷ []
unfolding contents without direction_among port_to_cube distance within joined_to
on_second = refl

-- What may not come

-- a packet passes no packet of its flow
pub passes_none : IsPlaced 1 ask (ask ∷ ask ∷ []) → ⊥
passes_none at = let off : true ≡ false = at.0 in cc

-- no answer comes from outside
pub no_stranger : May two [] (Comes (Buffer 1) reply) → ⊥
no_stranger may = may

-- a packet goes from no queue that doesn't hold it
pub not_held : May two half_way (Goes (Buffer 2) 0 ask) → ⊥
unfolding contents without direction_among port_to_cube distance within joined_to
not_held may = may.1

-- a request in the queue of its unit is executed, and doesn't go
pub not_gone : May two half_way (Goes (UnitQueue 1 (Bank 3 0)) 0 ask) → ⊥
not_gone may = may.0

-- no request goes to a cube that isn't there
pub no_cube : IsGiven two 0 (record ask { cube = 2 }) → ⊥
no_cube given = let off : false ≡ true = given.cube in cc

-- a poisoned request goes nowhere
pub dropped : next_queue two (Buffer 0) (record ask { poisoned = true }) ≡ None
dropped = refl

-- a tag isn't given twice while it is out
pub not_twice : KeepsTags two (Comes (Output 0) ask ∷ half_way) → ⊥
unfolding KeepsTags is_out
not_twice keeps = let off : true ≡ false = keeps.0 0 5 refl in cc

-- half way the network isn't drained
pub not_drained : IsDrained two half_way → ⊥
unfolding contents without direction_among port_to_cube distance within joined_to
not_drained drained = let off : true ≡ false = (drained.lines 2).0 in cc
