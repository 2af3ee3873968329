-- Executions that would wait.
use Rattle.std.proofs.Common.{◌≡◌, ◌∙◌, ℕ, Bool, true, false, List, [], ◌∷◌, Option, Some, None, refl, sym, ap, subst}
use Rattle.std.specs.Prelude.{if◌then◌else◌, slice_get}
use Rattle.std.specs.List.{All}
use Rattle.std.specs.Option.{ForSome}
use Rattle.std.proofs.lemmas.List.Elements.{All-head}
use Rattle.hmc_codes.specs.Commands.{layout_of, is_ask}
use Rattle.hmc_codes.specs.Request.{RequestFields}
use Rattle.hmc_codes.specs.declared.answer.Answer.{Answer}
use Rattle.hmc_codes.specs.declared.command.Command.{Command}
use Rattle.hmc_codes.specs.declared.layout.Layout.{Layout}
use Rattle.hmc_packet.specs.Packet.{PacketFields}
use Rattle.hmc_packet.specs.Transactions.{payload_of, request_in}
use Rattle.hmc_packet.proofs.TransactionLemmas.{asks-layout}
use Rattle.hmc_units.specs.Unit.{UnitFields}
use Rattle.hmc_serial.specs.Cube.{CubeState}
use Rattle.hmc_serial.specs.Perform.{perform_on}
use Rattle.hmc_vault.specs.declared.execute.Executed.TheVariants.{Full, Ran}
use Rattle.hmc_vault.specs.Packets.{CarriesRequest, IsForBanks}
use Rattle.hmc_vault.specs.Execute.{command_waits, front_waits, carried_runs, execute_says}

-- the request that a packet carries
abbrev carried : PacketFields → RequestFields
carried p = record { command = p.command; cube = p.cube; address = p.address; payload = payload_of p.command p.payload }

is_carried : (p : PacketFields) → CarriesRequest p → request_in p ≡ Some (carried p)
unfolding request_in
is_carried p asks = ap (λ (l : Layout). if is_ask l then Some (carried p) else None) (asks-layout (layout_of p.command) asks)

-- an execution of a front that carries a request
front_says : (front : PacketFields) (rest answers : List PacketFields) (size : ℕ) (cube : CubeState) (slots : List (Option UnitFields)) → CarriesRequest front →
    execute_says (front ∷ rest) answers size cube slots ≡ (if command_waits front.command answers size then Full else Ran front.slid front.tag (carried front) (perform_on cube slots (carried front)).answer)
front_says front rest answers size cube slots asks = ap (λ (r : Option RequestFields). carried_runs front r answers size cube slots) (is_carried front asks)

is_full : (b : Bool) (host tag : ℕ) (request : RequestFields) (answer : Answer) → (if b then Full else Ran host tag request answer) ≡ Full → b ≡ true
is_full true host tag request answer is = refl
is_full false host tag request answer is = absurd cc

-- where the front waits, an execution finds the answers full
pub full_where_waits : (waiting answers : List PacketFields) (size : ℕ) (cube : CubeState) (slots : List (Option UnitFields)) → ForSome (slice_get waiting 0) CarriesRequest → front_waits waiting answers size ≡ true →
    execute_says waiting answers size cube slots ≡ Full
full_where_waits [] answers size cube slots asks is = absurd cc
full_where_waits (front ∷ rest) answers size cube slots asks is =
    front_says front rest answers size cube slots (asks front refl) ∙ ap (λ (b : Bool). if b then Full else Ran front.slid front.tag (carried front) (perform_on cube slots (carried front)).answer) is

-- and only there
pub waits_where_full : (waiting answers : List PacketFields) (size : ℕ) (cube : CubeState) (slots : List (Option UnitFields)) → ForSome (slice_get waiting 0) CarriesRequest → execute_says waiting answers size cube slots ≡ Full →
    front_waits waiting answers size ≡ true
waits_where_full [] answers size cube slots asks is = absurd cc
waits_where_full (front ∷ rest) answers size cube slots asks is =
    is_full (command_waits front.command answers size) front.slid front.tag (carried front) (perform_on cube slots (carried front)).answer
    (sym (front_says front rest answers size cube slots (asks front refl)) ∙ is)

-- the front of a bank's queue carries a request
pub front_asks : (waiting : List PacketFields) → All IsForBanks waiting → ForSome (slice_get waiting 0) CarriesRequest
front_asks [] all front is = absurd cc
front_asks (packet ∷ rest) all front is = let same : packet ≡ front = cc in subst CarriesRequest same (All-head IsForBanks packet rest all).asks

-- the test of the front's command is the test of the front
pub waits_by_command : (waiting answers : List PacketFields) (size : ℕ) (front : PacketFields) (command : Command) (b : Bool) → slice_get waiting 0 ≡ Some front → command ≡ front.command → command_waits command answers size ≡ b →
    front_waits waiting answers size ≡ b
waits_by_command [] answers size front command b some same is = absurd (cc)
waits_by_command (packet ∷ rest) answers size front command b some same is =
    let first : packet ≡ front = cc some in
    ap (λ (p : PacketFields). command_waits p.command answers size) first ∙ ap (λ (k : Command). command_waits k answers size) (sym same) ∙ is

found_is : (b : Bool) (q r : RequestFields) → (if b then Some q else None) ≡ Some r → q ≡ r
found_is true q r is = cc is
found_is false q r is = absurd (cc is)

-- the request of a packet has its command
pub command_carried : (p : PacketFields) (request : RequestFields) → request_in p ≡ Some request → p.command ≡ request.command
unfolding request_in
command_carried p request is = ap (λ (r : RequestFields). r.command) (found_is (is_ask (layout_of p.command)) (carried p) request is)
