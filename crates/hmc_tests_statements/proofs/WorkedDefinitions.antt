-- Definitions computed, each where a wrong one agrees with it in all other rows: what the commands of
-- logic units and the reads of 48, 80 and 96 bytes do, which requests are the registers', where a
-- packet goes on to, and when a direction can take one.
use Rattle.std.proofs.Common.{◌≡◌, ◌∙◌, ◌/◌, ℕ, Bool, true, false, List, [], ◌∷◌, Option, Some, None, refl}
use Rattle.std.specs.Prelude.{◌||◌, if◌then◌else◌, is_none, map, not, slice_get}
use Rattle.hmc_codes.specs.Link.{LinkFields}
use Rattle.hmc_codes.specs.Request.{RequestFields}
use Rattle.hmc_codes.specs.Table.{table_line}
use Rattle.hmc_codes.specs.declared.answer.Answer.TheVariants.{Register}
use Rattle.hmc_codes.specs.declared.command.Command.TheVariants as commands
use Rattle.hmc_codes.specs.declared.family.Family.TheVariants.{Ask, Reply}
use Rattle.hmc_codes.specs.declared.place.Place.{Place}
use Rattle.hmc_codes.specs.declared.place.Place.TheVariants as places
use Rattle.hmc_codes.specs.declared.profile.Profile.TheVariants.{One}
use Rattle.hmc_codes.specs.declared.unit.Unit.TheVariants as units
use Rattle.hmc_case.specs.Setup.{CubeSetupFields}
use Rattle.hmc_case.specs.declared.setup.LinkRow.{LinkRow}
use Rattle.hmc_schedule.specs.declared.step.Step.TheVariants as steps
use Rattle.hmc_packet.specs.declared.feed.Feed.TheVariants.{Waiting}
use Rattle.hmc_packet.specs.declared.head.Head.{Head}
use Rattle.hmc_packet.specs.declared.view.Mode.TheVariants.{Good}
use Rattle.hmc_routes.specs.Directions.{direction_among}
use Rattle.hmc_routes.specs.Distance.{within, distance}
use Rattle.hmc_routes.specs.Neighbours.{joined_to}
use Rattle.hmc_routes.specs.Ports.{port_to_cube, port_to_host}
use Rattle.hmc_serial.specs.Actions.{action_of}
use Rattle.hmc_serial.specs.Unit.{unit_of}
use Rattle.hmc_serial.specs.declared.action.Action.TheVariants.{Read, Work}
use Rattle.hmc_send.specs.Choice.{SendView}
use Rattle.hmc_send.specs.LinkCalls.{may_pass_on, view_in}
use Rattle.hmc_entries.specs.declared.entry.Entry.{Entry}
use Rattle.hmc_entries.specs.declared.entry.Entry.TheVariants.{Gave, Executed, Idle, Through}
use Rattle.hmc_entries.specs.declared.outcome.Cause.TheVariants.{Busy, NoPacket}
use Rattle.hmc_journal.specs.Filters.{same_unit, given_to, executed_by}
use Rattle.hmc_journal.specs.Links.{direction_to, sizes_on, toward}
use Rattle.hmc_journal.specs.Queues.QueueId.{Port}
use Rattle.hmc_journal.specs.Setup.{Topology}
use Rattle.hmc_journal.specs.StepView.{StepView}
use Rattle.hmc_journal.specs.ThroughSteps.{forwarded_entry, is_forwarded, onward_port, port_by, takes_on, through_head}

-- ---- what commands do

action_of-reads : map action_of (commands.Rd16 ∷ commands.Rd32 ∷ commands.Rd48 ∷ commands.Rd64 ∷ commands.Rd80 ∷ commands.Rd96 ∷ commands.Rd112 ∷ commands.Rd128 ∷ commands.Rd256 ∷ [])
    ≡ Some (Read 16) ∷ Some (Read 32) ∷ Some (Read 48) ∷ Some (Read 64) ∷ Some (Read 80) ∷ Some (Read 96) ∷ Some (Read 112) ∷ Some (Read 128) ∷ Some (Read 256) ∷ []
unfolding action_of
action_of-reads = refl

action_of-units : map action_of (commands.Unit0 ∷ commands.Unit1 ∷ commands.Unit2 ∷ commands.Unit3 ∷ commands.Unit4 ∷ commands.Unit5 ∷ commands.Unit6 ∷ commands.Unit7 ∷ [])
    ≡ Some (Work 0) ∷ Some (Work 1) ∷ Some (Work 2) ∷ Some (Work 3) ∷ Some (Work 4) ∷ Some (Work 5) ∷ Some (Work 6) ∷ Some (Work 7) ∷ []
unfolding action_of
action_of-units = refl

-- ---- three cubes in a row, with a host at the first

abbrev one_bank : CubeSetupFields
one_bank = record { shape = record { vault_bits = 0; bank_bits = 0; rows = 1; block = 256 }; queue = 1 }

abbrev sizes : LinkFields
sizes = record { line = 1; tokens = 17; retry = 17; output = 1; profile = One }

abbrev link_of : (a b : Place) → LinkRow
link_of a b = record { join = record { a = a; b = b }; setup = sizes }

abbrev three_cubes : Topology
three_cubes = record {
  cubes = one_bank ∷ one_bank ∷ one_bank ∷ [];
  links =
      link_of (places.Host 0) (places.Port 0 0) ∷ link_of (places.Port 0 1) (places.Port 1 0) ∷
      link_of (places.Port 1 1) (places.Port 2 0) ∷ [];
}

-- ---- the registers of a cube are a unit, and no bank is

same_unit-registers : map (same_unit (units.Registers 1)) (units.Registers 0 ∷ units.Registers 1 ∷ units.Bank 1 0 0 ∷ []) ≡ false ∷ true ∷ false ∷ []
same_unit-registers = refl

same_unit-bank : map (same_unit (units.Bank 1 2 3)) (units.Bank 1 2 3 ∷ units.Bank 0 2 3 ∷ units.Bank 1 0 3 ∷ units.Bank 1 2 0 ∷ units.Registers 1 ∷ []) ≡ true ∷ false ∷ false ∷ false ∷ false ∷ []
same_unit-bank = refl

abbrev load : (cube : ℕ) → RequestFields
load cube = record { command = commands.Mdrd; cube = cube; address = 7; payload = [] }

given_to-registers : given_to three_cubes 0 (units.Registers 1) (Gave 0 (Some 2) false (load 2) ∷ Gave 0 (Some 1) false (load 1) ∷ []) ≡ record { tag = Some 1; request = load 1 } ∷ []
unfolding given_to unit_of table_line
given_to-registers = refl

abbrev loaded : (cube : ℕ) → Entry
loaded cube = Executed (units.Registers cube) 0 (Some cube) (load cube) (Register 0)

executed_by-registers : executed_by 0 (units.Registers 1) (loaded 2 ∷ loaded 1 ∷ []) ≡ record { tag = Some 1; request = load 1 } ∷ []
unfolding executed_by
executed_by-registers = refl

-- ---- where a packet goes on to: nowhere where its cube or its host isn't there

abbrev asks : (cube : ℕ) → Head
asks cube = record { command = commands.Wr16; flits = 2; cube = cube; slid = 0 }

abbrev answers : (host : ℕ) → Head
answers host = record { command = commands.RdRs; flits = 2; cube = 0; slid = host }

port_by-asks : map (λ cube. port_by three_cubes 1 (asks cube) Ask) (0 ∷ 1 ∷ 2 ∷ 3 ∷ 7 ∷ []) ≡ Some 0 ∷ None ∷ Some 1 ∷ None ∷ None ∷ []
unfolding direction_among joined_to within distance port_to_cube port_to_host
port_by-asks = refl

port_by-answers : map (λ host. port_by three_cubes 1 (answers host) Reply) (0 ∷ 1 ∷ 7 ∷ []) ≡ Some 0 ∷ None ∷ None ∷ []
unfolding direction_among joined_to within distance port_to_cube port_to_host
port_by-answers = refl

onward_port-each : map (onward_port three_cubes 1 1) (asks 0 ∷ asks 2 ∷ asks 3 ∷ answers 0 ∷ answers 1 ∷ []) ≡ Some 0 ∷ None ∷ None ∷ Some 0 ∷ None ∷ []
unfolding direction_among joined_to within distance port_to_cube port_to_host table_line
onward_port-each = refl

through_head-no_cube : (view : StepView) → through_head three_cubes view 1 1 (Some (asks 3)) ≡ Idle (steps.Through 1 1) NoPacket
unfolding direction_among joined_to within distance port_to_cube port_to_host table_line
through_head-no_cube view = refl

through_head-no_host : (view : StepView) → through_head three_cubes view 1 1 (Some (answers 1)) ≡ Idle (steps.Through 1 1) NoPacket
unfolding direction_among joined_to within distance port_to_cube port_to_host table_line
through_head-no_host view = refl

-- ---- when a direction can take a packet of nine flits: as soon as there are nine tokens and room for
-- nine flits

abbrev sees : (held room : ℕ) → SendView
sees held room = record {
  given = record { own = record { mode = Good; rrp = 0 }; front = None; held = held; due = 0; feed = Waiting };
  under_way = None;
  burst = None;
  go_back = false;
  may_start = false;
  again = None;
  pointer = 0;
  number = 0;
  is_open = true;
  room = room;
  shown = 0;
}

may_pass_on-tokens : map (λ held. may_pass_on (sees held 64) 9) (8 ∷ 9 ∷ 10 ∷ []) ≡ false ∷ true ∷ true ∷ []
may_pass_on-tokens = refl

may_pass_on-room : map (λ room. may_pass_on (sees 64 room) 9) (8 ∷ 9 ∷ 10 ∷ []) ≡ false ∷ true ∷ true ∷ []
may_pass_on-room = refl

-- the step asks so of the packet's own flits, on the direction ahead, and of nothing else: where the
-- packet isn't forwarded yet and the buffer of its port is empty
takes_on-is : (view : StepView) (direction flits : ℕ) → takes_on three_cubes view direction flits ≡ may_pass_on (view_in (sizes_on three_cubes direction) (toward direction) (view.entries (direction / 2)) Waiting) flits
takes_on-is view direction flits = refl

through_entry-when : (view : StepView) (takes : Bool) → is_forwarded view (direction_to three_cubes (places.Port 1 1)) ≡ false → view.inside (Port 1 1) ≡ [] → takes_on three_cubes view 3 2 ≡ takes →
    forwarded_entry three_cubes view 1 1 (asks 0) (Some 3) ≡ (if takes then Through 1 1 3 else Idle (steps.Through 1 1) Busy)
through_entry-when view takes fresh empty is =
    (λ i. if fresh i || not (is_none (slice_get (empty i) 0)) || not (is i) then Idle (steps.Through 1 1) Busy else Through 1 1 3) ∙ by_takes takes
  where
    by_takes : (b : Bool) → (if not b then Idle (steps.Through 1 1) Busy else Through 1 1 3) ≡ (if b then Through 1 1 3 else Idle (steps.Through 1 1) Busy)
    by_takes true = refl
    by_takes false = refl
