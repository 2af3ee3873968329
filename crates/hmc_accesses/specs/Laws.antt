-- What is promised of a compiled trace and of the values of its loads.
use Rattle.std.specs.Prelude.{◌≡◌, ℕ, true, List, length, map, Option, Some}
use Rattle.std.specs.List.{slice_get}
use Rattle.hmc_codes.specs.Request.{RequestFields}
use Rattle.hmc_entries.specs.declared.entry.Entry.{Entry}
use Rattle.hmc_journal.specs.Drained.{is_drained}
use Rattle.hmc_journal.specs.Filters.{given_by}
use Rattle.hmc_journal.specs.Lawful.{Lawful}
use Rattle.hmc_journal.specs.Network.{IsNetwork}
use Rattle.hmc_journal.specs.Setup.{Setup, shapes_of}
use Rattle.hmc_script.specs.Items.{ItemFields}
use Rattle.hmc_serial.specs.Machine.{opening_state}
use Rattle.hmc_units.specs.Unit.{UnitFields}
use Rattle.hmc_accesses.specs.declared.load.Load.{Load}
use Rattle.hmc_accesses.specs.Compiled.{CompiledFields, compiled_of}
use Rattle.hmc_accesses.specs.Serial.{machine_after, answers_to}
use Rattle.hmc_accesses.specs.Trace.{Trace, IsTrace, memory_of, loaded}
use Rattle.hmc_accesses.specs.Value.{load_value, value_in}

-- the requests of a script
abbrev pub requests_in : List ItemFields → List RequestFields
requests_in script = map (λ item. item.request) script

-- the script of a trace
abbrev pub script_of : Trace → List ItemFields
script_of trace = (compiled_of trace).script

-- A plain machine of the trace's cubes performs a script from its opening state, with whatever
-- logic units.
pub record IsPerformed (compiled : CompiledFields) (trace : Trace)
    (slots : List (Option UnitFields)) : Type 0 where
  -- it has the bytes that the trace leaves
  pub memory :
      map (λ cube. cube.memory)
      (machine_after (opening_state trace.cubes slots) (requests_in compiled.script)).cubes
      ≡ memory_of trace
  -- and the answers give the value of each load
  pub values :
      map (load_value (slice_get (answers_to (opening_state trace.cubes slots)
      (requests_in compiled.script))) compiled.script) compiled.loads
      ≡ map Some (loaded trace)

-- Any lawful journal of any network with the trace's cubes, in which host 0 asks what the script
-- says: where the value of a load is known, it is the trace's. The network may perform requests to
-- different banks in another order.
abbrev pub ValuesAreLoaded : Type 0
ValuesAreLoaded = (trace : Trace) (setup : Setup) (past : List Entry) → IsTrace trace →
    IsNetwork setup → Lawful setup past → shapes_of setup.topology ≡ trace.cubes →
    setup.script ≡ script_of trace → (i : ℕ) (load : Load) (bytes : List ℕ) →
    slice_get (compiled_of trace).loads i ≡ Some load →
    value_in (compiled_of trace) past load ≡ Some bytes →
    slice_get (loaded trace) i ≡ Some bytes

-- Once host 0 gave all requests of the script and the network is drained, the journal has the value
-- of every load, and they are the trace's.
abbrev pub AllAreLoaded : Type 0
AllAreLoaded = (trace : Trace) (setup : Setup) (past : List Entry) → IsTrace trace →
    IsNetwork setup → Lawful setup past → shapes_of setup.topology ≡ trace.cubes →
    setup.script ≡ script_of trace → length (given_by 0 past) ≡ length setup.script →
    is_drained setup.topology past ≡ true →
    map (value_in (compiled_of trace) past) (compiled_of trace).loads ≡ map Some (loaded trace)
