-- The script of a trace, and where it has the requests of each load.
use Rattle.std.specs.Prelude.{ℕ, ◌%◌, false, List, [], ◌∷◌, ◌++◌, length, map}
use Rattle.hmc_codes.specs.Request.{RequestFields}
use Rattle.hmc_script.specs.Items.{ItemFields}
use Rattle.hmc_accesses.specs.declared.load.Load.{Load}
use Rattle.hmc_accesses.specs.Requests.{load_requests, store_requests}
use Rattle.hmc_accesses.specs.Trace.{Access, Trace}
use Rattle.hmc_accesses.specs.Trace.Access.{load, store}

-- the script, and the loads in the order of the trace
pub record CompiledFields : Type 0 where
  pub script : List ItemFields
  pub loads : List Load

-- the requests of an access
abbrev pub requests_of : Access → List RequestFields
requests_of (load cube place length) = load_requests cube place length
requests_of (store cube place bytes) = store_requests cube place bytes

-- host 0 asks, without a fence and without poison
abbrev pub item_of : RequestFields → ItemFields
item_of request = record { host = 0; fenced = false; poisoned = false; request = request }

-- a load has so many requests from a first one on; its bytes are those of the answers, without
-- some at the front, up to its length
abbrev pub loads_of : (first : ℕ) → Access → List Load
loads_of first (load cube place size) = record {
  first = first;
  count = length (load_requests cube place size);
  skip = place % 16;
  length = size;
} ∷ []
loads_of first (store cube place bytes) = []

-- one access more
abbrev pub with_access : CompiledFields → Access → CompiledFields
with_access compiled access = record {
  script = compiled.script ++ map item_of (requests_of access);
  loads = compiled.loads ++ loads_of (length compiled.script) access;
}

abbrev pub nothing_compiled : CompiledFields
nothing_compiled = record { script = []; loads = [] }

-- all accesses, in order
unfoldable pub compiled_after : CompiledFields → List Access → CompiledFields
compiled_after compiled [] = compiled
compiled_after compiled (access ∷ accesses) =
    compiled_after (with_access compiled access) accesses

unfoldable pub compiled_of : Trace → CompiledFields
compiled_of trace = compiled_after nothing_compiled trace.accesses
