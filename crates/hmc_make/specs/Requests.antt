-- The requests: each is drawn, its command first, then its cube, its address and its payload.
use Rattle.std.specs.Prelude.{ℕ, zero, suc, ◌*◌, ◌/◌, ◌%◌, false, List, [], ◌∷◌, slice_index_or}
use Rattle.hmc_codes.specs.Commands.{payload_len_of}
use Rattle.hmc_codes.specs.Request.{RequestFields}
use Rattle.hmc_codes.specs.declared.command.Command.{Command}
use Rattle.hmc_codes.specs.declared.command.Command.TheVariants.{Wr16, Rd16, Wr64, Rd64, Add16, Inc8}
use Rattle.hmc_script.specs.Items.{ItemFields}
use Rattle.hmc_make.specs.Draws.{next, drawn, after, drawn_bytes}

-- the commands of requests
abbrev pub commands : List Command
commands = Wr16 ∷ Rd16 ∷ Wr64 ∷ Rd64 ∷ Add16 ∷ Inc8 ∷ []

-- the command that a drawn number picks
unfoldable pub command_of : (drawn : ℕ) → Command
command_of drawn = slice_index_or commands (drawn % 6) Wr16

-- the draws of a payload
abbrev pub payload_draws : Command → ℕ
payload_draws command = payload_len_of command / 4

-- the request to one of so many cubes that is drawn from this state on
unfoldable pub request_from : (cubes state : ℕ) → RequestFields
request_from cubes state =
    let command = command_of (drawn state) in
    record {
      command = command;
      cube = drawn (next state) % cubes;
      address = 256 * (drawn (next (next state)) % 64);
      payload = drawn_bytes (payload_draws command) (next (next (next state)));
    }

-- the state after its draws
abbrev pub after_request : (state : ℕ) → ℕ
after_request state =
    after (payload_draws (command_of (drawn state))) (next (next (next state)))

-- a request of host 0, without a fence and not poisoned
abbrev pub item_of : RequestFields → ItemFields
item_of request = record { host = 0; fenced = false; poisoned = false; request = request }

-- so many requests, drawn one after another from this state on
unfoldable pub items_from : (requests cubes state : ℕ) → List ItemFields
items_from zero cubes state = []
items_from (suc requests) cubes state =
    item_of (request_from cubes state) ∷ items_from requests cubes (after_request state)
