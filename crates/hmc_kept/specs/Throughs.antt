-- Whether and where a packet is forwarded, by what a step sees.
use Rattle.std.specs.Prelude.{◌≡◌, ℕ, Bool, not, ◌&&◌, List, [], slice_get, slice_index_or, Option, Some, None, is_none, option_and_then}
use Rattle.hmc_codes.specs.declared.place.Place.TheVariants as places
use Rattle.hmc_codes.specs.declared.profile.Profile.{Profile}
use Rattle.hmc_packet.specs.declared.head.Head.{Head}
use Rattle.hmc_packet.specs.Parts.{lng_of}
use Rattle.hmc_through.specs.Pipe.{PipeFields}
use Rattle.hmc_journal.specs.Queues.{landing_buffer}
use Rattle.hmc_journal.specs.Setup.{direction_from, Topology}
use Rattle.hmc_journal.specs.StepView.{StepView}
use Rattle.hmc_journal.specs.ThroughSteps.{onward_port, is_forwarded, takes_on}

-- a pipe of the flits that came so far
abbrev pub pipe_fields : (came : List (List ℕ)) → Profile → PipeFields
pipe_fields came profile = record {
  flits = lng_of (slice_index_or came 0 []);
  profile = profile;
  came = came;
  good = None;
}

-- this is the direction onto which a packet with this head is forwarded from a port
abbrev pub IsOnto : Topology → (cube port : ℕ) → Head → Option ℕ → Type 0
IsOnto topology cube port head onto =
    onto
    ≡ option_and_then (λ onward. direction_from topology (places.Port cube onward))
    (onward_port topology cube port head)

-- the packet at the end of a direction is not forwarded yet, no packet waits there, and the other
-- direction takes it
abbrev pub is_free : Topology → StepView → (from onto flits : ℕ) → Bool
is_free topology view from onto flits =
    (not (is_forwarded view (Some from))
    && is_none (slice_get (view.inside (landing_buffer topology from)) 0))
    && takes_on topology view onto flits
