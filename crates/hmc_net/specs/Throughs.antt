-- What the step through knows of the packet that it forwards.
use Rattle.std.specs.Prelude.{◌≡◌, ℕ, Bool, true, Option, Some}
use Rattle.hmc_codes.specs.declared.place.Place.TheVariants as places
use Rattle.hmc_packet.specs.declared.head.Head.{Head}
use Rattle.hmc_journal.specs.Links.{direction_to}
use Rattle.hmc_journal.specs.StepView.{StepView}
use Rattle.hmc_journal.specs.ThroughSteps.{gathered_head}
use Rattle.hmc_net.specs.NetState.{NetState}
use Rattle.hmc_net.specs.Sees.{Sees}
use Rattle.hmc_kept.specs.Throughs.{IsOnto, is_free}

-- this is the head of the packet that is gathered at the end of a direction
abbrev pub IsHeadAt : NetState → (from : ℕ) → Option Head → Type 0
IsHeadAt net from head = (view : StepView) → Sees net view → head ≡ gathered_head view (Some from)

-- this is whether a packet of so many flits can be forwarded now
abbrev pub IsFree : NetState → (from onto flits : ℕ) → Bool → Type 0
IsFree net from onto flits free =
    (view : StepView) → Sees net view → free ≡ is_free net.topology view from onto flits

-- the packet that is gathered at a port, where this direction ends, is forwarded now
pub record IsComing (net : NetState) (cube port from onto : ℕ) : Type 0 where
  pub ends : direction_to net.topology (places.Port cube port) ≡ Some from
  pub head : Head
  pub gathers : IsHeadAt net from (Some head)
  pub goes : IsOnto net.topology cube port head (Some onto)
  pub free : IsFree net from onto head.flits true
