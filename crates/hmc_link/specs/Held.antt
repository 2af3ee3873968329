-- What a link holds, as the contracts see it.
use Rattle.std.specs.Prelude.{◌+◌, length, ℕ, Bool}
use Rattle.hmc_send.specs.declared.toward.Toward.{Toward}
use Rattle.hmc_send.specs.declared.toward.Toward.TheVariants.{Forth, Back}
use Rattle.hmc_ends.specs.End.{EndFields}

-- a link: the end that sends Forth, the end that sends Back, whether no landing has passed, and the
-- lengths of the lists of its directions
pub record LinkHeld : Type 0 where
  pub a : EndFields
  pub b : EndFields
  pub going : Bool
  pub forth : ℕ
  pub back : ℕ

-- the end that sends in a direction
abbrev pub sending_end : Toward → LinkHeld → EndFields
sending_end Forth held = held.a
sending_end Back held = held.b

-- the end at which a direction lands
abbrev pub landing_end : Toward → LinkHeld → EndFields
landing_end Forth held = held.b
landing_end Back held = held.a

-- the length of the list of a direction
abbrev pub listed_at : Toward → LinkHeld → ℕ
listed_at Forth held = held.forth
listed_at Back held = held.back

-- the number of packets that a link holds: in the lists of both directions, and in both buffers
abbrev pub held_on : LinkHeld → ℕ
held_on held = held.forth + held.back + length held.a.buffer + length held.b.buffer
