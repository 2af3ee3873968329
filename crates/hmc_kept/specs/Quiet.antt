-- When an end of a link holds no packet, as a test.
use Rattle.std.specs.Prelude.{◌==◌, ◌&&◌, Bool, is_none, slice_get}
use Rattle.hmc_ends.specs.End.{EndFields}

-- an end holds no packet, and what it began was accepted
abbrev pub is_quiet_end : EndFields → Bool
is_quiet_end e =
    (is_none (slice_get e.queue 0) && (e.transit == 0)) && is_none (slice_get e.buffer 0)
