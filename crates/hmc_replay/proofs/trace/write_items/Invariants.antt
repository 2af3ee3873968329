-- The lines so far were written.
use Rattle.std.proofs.Common.{◌≡◌, ◌++◌, List, ℕ, drop, map}
use Rattle.hmc_outside.specs.Lines.{WritesLines}
use Rattle.hmc_script.specs.Text.{item_text}
use Rattle.hmc_replay.proofs.trace.write_items.Given as goal

abbrev pub invariant-items : goal.invariant-items
invariant-items g l =
    (whole : List (List ℕ))
    × (map item_text l.fn.script ≡ whole ++ map item_text (drop l.at l.fn.script))
    × WritesLines (g.O.Sink.shows l.initial.sink) (g.O.Sink.shows l.sink) whole
