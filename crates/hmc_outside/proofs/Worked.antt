-- Definitions computed: counts at both ends, stops, and a sink whose second call is listed twice.
use Rattle.std.proofs.Common.{◌≡◌, [], ◌∷◌, Some, None, true, false, refl}
use Rattle.std.specs.Prelude.{map}
use Rattle.hmc_outside.specs.Counts as counts
use Rattle.hmc_outside.specs.Cut.{cut}
use Rattle.hmc_outside.specs.Pieces.{pieces_of, with_pieces}
use Rattle.hmc_outside.specs.Raised.{raised, raised_by}
use Rattle.hmc_outside.specs.SinkState.{SinkState, opened, view_of, limit_of, space_of, after_write, after_failure, after_finish}
use Rattle.hmc_outside.specs.SourceState as source

raised-ends : map raised (0 ∷ 4294967295 ∷ 18446744073709551614 ∷ 18446744073709551615 ∷ []) ≡
    1 ∷ 4294967296 ∷ 18446744073709551615 ∷ 18446744073709551615 ∷ []
raised-ends = refl

raised_by-ends : map (raised_by 3) (0 ∷ 7 ∷ 18446744073709551613 ∷ []) ≡ 3 ∷ 10 ∷ 18446744073709551615 ∷ []
unfolding raised_by
raised_by-ends = refl

limit_of-first_pair : map (limit_of ((2, 2) ∷ (2, 5) ∷ (4, 9) ∷ [])) (1 ∷ 2 ∷ 3 ∷ 4 ∷ []) ≡ None ∷ Some 2 ∷ None ∷ Some 9 ∷ []
limit_of-first_pair = refl

-- an empty write is no piece
pieces_of-empty : with_pieces (Some ((97 ∷ []) ∷ [])) (pieces_of []) ≡ Some ((97 ∷ []) ∷ [])
pieces_of-empty = refl

cut-three : cut (97 ∷ 98 ∷ 99 ∷ 100 ∷ []) (1 ∷ 2 ∷ 1 ∷ []) ≡ (97 ∷ []) ∷ (98 ∷ 99 ∷ []) ∷ (100 ∷ []) ∷ []
cut-three = refl

-- a sink of six bytes after a write of three, one of none, and a failure that took two
abbrev after_three : SinkState
after_three = after_failure (after_write (after_write (opened 6 []) (97 ∷ 98 ∷ 99 ∷ [])) []) (100 ∷ 101 ∷ [])

after_three-state : after_three ≡
    record { pieces = (97 ∷ 98 ∷ 99 ∷ []) ∷ (100 ∷ 101 ∷ []) ∷ []; room = 6; failing = []; counts = record { writes = 3; finishes = 0; faults = 1; failed = true; finished = false } }
after_three-state = refl

space_of-after_three : space_of after_three ≡ 1
space_of-after_three = refl

-- and finished: the pieces stay, and the last call did not fail
finished-view : view_of (after_finish after_three) ≡
    record { pieces = Some ((97 ∷ 98 ∷ 99 ∷ []) ∷ (100 ∷ 101 ∷ []) ∷ []); bytes = Some (97 ∷ 98 ∷ 99 ∷ 100 ∷ 101 ∷ []); writes = 3; finishes = 1; faults = 1; failed = false; finished = true }
finished-view = refl

-- a write after a finish is the last call again
written_after_finish-view : view_of (after_write (after_finish (opened 6 [])) (97 ∷ [])) ≡
    record { pieces = Some ((97 ∷ []) ∷ []); bytes = Some (97 ∷ []); writes = 1; finishes = 1; faults = 0; failed = false; finished = false }
written_after_finish-view = refl

-- a finish that fails counts as a finish and as a fault
failed_finish-counts : counts.after_finish (counts.after_write counts.opened false) true ≡ record { writes = 1; finishes = 1; faults = 1; failed = true; finished = true }
failed_finish-counts = refl

-- a source of three bytes after a read of two and a failure
abbrev after_two : source.SourceState
after_two = source.after_failure (source.after_read (source.opened (97 ∷ 98 ∷ 99 ∷ []) (2 ∷ [])) 2 2) 2

after_two-state : after_two ≡
    record { left = 99 ∷ []; failing = 2 ∷ []; counts = record { reads = 2; empty_reads = 0; faults = 1; stops = 1; stopped = true; failed = true } }
after_two-state = refl

-- the byte that is left, the end, and a read that asks for none
at_end-state : source.after_read (source.after_read (source.after_read after_two 1 2) 0 2) 0 0 ≡
    record { left = []; failing = 2 ∷ []; counts = record { reads = 5; empty_reads = 1; faults = 1; stops = 2; stopped = true; failed = false } }
at_end-state = refl

-- a read that gave a byte did not stop
goes_on-state : source.after_read after_two 1 2 ≡
    record { left = []; failing = 2 ∷ []; counts = record { reads = 3; empty_reads = 0; faults = 1; stops = 1; stopped = false; failed = false } }
goes_on-state = refl
