-- Words for the rows of a link, and how a link opens. The entries of all rows are those of a model
-- outside this repository. A row has the oldest entry first.
use Rattle.std.proofs.Common.{ℕ, zero, suc, List, [], ◌∷◌, ◌++◌}
use Rattle.hmc_codes.specs.Flit.{zero_flit}
use Rattle.hmc_codes.specs.Link.{LinkFields}
use Rattle.hmc_codes.specs.declared.profile.Profile.TheVariants.{One}
use Rattle.hmc_packet.specs.declared.feed.Feed.TheVariants.{Waiting}
use Rattle.hmc_packet.specs.declared.kind.Kind.TheVariants as kind
use Rattle.hmc_packet.specs.declared.outcome.Outcome.{Outcome}
use Rattle.hmc_packet.specs.declared.outcome.Outcome.TheVariants.{Quiet, Trained, Ran, Accepted}
use Rattle.hmc_packet.specs.declared.what.What.{What}
use Rattle.hmc_packet.specs.declared.what.What.TheVariants as what
use Rattle.hmc_packet.specs.Spelling.{training_flit}
use Rattle.hmc_send.specs.LinkEntries.{LinkEntry}
use Rattle.hmc_send.specs.declared.toward.Toward.TheVariants.{Forth, Back}

-- a flit that is sent as this, and lands unchanged with this outcome
pub record Crossing : Type 0 where
  pub as_what : What
  pub flit : List ℕ
  pub outcome : Outcome

abbrev pub crossing : What → (flit : List ℕ) → Outcome → Crossing
crossing as_what flit outcome = record { as_what = as_what; flit = flit; outcome = outcome }

-- a flit is sent in each direction, and both land
abbrev pub round : (forth back : Crossing) → List LinkEntry
round forth back =
    LinkEntry.sent Forth Waiting forth.as_what forth.flit ∷
    LinkEntry.sent Back Waiting back.as_what back.flit ∷
    LinkEntry.landed Forth zero_flit forth.flit forth.outcome ∷
    LinkEntry.landed Back zero_flit back.flit back.outcome ∷ []

-- so many rounds that are alike
abbrev pub rounds : ℕ → (forth back : Crossing) → List LinkEntry
rounds zero forth back = []
rounds (suc count) forth back = round forth back ++ rounds count forth back

-- so many rounds in which the same crosses both ways
abbrev pub both : ℕ → Crossing → List LinkEntry
both count each = rounds count each each

abbrev pub link : LinkFields
link = record { line = 8; tokens = 34; retry = 64; output = 4; profile = One }

abbrev pub flit_1 : List ℕ
flit_1 = (0x83 ∷ 0 ∷ 0 ∷ 0 ∷ 0 ∷ 0 ∷ 0 ∷ 0 ∷ 0 ∷ 2 ∷ 0 ∷ 0 ∷ 0x32 ∷ 0xda ∷ 0x95 ∷ 0xa5 ∷ [])

abbrev pub flit_2 : List ℕ
flit_2 = (0x83 ∷ 0 ∷ 0 ∷ 0 ∷ 0 ∷ 0 ∷ 0 ∷ 0 ∷ 0 ∷ 4 ∷ 0 ∷ 0 ∷ 0xfb ∷ 0x22 ∷ 0x99 ∷ 0xc1 ∷ [])

abbrev pub flit_3 : List ℕ
flit_3 = (0x82 ∷ 0 ∷ 0 ∷ 0 ∷ 0 ∷ 0 ∷ 0 ∷ 0 ∷ 0 ∷ 2 ∷ 4 ∷ 0xc0 ∷ 0xc3 ∷ 7 ∷ 0xf5 ∷ 7 ∷ [])

abbrev pub flit_4 : List ℕ
flit_4 = (0x82 ∷ 0 ∷ 0 ∷ 0 ∷ 0 ∷ 0 ∷ 0 ∷ 0 ∷ 1 ∷ 4 ∷ 8 ∷ 0x40 ∷ 0x9c ∷ 0xe9 ∷ 0x8a ∷ 0x53 ∷ [])

abbrev pub flit_5 : List ℕ
flit_5 = (0x81 ∷ 0 ∷ 0 ∷ 0 ∷ 0 ∷ 0 ∷ 0 ∷ 0 ∷ 2 ∷ 0 ∷ 0 ∷ 0 ∷ 0x4a ∷ 6 ∷ 0xc3 ∷ 0x35 ∷ [])

abbrev pub flit_6 : List ℕ
flit_6 = (8 ∷ 1 ∷ 0 ∷ 0x40 ∷ 0 ∷ 0 ∷ 0 ∷ 0 ∷ 0 ∷ 1 ∷ 2 ∷ 3 ∷ 4 ∷ 5 ∷ 6 ∷ 7 ∷ [])

abbrev pub flit_7 : List ℕ
flit_7 = (8 ∷ 9 ∷ 0xa ∷ 0xb ∷ 0xc ∷ 0xd ∷ 0xe ∷ 0xf ∷ 2 ∷ 6 ∷ 8 ∷ 0x40 ∷ 0xce ∷ 8 ∷ 0xfd ∷ 0xd5 ∷ [])

abbrev pub flit_8 : List ℕ
flit_8 = (8 ∷ 9 ∷ 0xa ∷ 0xb ∷ 0xc ∷ 0xd ∷ 0xe ∷ 0xf ∷ 2 ∷ 6 ∷ 8 ∷ 0x40 ∷ 0xce ∷ 8 ∷ 0xfd ∷ 0xd4 ∷ [])

abbrev pub flit_9 : List ℕ
flit_9 = (0xb0 ∷ 0x10 ∷ 0 ∷ 0x40 ∷ 0 ∷ 0 ∷ 0 ∷ 0 ∷ 2 ∷ 8 ∷ 0xc ∷ 0 ∷ 0x91 ∷ 0xc3 ∷ 0x16 ∷ 0xc1 ∷ [])

abbrev pub flit_10 : List ℕ
flit_10 = (0x83 ∷ 0 ∷ 0 ∷ 0 ∷ 0 ∷ 0 ∷ 0 ∷ 0 ∷ 1 ∷ 2 ∷ 0 ∷ 0 ∷ 0xe7 ∷ 0x92 ∷ 0xbb ∷ 0x55 ∷ [])

abbrev pub flit_11 : List ℕ
flit_11 = (0x83 ∷ 0 ∷ 0 ∷ 0 ∷ 0 ∷ 0 ∷ 0 ∷ 0 ∷ 2 ∷ 4 ∷ 0 ∷ 0 ∷ 0x86 ∷ 0x3f ∷ 0xde ∷ 0x55 ∷ [])

abbrev pub flit_12 : List ℕ
flit_12 = (0x81 ∷ 0 ∷ 0 ∷ 0 ∷ 0 ∷ 0 ∷ 0 ∷ 0 ∷ 3 ∷ 0 ∷ 0 ∷ 0 ∷ 0x9f ∷ 0x4e ∷ 0xed ∷ 0xc5 ∷ [])

abbrev pub flit_13 : List ℕ
flit_13 = (0x81 ∷ 0 ∷ 0 ∷ 0 ∷ 0 ∷ 0 ∷ 0 ∷ 0 ∷ 4 ∷ 0 ∷ 0 ∷ 0 ∷ 0x1a ∷ 0xad ∷ 0x11 ∷ 0xfd ∷ [])

abbrev pub flit_14 : List ℕ
flit_14 = (8 ∷ 1 ∷ 0 ∷ 0x40 ∷ 0 ∷ 0 ∷ 0 ∷ 0x20 ∷ 0 ∷ 1 ∷ 2 ∷ 3 ∷ 4 ∷ 5 ∷ 6 ∷ 7 ∷ [])

abbrev pub flit_15 : List ℕ
flit_15 = (8 ∷ 9 ∷ 0xa ∷ 0xb ∷ 0xc ∷ 0xd ∷ 0xe ∷ 0xf ∷ 2 ∷ 8 ∷ 0xc ∷ 0 ∷ 0x89 ∷ 0x40 ∷ 0x2e ∷ 0x56 ∷ [])

-- training, and a burst of Starts and one of Clears in each direction
abbrev pub opened : List LinkEntry
opened =
    both 7 (crossing what.Train training_flit Quiet)
    ++ both 1 (crossing what.Train training_flit Trained)
    ++ both 23 (crossing what.Start flit_1 Quiet)
    ++ both 1 (crossing what.Start flit_1 (Ran kind.Start))
    ++ both 8 (crossing what.Start flit_1 Quiet)
    ++ both 23 (crossing what.Clear flit_2 Quiet)
    ++ both 1 (crossing what.Clear flit_2 (Ran kind.Clear))
    ++ both 8 (crossing what.Clear flit_2 Quiet)

-- then all tokens are returned
abbrev pub returned : List LinkEntry
returned =
    both 1 (crossing what.Tret flit_3 Accepted)
    ++ both 1 (crossing what.Tret flit_4 Accepted)
    ++ both 1 (crossing what.Pret flit_5 Quiet)

abbrev pub trained : List LinkEntry
trained = opened ++ returned
