-- Pipes, worked: a wr16 of two flits in profile One, and what its places give.
use Rattle.std.proofs.Common.{◌≡◌, ℕ, List, [], ◌∷◌, Bool, true, false, Option, Some, None, replicate, refl}
use Rattle.hmc_codes.specs.Codes.{all_commands, command_of}
use Rattle.hmc_codes.specs.Flit.{zero_flit}
use Rattle.hmc_codes.specs.Table.{table_line}
use Rattle.hmc_codes.specs.declared.profile.Profile.TheVariants.{One}
use Rattle.hmc_packet.specs.declared.bad.Bad.TheVariants as bads
use Rattle.hmc_packet.specs.declared.feed.Feed.TheVariants.{Waiting, Whole, Last}
use Rattle.hmc_packet.specs.declared.landed.Landed.TheVariants as outcomes
use Rattle.hmc_packet.specs.Copy.{last_feed}
use Rattle.hmc_packet.specs.Head.{named_by}
use Rattle.hmc_packet.specs.Packet.{null_packet}
use Rattle.hmc_packet.specs.Parts.{word_of, half_of}
use Rattle.hmc_packet.specs.Reading.{command_in, fitting}
use Rattle.hmc_packet.specs.Tail.{tail_of}
use Rattle.hmc_through.specs.Pipe.{PipeFields, is_accepted, is_whole, feed_at}

-- the flits are those of a model outside this repository; the packet's SLID is 4
abbrev first : List ℕ
first = (8 ∷ 0x51 ∷ 0x5c ∷ 0x29 ∷ 0x79 ∷ 0xb0 ∷ 0xda ∷ 0xc0 ∷ 0x8f ∷ 0x34 ∷ 0x1a ∷ 0x92 ∷ 0x4c ∷ 0x7f ∷ 0x88 ∷ 0xdf ∷ [])

abbrev last : List ℕ
last = (0xa1 ∷ 0x61 ∷ 0xbf ∷ 0xdb ∷ 0xe ∷ 0xcc ∷ 0x68 ∷ 0x29 ∷ 0x4e ∷ 0x1e ∷ 0x1b ∷ 0x30 ∷ 0xa ∷ 0x5d ∷ 0xcf ∷ 0x44 ∷ [])

abbrev half : List ℕ
half = (0xa1 ∷ 0x61 ∷ 0xbf ∷ 0xdb ∷ 0xe ∷ 0xcc ∷ 0x68 ∷ 0x29 ∷ [])

-- a pipe after these flits and this end
abbrev pipe : List (List ℕ) → Option Bool → PipeFields
pipe came good = record { flits = 2; profile = One; came = came; good = good }

-- before the end the flit that came is given, and the last one waits, whether it came or not
first-open : feed_at (pipe (first ∷ []) None) 0 ≡ Whole first
first-open = refl

last-missing : feed_at (pipe (first ∷ []) None) 1 ≡ Waiting
last-missing = refl

last-open : feed_at (pipe (first ∷ last ∷ []) None) 1 ≡ Waiting
last-open = refl

-- after a repeat the copy isn't good, and after an accepted packet it is
last-repeat : feed_at (pipe (first ∷ last ∷ []) (Some (is_accepted outcomes.Repeat))) 1 ≡ Last half 4 0 false
unfolding last_feed tail_of half_of named_by command_in fitting all_commands command_of table_line word_of zero_flit
last-repeat = refl

last-accepted : feed_at (pipe (first ∷ last ∷ []) (Some (is_accepted (outcomes.Accepted null_packet)))) 1 ≡ Last half 4 0 true
unfolding last_feed tail_of half_of named_by command_in fitting all_commands command_of table_line word_of zero_flit
last-accepted = refl

last-poisoned : is_accepted (outcomes.Poisoned null_packet) ≡ false
last-poisoned = refl

-- a gathering that ended early gives zeros in place of what didn't come
last-aborted : feed_at (pipe (first ∷ []) (Some (is_accepted outcomes.Quiet))) 1 ≡ Last (replicate 8 0) 0 0 false
unfolding last_feed tail_of half_of named_by command_in fitting all_commands command_of table_line word_of zero_flit
last-aborted = refl

middle-open : feed_at (record (pipe (first ∷ []) None) { flits = 3 }) 1 ≡ Waiting
middle-open = refl

middle-aborted : feed_at (record (pipe (first ∷ []) (Some false)) { flits = 3 }) 1 ≡ Whole zero_flit
middle-aborted = refl

-- which ends are those of a whole packet
whole-repeat : is_whole outcomes.Repeat ≡ true
whole-repeat = refl

whole-bad : is_whole (outcomes.AbortedBad bads.Crc) ≡ false
whole-bad = refl

whole-order : is_whole outcomes.AbortedOrder ≡ false
whole-order = refl
