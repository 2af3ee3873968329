-- The table's entries for a command.
use Rattle.std.specs.Prelude.{ℕ, ◌*◌, ◌-◌, Bool, true, false, List, nat_le, ◌==◌, ◌&&◌, ◌||◌, is_none, Option}
use Rattle.hmc_codes.specs.declared.layout.Layout.{Layout}
use Rattle.hmc_codes.specs.declared.layout.Layout.TheVariants as layouts
use Rattle.hmc_codes.specs.declared.length.Length.{Length}
use Rattle.hmc_codes.specs.declared.length.Length.TheVariants.{Fixed, Data}
use Rattle.hmc_codes.specs.declared.family.Family.{Family}
use Rattle.hmc_codes.specs.declared.family.Family.TheVariants as families
use Rattle.hmc_codes.specs.declared.command.Command.{Command}
use Rattle.hmc_codes.specs.Table.{table_line}

-- the word of a command in a script or a report
abbrev pub word_of : Command → List ℕ
word_of command = (table_line command).word

-- the code in a packet's header
abbrev pub code_of : Command → ℕ
code_of command = (table_line command).code

-- the fields of a packet with the command
abbrev pub layout_of : Command → Layout
layout_of command = (table_line command).layout

-- the flits of a packet with the command
abbrev pub length_of : Command → Length
length_of command = (table_line command).flits

-- the command of the response to a request
abbrev pub reply_of : Command → Option Command
reply_of command = (table_line command).reply

-- the family of packets with these fields
abbrev pub family_of_layout : Layout → Family
family_of_layout layouts.Null = families.Flow
family_of_layout layouts.Pret = families.Flow
family_of_layout layouts.Tret = families.Flow
family_of_layout layouts.Irtry = families.Flow
family_of_layout layouts.Ask = families.Ask
family_of_layout layouts.Reply = families.Reply

-- the family of packets with the command
abbrev pub family_of : Command → Family
family_of command = family_of_layout (layout_of command)

-- the number of flits is one that the length permits: returned data has 2 to 9 flits, or 17
abbrev pub permits : Length → ℕ → Bool
permits (Fixed n) flits = flits == n
permits Data flits = (nat_le 2 flits && nat_le flits 9) || flits == 17

-- the table permits this number of flits
abbrev pub allows_of : Command → ℕ → Bool
allows_of command flits = permits (length_of command) flits

-- the fields are those of a request
abbrev pub is_ask : Layout → Bool
is_ask layouts.Ask = true
is_ask _ = false

-- a packet between the two ends of a link
abbrev pub is_flow : Layout → Bool
is_flow layouts.Ask = false
is_flow layouts.Reply = false
is_flow _ = true

-- a request without a response
abbrev pub is_posted : Command → Bool
is_posted command = is_ask (layout_of command) && is_none (reply_of command)

-- the bytes of payload in a packet of a fixed length: 16 for each flit except one
abbrev pub payload_of_length : Length → ℕ
payload_of_length (Fixed n) = 16 * (n - 1)
payload_of_length Data = 0

-- the bytes of payload that a request with this command carries
abbrev pub payload_len_of : Command → ℕ
payload_len_of command = payload_of_length (length_of command)
