-- Definitions computed at host 2: with three tags, and with all of them.
use Rattle.std.proofs.Common.{◌≡◌, ℕ, Bool, List, [], ◌∷◌, Option, Some, None, true, false, refl, arith}
use Rattle.std.specs.Prelude.{map, length, replicate, ◌++◌}
use Rattle.hmc_codes.specs.Table.{table_line}
use Rattle.hmc_codes.specs.declared.command.Command.{Command}
use Rattle.hmc_codes.specs.declared.command.Command.TheVariants.{Rd16, Pinc8, WrRs}
use Rattle.hmc_codes.specs.declared.answer.Answer.TheVariants as answers
use Rattle.hmc_codes.specs.Request.{RequestFields}
use Rattle.hmc_packet.specs.Packet.{PacketFields, null_packet}
use Rattle.hmc_packet.specs.Transactions.{request_packet, answer_by, answer_in}
use Rattle.hmc_script.specs.Items.{ItemFields}
use Rattle.hmc_host.specs.declared.given.Given.{Given}
use Rattle.hmc_host.specs.declared.given.Given.TheVariants.{Ended, Fence, Tags, Full, Gave}
use Rattle.hmc_host.specs.declared.given.Hindrance.TheVariants as hindrances
use Rattle.hmc_host.specs.declared.settled.Settled.TheVariants.{Discarded, Took}
use Rattle.hmc_host.specs.Tags.{none_out, lowest_free, number_out, IsFree, IsOut}
use Rattle.hmc_host.specs.Host.{HostFields, IsHost, items_of, asked, asked_count}
use Rattle.hmc_host.specs.Waiting.{waiting_in, IsWaiting}
use Rattle.hmc_host.specs.Give.{wants_tag, give_says, after_give, hindrance_of, nothing_given}
use Rattle.hmc_host.specs.Settle.{settle_says, after_settle}

abbrev request_with : Command → RequestFields
request_with command = record { command = command; cube = 1; address = 0x40; payload = [] }

abbrev item_of : (host : ℕ) (fenced poisoned : Bool) → Command → ItemFields
item_of host fenced poisoned command = record { host = host; fenced = fenced; poisoned = poisoned; request = request_with command }

-- a read, a read after a fence, a posted increment, and a poisoned read
abbrev read : ItemFields
read = item_of 2 false false Rd16

abbrev fenced : ItemFields
fenced = item_of 2 true false Rd16

abbrev posted : ItemFields
posted = item_of 2 false false Pinc8

abbrev poisoned : ItemFields
poisoned = item_of 2 false true Rd16

abbrev all_out : List Bool
all_out = true ∷ true ∷ true ∷ []

abbrev two_out : List Bool
two_out = true ∷ false ∷ true ∷ []

abbrev host_with : List ItemFields → (tags : List Bool) → HostFields
host_with left tags = record { number = 2; left = left; given = 0; tags = tags }

-- a request goes out under a tag, or under none
abbrev goes_out : Command → (tag : ℕ) → Option ℕ → (poisoned : Bool) → Given
goes_out command carried tag poisoned = Gave (request_packet (request_with command) carried 2 poisoned) (request_with command) tag poisoned

-- tags
lowest_free-each : map lowest_free (two_out ∷ all_out ∷ []) ≡ Some 1 ∷ None ∷ []
lowest_free-each = refl

number_out-each : map number_out (two_out ∷ all_out ∷ []) ≡ 2 ∷ 3 ∷ []
number_out-each = refl

IsFree-second : IsFree two_out 1
IsFree-second = refl

IsOut-third : IsOut two_out 2
IsOut-third = refl

-- a host has 2,048 tags, and none is out at first
none_out-all : length none_out ≡ 2048
unfolding none_out
none_out-all = refl

none_out-none : number_out none_out ≡ 0
unfolding none_out
none_out-none = refl

-- a read takes tag 0 at first; under 2,047 tags the last one, and under 2,048 none
give_says-first : give_says (host_with (read ∷ []) none_out) true ≡ goes_out Rd16 0 (Some 0) false
unfolding give_says none_out table_line
give_says-first = refl

give_says-last : give_says (host_with (read ∷ []) (replicate 2047 true ++ false ∷ [])) true ≡ goes_out Rd16 2047 (Some 2047) false
unfolding give_says table_line
give_says-last = refl

give_says-all_out : give_says (host_with (read ∷ []) (map (λ out. true) none_out)) true ≡ Tags
unfolding give_says none_out table_line
give_says-all_out = refl

-- of a script a host has its own requests, in their order
items_of-second : items_of 2 (read ∷ item_of 1 false false Rd16 ∷ posted ∷ item_of 3 true false Rd16 ∷ fenced ∷ []) ≡ read ∷ posted ∷ fenced ∷ []
items_of-second = refl

wants_tag-each : map wants_tag (read ∷ fenced ∷ posted ∷ poisoned ∷ item_of 2 false true Pinc8 ∷ []) ≡ true ∷ true ∷ false ∷ false ∷ false ∷ []
unfolding table_line
wants_tag-each = refl

-- all tags are out and there is no room: the fence comes first, then the tags, then the room
give_says-order : map (λ (item : ItemFields). give_says (host_with (item ∷ []) all_out) false) (fenced ∷ read ∷ posted ∷ poisoned ∷ []) ≡ Fence ∷ Tags ∷ Full ∷ Full ∷ []
unfolding give_says table_line
give_says-order = refl

-- where no request is left nothing else matters
give_says-ended : give_says (record (host_with [] all_out) { given = 1 }) false ≡ Ended
unfolding give_says
give_says-ended = refl

-- some tag is out: a request after a fence waits, and a read takes the lowest tag that isn't out
give_says-some_out : map (λ (item : ItemFields). give_says (host_with (item ∷ []) two_out) true) (fenced ∷ read ∷ []) ≡ Fence ∷ goes_out Rd16 1 (Some 1) false ∷ []
unfolding give_says table_line
give_says-some_out = refl

-- none is out: a fence holds nothing
give_says-fence_passed : give_says (host_with (fenced ∷ []) (false ∷ false ∷ [])) true ≡ goes_out Rd16 0 (Some 0) false
unfolding give_says table_line
give_says-fence_passed = refl

-- posted and poisoned requests need no tag, and carry 0
give_says-without_tag : map (λ (item : ItemFields). give_says (host_with (item ∷ []) all_out) true) (posted ∷ poisoned ∷ []) ≡ goes_out Pinc8 0 None false ∷ goes_out Rd16 0 None true ∷ []
unfolding give_says table_line
give_says-without_tag = refl

-- a host without room asks for a tag first, and else for room
give_says-full : give_says (host_with (read ∷ []) two_out) false ≡ Full
unfolding give_says table_line
give_says-full = refl

-- the second request follows the first
give_says-second : give_says (after_give (goes_out Rd16 0 (Some 0) false) (host_with (read ∷ posted ∷ []) two_out)) true ≡ goes_out Pinc8 0 None false
unfolding give_says table_line
give_says-second = refl

-- a request that is asked for comes last; those that were given count too
asked-last : asked fenced (record (host_with (read ∷ posted ∷ []) two_out) { given = 5 }) ≡ record (host_with (read ∷ posted ∷ fenced ∷ []) two_out) { given = 5 }
asked-last = refl

asked_count-both : asked_count (record (host_with (read ∷ posted ∷ []) two_out) { given = 5 }) ≡ 7
asked_count-both = refl

-- so a host is asked for 4,294,967,295 requests in all, and for no more
abbrev host_given : ℕ → HostFields
host_given given = record (host_with (read ∷ posted ∷ []) none_out) { given = given }

IsHost-most : IsHost (host_given 4294967293)
unfolding none_out
IsHost-most = record { number = omega arith; few = omega arith; tags = refl }

IsHost-past : IsHost (host_given 4294967294) → ⊥
IsHost-past is = omega (arith, is.few)

-- of the front those from a place on wait, and then those of the back
waiting_in-both : waiting_in (read ∷ posted ∷ fenced ∷ []) 1 (poisoned ∷ read ∷ []) ≡ posted ∷ fenced ∷ poisoned ∷ read ∷ []
waiting_in-both = refl

IsWaiting-used_up : IsWaiting (read ∷ []) 1 (posted ∷ []) → ⊥
IsWaiting-used_up is = absurd cc (is.turned refl)

-- the reason where nothing is given, and none where something is
hindrance_of-each : map hindrance_of (Ended ∷ Fence ∷ Tags ∷ Full ∷ goes_out Rd16 1 (Some 1) false ∷ []) ≡
    Some hindrances.Ended ∷ Some hindrances.Fence ∷ Some hindrances.Tags ∷ Some hindrances.Full ∷ None ∷ []
hindrance_of-each = refl

nothing_given-each : map nothing_given (hindrances.Ended ∷ hindrances.Fence ∷ hindrances.Tags ∷ hindrances.Full ∷ []) ≡ Ended ∷ Fence ∷ Tags ∷ Full ∷ []
nothing_given-each = refl

-- one more was given, and its tag is out
after_give-tag : after_give (goes_out Rd16 1 (Some 1) false) (host_with (read ∷ posted ∷ []) two_out) ≡ record (host_with (posted ∷ []) all_out) { given = 1 }
after_give-tag = refl

after_give-without_tag : after_give (goes_out Pinc8 0 None false) (host_with (posted ∷ []) two_out) ≡ record (host_with [] two_out) { given = 1 }
after_give-without_tag = refl

after_give-nothing : map (λ (given : Given). after_give given (host_with (read ∷ []) two_out)) (Ended ∷ Fence ∷ Tags ∷ Full ∷ []) ≡ map (λ (given : Given). host_with (read ∷ []) two_out) (Ended ∷ Fence ∷ Tags ∷ Full ∷ [])
after_give-nothing = refl

-- a reply to a write under tag 2
abbrev done : PacketFields
done = record null_packet { command = WrRs; tag = 2; slid = 2; flag = true }

settle_says-each : map settle_says (done ∷ record done { poisoned = true } ∷ []) ≡ Took 2 (answers.Done true) ∷ Discarded ∷ []
unfolding answer_in answer_by
settle_says-each = refl

-- its tag is no longer out
after_settle-took_answer : after_settle (Took 2 (answers.Done true)) (host_with (read ∷ []) all_out) ≡ host_with (read ∷ []) (true ∷ true ∷ false ∷ [])
after_settle-took_answer = refl

after_settle-discarded : after_settle Discarded (host_with (read ∷ []) all_out) ≡ host_with (read ∷ []) all_out
after_settle-discarded = refl
