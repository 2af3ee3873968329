-- A retry buffer of 17 flits, worked: filled, acknowledged, gone back in, and wrapped.
use Rattle.std.proofs.Common.{◌≡◌, ℕ, true, false, List, [], ◌∷◌, Some, None, Err, map, refl}
use Rattle.std.specs.List.{range_with_len}
use Rattle.hmc_codes.specs.declared.command.Command.TheVariants.{Rd16}
use Rattle.hmc_codes.specs.declared.profile.Profile.TheVariants.{One, Two}
use Rattle.hmc_packet.specs.Packet.{PacketFields, null_packet}
use Rattle.hmc_retry.specs.RetryBuffer.{RetryFields, room_of, next_pointer, opening_buffer, after_put, numbered, acknowledged_by, acknowledgement, after_acknowledge, after_next, are_all_sent}

-- a packet of one flit that ends at a pointer
abbrev ending_at : ℕ → PacketFields
ending_at frp = record null_packet { command = Rd16; frp = frp }

-- a buffer of profile One from a base on, of which so many packets count as sent
abbrev keeping : (base position : ℕ) → List PacketFields → RetryFields
keeping base position kept =
    record { flits = 17; profile = One; kept = kept; base = base; position = position }

abbrev three : List PacketFields
three = ending_at 1 ∷ ending_at 2 ∷ ending_at 3 ∷ []

-- a new one has room for all of its flits, and each packet takes its own
room-new : room_of (opening_buffer 17 One) ≡ 17
room-new = refl

room-three : room_of (keeping 0 3 three) ≡ 14
room-three = refl

-- a packet that is kept while all were sent counts as sent; in the middle of a repetition it doesn't
put-at_end : after_put (ending_at 3) (keeping 0 2 (ending_at 1 ∷ ending_at 2 ∷ [])) ≡ keeping 0 3 three
put-at_end = refl

put-behind : after_put (ending_at 3) (keeping 0 1 (ending_at 1 ∷ ending_at 2 ∷ [])) ≡ keeping 0 1 three
put-behind = refl

-- the base acknowledges nothing
base-none : acknowledged_by 0 (keeping 0 3 three) ≡ Some 0
base-none = refl

base-left : after_acknowledge 0 (Some 0) (keeping 0 3 three) ≡ keeping 0 3 three
base-left = refl

-- each pointer acknowledges the packets up to its own
second-count : acknowledged_by 2 (keeping 0 3 three) ≡ Some 2
second-count = refl

second-left : after_acknowledge 2 (Some 2) (keeping 0 3 three) ≡ keeping 2 1 (ending_at 3 ∷ [])
second-left = refl

last-left : after_acknowledge 3 (Some 3) (keeping 0 3 three) ≡ keeping 3 0 []
last-left = refl

-- a position among the dropped ones goes to the front
middle-left : after_acknowledge 2 (Some 2) (keeping 0 1 three) ≡ keeping 2 0 (ending_at 3 ∷ [])
middle-left = refl

-- any other pointer is stray, and leaves all as it was
stray-answer : acknowledgement 9 0 (acknowledged_by 9 (keeping 0 3 three)) ≡ Err (record { base = 0; rrp = 9 })
stray-answer = refl

stray-left : after_acknowledge 9 None (keeping 0 3 three) ≡ keeping 0 3 three
stray-left = refl

-- a buffer whose packets were dropped knows their pointers no more
dropped-answer : acknowledged_by 1 (keeping 2 1 (ending_at 3 ∷ [])) ≡ None
dropped-answer = refl

-- the next packet is sent, and past the end none
next-middle : after_next (keeping 0 1 three) ≡ keeping 0 2 three
next-middle = refl

next-end : after_next (keeping 0 3 three) ≡ keeping 0 3 three
next-end = refl

-- all were sent past the last packet, and in a buffer that keeps none, but not before
sent-end : are_all_sent (keeping 0 3 three) ≡ true
sent-end = refl

sent-new : are_all_sent (opening_buffer 17 One) ≡ true
sent-new = refl

sent-middle : are_all_sent (keeping 0 2 three) ≡ false
sent-middle = refl

-- pointers wrap at 512 in profile One and at 2,048 in profile Two
wrap-one : next_pointer (keeping 510 1 (ending_at 511 ∷ [])) 2 ≡ 1
wrap-one = refl

wrap-two : next_pointer (record (opening_buffer 17 Two) { base = 2046 }) 3 ≡ 1
wrap-two = refl

wrap-left : after_acknowledge 0 (Some 2) (keeping 510 3 (ending_at 511 ∷ ending_at 0 ∷ ending_at 1 ∷ [])) ≡ keeping 0 1 (ending_at 1 ∷ [])
wrap-left = refl

-- a buffer that is full: 17 packets of one flit
abbrev full : RetryFields
full = keeping 0 17 (map ending_at (range_with_len 1 17))

room-full : room_of full ≡ 0
room-full = refl

-- each of its pointers acknowledges its own number of packets, and a further one none
each-pointer : map (λ rrp. acknowledged_by rrp full) (range_with_len 0 18) ≡ map (λ count. Some count) (range_with_len 0 18)
each-pointer = refl

further-pointer : acknowledged_by 18 full ≡ None
further-pointer = refl

-- the pointers of one that wraps
abbrev wrapping : RetryFields
wrapping = keeping 510 3 (ending_at 511 ∷ ending_at 0 ∷ ending_at 1 ∷ [])

wrap-each : map (λ rrp. acknowledged_by rrp wrapping) (509 ∷ 510 ∷ 511 ∷ 0 ∷ 1 ∷ 2 ∷ []) ≡ None ∷ Some 0 ∷ Some 1 ∷ Some 2 ∷ Some 3 ∷ None ∷ []
wrap-each = refl

-- going back in the middle: all are to be sent again, and a packet that is kept then too
back-put : after_put (ending_at 4) (record (keeping 0 2 three) { position = 0 }) ≡ keeping 0 0 (ending_at 1 ∷ ending_at 2 ∷ ending_at 3 ∷ ending_at 4 ∷ [])
back-put = refl

-- a packet gets its three numbers, each in its place, and keeps the rest
numbered-packet : numbered 1 2 3 (record null_packet { command = Rd16; tag = 4; slid = 5; rtc = 9; seq = 8; frp = 7 }) ≡
    record null_packet { command = Rd16; tag = 4; slid = 5; rtc = 1; seq = 2; frp = 3 }
numbered-packet = refl
