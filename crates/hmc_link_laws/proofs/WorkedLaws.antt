-- What the definitions say of return pointers, lists, tokens and items in small examples, also where
-- they say no.
use Rattle.std.proofs.Common.{◌≡◌, ◌∙◌, ◌≤◌, ℕ, Bool, true, false, List, [], ◌∷◌, Some, None, refl, sym, ap, arith}
use Rattle.std.proofs.lemmas.Option.{same_Some}
use Rattle.std.specs.Prelude.{map, replicate}
use Rattle.hmc_codes.specs.Flit.{zero_flit}
use Rattle.hmc_codes.specs.Link.{LinkFields}
use Rattle.hmc_codes.specs.declared.profile.Profile.TheVariants.{One}
use Rattle.hmc_packet.specs.declared.feed.Feed.TheVariants.{Waiting, Whole, Last}
use Rattle.hmc_packet.specs.declared.outcome.Outcome.TheVariants.{Quiet}
use Rattle.hmc_packet.specs.declared.what.What.TheVariants as what
use Rattle.hmc_packet.specs.Irtry.{irtry_in}
use Rattle.hmc_packet.specs.Landings.{mode, is_training, accepted}
use Rattle.hmc_packet.specs.Parts.{word_of, half_of, lng_of}
use Rattle.hmc_packet.specs.Reading.{is_null, is_null_alone, read_of}
use Rattle.hmc_packet.specs.Receptions.{landing_view, reception_by, reception_of}
use Rattle.hmc_packet.specs.Spelling.{training_flit}
use Rattle.hmc_tokens.specs.Account.{code_for}
use Rattle.hmc_numbers.specs.Direction.{Filler as fillers}
use Rattle.hmc_numbers.specs.Direction.Item.{filler, clear, part}
use Rattle.hmc_send.specs.Entries.{acked, last_begun, places, taken_fronts, unfinished}
use Rattle.hmc_send.specs.LinkCalls.{LinkCall}
use Rattle.hmc_send.specs.LinkEntries.{LinkEntry, handed_packets, receiver_entries, takes}
use Rattle.hmc_send.specs.LinkLines.{StampedFlit, landings, line, sent_flits}
use Rattle.hmc_send.specs.LinkSenders.{given_after, sender_entries}
use Rattle.hmc_send.specs.Places.{Place}
use Rattle.hmc_send.specs.declared.toward.Toward.TheVariants.{Forth, Back}
use Rattle.hmc_ends.specs.declared.link_sent.LinkSent.TheVariants as links
use Rattle.hmc_ends.specs.List.{listed_open}
use Rattle.hmc_wire.specs.LinkLaws.{pointer_after}
use Rattle.hmc_link_laws.specs.Items.{alone_item, packet_items, items_on, IsInside}
use Rattle.hmc_link_laws.specs.Lists.{list_after_send, way_of}
use Rattle.hmc_link_laws.specs.Pointers.{Acknowledges, counted_pointer}
use Rattle.hmc_link_laws.specs.Tokens.{TokensBalance}
use Rattle.hmc_link_laws.specs.Wire.{pieces}

abbrev link : LinkFields
link = record { line = 8; tokens = 17; retry = 17; output = 1; profile = One }

-- ---- return pointers

-- a receiver that isn't trained counts none
untrained : counted_pointer link Forth [] zero_flit ≡ None
unfolding reception_of reception_by landing_view mode receiver_entries is_training irtry_in read_of is_null_alone is_null training_flit zero_flit lng_of word_of half_of
untrained = refl

-- one flit is on the line back; its end had accepted no packet
abbrev one_back : List LinkEntry
one_back = LinkEntry.sent Back Waiting what.Null zero_flit ∷ []

abbrev landed_back : List LinkEntry
landed_back = LinkEntry.landed Back zero_flit zero_flit Quiet ∷ one_back

-- its pointer is that of no packet, which acknowledges none
acknowledges-none : Acknowledges link Forth one_back landed_back 0
unfolding line sent_flits landings sender_entries given_after places acked accepted receiver_entries reception_of reception_by landing_view mode is_training irtry_in read_of is_null_alone is_null training_flit zero_flit lng_of word_of half_of
acknowledges-none = record {
  names = record {
    front = record { flit = zero_flit; stamp = 0 };
    is_front = refl;
    least = omega arith;
    most = omega arith;
    is = refl;
    alone = λ n least most same. omega arith;
  };
  dropped = refl;
  acknowledged = refl;
  places = refl;
}

-- another pointer is stray
no-other : Acknowledges link Forth one_back landed_back 1 → ⊥
unfolding line sent_flits landings sender_entries given_after places acked accepted receiver_entries
no-other is =
    let front : record { flit = zero_flit; stamp = 0 } ≡ is.names.front = same_Some (record { flit = zero_flit; stamp = 0 }) is.names.front is.names.is_front in
    let off : ◌≡◌ {A = ℕ} 1 0 = is.names.is ∙ ap (λ (x : StampedFlit). pointer_after link Forth one_back x.stamp) (sym front) in
    omega (arith, off)

-- nor does a pointer count that came with no flit
no-front : Acknowledges link Forth [] [] 0 → ⊥
unfolding line sent_flits landings
no-front is = let clash : None ≡ Some is.names.front = is.names.is_front in cc

-- ---- lists

abbrev head : List ℕ
head = 8 ∷ 1 ∷ 0 ∷ 0x40 ∷ replicate 12 0

-- the first flit of a forwarded packet of two was sent
abbrev begun : List LinkEntry
begun = LinkEntry.sent Forth (Whole head) what.New head ∷ LinkEntry.through Forth head 2 ∷ []

is_known : Place → Bool
is_known (Place.known packet) = true
is_known (Place.awaited first flits numbers) = false

-- its last flit fills its place, and no other does
filled : map is_known (list_after_send link Forth begun (Last (replicate 8 0) 0 0 true) (links.Out zero_flit what.New)) ≡ true ∷ []
unfolding is_known sender_entries given_after receiver_entries accepted mode handed_packets taken_fronts places unfinished last_begun code_for lng_of word_of half_of
filled = refl

open-still : list_after_send link Forth begun Waiting (links.Out zero_flit what.Null) ≡ listed_open head 2 ∷ []
unfolding sender_entries given_after receiver_entries accepted mode handed_packets taken_fronts places unfinished last_begun code_for lng_of word_of half_of
open-still = refl

starved : list_after_send link Forth begun (Last (replicate 8 0) 0 0 true) links.Starved ≡ listed_open head 2 ∷ []
unfolding sender_entries given_after receiver_entries accepted mode handed_packets taken_fronts places unfinished last_begun code_for lng_of word_of half_of
starved = refl

way-landing : way_of (LinkCall.land Back zero_flit) ≡ Back
way-landing = refl

-- ---- tokens

-- before anything is done all tokens are due
balance-none : TokensBalance link Forth [] (record { held = 0; transit = 0; used = 0; due = 17; returning = 0 })
unfolding sender_entries receiver_entries accepted places takes
balance-none = record { held = refl; transit = refl; used = refl; due = refl; returning = refl; sum = refl }

-- so none is held, even where the sum is right
no-held : TokensBalance link Forth [] (record { held = 1; transit = 0; used = 0; due = 16; returning = 0 }) → ⊥
unfolding sender_entries receiver_entries accepted places takes
no-held is = let off : ◌≡◌ {A = ℕ} 1 0 = is.held in omega (arith, off)

-- ---- items

items-packet : packet_items 4 3 2 ≡ part 4 0 2 ∷ part 4 1 1 ∷ []
items-packet = refl

items-alone : map alone_item (what.Start ∷ what.Clear ∷ what.Null ∷ []) ≡ filler fillers.start ∷ clear ∷ filler fillers.null ∷ []
items-alone = refl

-- the first flit of packet 1, and one more after it
items-begun : items_on link Forth begun ≡ part 1 0 1 ∷ []
unfolding sender_entries given_after receiver_entries accepted mode handed_packets taken_fronts places unfinished last_begun pieces landings code_for lng_of word_of half_of
items-begun = refl

items-landed : items_on link Forth (LinkEntry.landed Forth zero_flit head Quiet ∷ begun) ≡ []
unfolding sender_entries given_after receiver_entries accepted mode handed_packets taken_fronts places unfinished last_begun pieces landings code_for lng_of word_of half_of
items-landed = refl

-- nothing is gathered of a packet that wasn't begun
no-inside : IsInside link Forth [] 1 1 → ⊥
unfolding sender_entries places
no-inside is = let few : 1 ≤ 0 = is.begun in omega (arith, few)
