-- What the definitions say of small examples, also where they say no.
use Rattle.std.proofs.Common.{◌≡◌, ℕ, true, false, List, [], ◌∷◌, length, refl, ap, arith}
use Rattle.std.specs.Prelude.{replicate}
use Rattle.hmc_codes.specs.Flit.{zero_flit}
use Rattle.hmc_codes.specs.Link.{LinkFields}
use Rattle.hmc_codes.specs.declared.profile.Profile.TheVariants.{One}
use Rattle.hmc_packet.specs.declared.feed.Feed.TheVariants.{Waiting, Whole}
use Rattle.hmc_packet.specs.declared.what.What.TheVariants as what
use Rattle.hmc_packet.specs.Packet.{null_packet}
use Rattle.hmc_packet.specs.Parts.{word_of, half_of, lng_of}
use Rattle.hmc_send.specs.Entries.{places, unfinished}
use Rattle.hmc_send.specs.LinkEntries.{LinkEntry}
use Rattle.hmc_send.specs.LinkLines.{sent_flits, landings}
use Rattle.hmc_send.specs.LinkSenders.{sender_entries, given_after}
use Rattle.hmc_send.specs.Places.{Place}
use Rattle.hmc_send.specs.declared.toward.Toward.TheVariants.{Forth, Back}
use Rattle.hmc_numbers.specs.Direction.{Filler as fillers}
use Rattle.hmc_numbers.specs.Direction.Item.{filler, clear, part}
use Rattle.hmc_link_laws.specs.Lines.{sent_as, line_as, AreItems}
use Rattle.hmc_link_laws.specs.Sends.{is_waiting}
use Rattle.hmc_link_laws.specs.Wire.{pieces, IsWire}

-- ---- what a send waits for

waits-open : is_waiting (Place.awaited [] 2 (record { frp = 0; seq = 0; rtc = 0 })) Waiting ≡ true
waits-open = refl

-- a flit is there, or the packet is known
waits-fed : is_waiting (Place.awaited [] 2 (record { frp = 0; seq = 0; rtc = 0 })) (Whole zero_flit) ≡ false
waits-fed = refl

waits-known : is_waiting (Place.known null_packet) Waiting ≡ false
waits-known = refl

-- ---- lists of sends in a direction

abbrev link : LinkFields
link = record { line = 8; tokens = 17; retry = 17; output = 1; profile = One }

-- the first of two flits
abbrev write_head : List ℕ
write_head = 8 ∷ 1 ∷ 0 ∷ 0x40 ∷ replicate 12 0

abbrev new : List LinkEntry → List LinkEntry
new past = LinkEntry.sent Forth Waiting what.New write_head ∷ past

abbrev null : List LinkEntry → List LinkEntry
null past = LinkEntry.sent Forth Waiting what.Null zero_flit ∷ past

-- a NULL stands between the flits of a packet: a flit of the wire is in no piece
mixed : IsWire link Forth (new (null (new []))) → ⊥
unfolding sent_flits sender_entries given_after pieces unfinished lng_of word_of half_of
mixed is = let off : ◌≡◌ {A = ℕ} 3 2 = ap (λ (l : List (List ℕ)). length l) is.sent in omega (arith, off)

-- a TRET whose flit has no length
not_cut : IsWire link Forth (LinkEntry.sent Forth Waiting what.Tret zero_flit ∷ []) → ⊥
unfolding sender_entries given_after pieces unfinished places lng_of word_of half_of zero_flit
not_cut is = let off : ◌≡◌ {A = ℕ} 0 1 = is.whole.0.cut in omega (arith, off)

-- a NULL that isn't zero
not_alone : IsWire link Forth (LinkEntry.sent Forth Waiting what.Null write_head ∷ []) → ⊥
unfolding sender_entries given_after pieces unfinished zero_flit
not_alone is = let off : ◌≡◌ {A = ℕ} 8 0 = ap first is.whole.0 in omega (arith, off)
  where
    first : List ℕ → ℕ
    first [] = 1
    first (x ∷ l) = x

-- ---- the line by numbers

one-landed : line_as Forth (LinkEntry.sent Forth Waiting what.Clear zero_flit ∷ LinkEntry.sent Back Waiting what.Start zero_flit ∷ []) ≡ what.Clear ∷ []
unfolding sent_as landings
one-landed = refl

items-null : AreItems (filler fillers.null ∷ part 1 0 0 ∷ []) (what.Null ∷ what.Tret ∷ [])
items-null = (tt, (tt, tt))

items-other : AreItems (clear ∷ []) (what.Start ∷ []) → ⊥
items-other is = is.0

items-more : AreItems [] (what.Null ∷ []) → ⊥
items-more is = is
