-- What is on the wire of a direction: the flits that were sent, as single flits and as packets, one
-- after the other.
use Rattle.std.specs.Prelude.{◌≡◌, ◌<◌, ℕ, suc, List, [], ◌∷◌, ◌++◌, length, take, map, slice_index_or, Option, Some, None}
use Rattle.hmc_codes.specs.Flit.{zero_flit}
use Rattle.hmc_codes.specs.Link.{LinkFields}
use Rattle.hmc_codes.specs.declared.profile.Profile.{Profile}
use Rattle.hmc_packet.specs.declared.kind.Kind.TheVariants as kinds
use Rattle.hmc_packet.specs.declared.what.What.{What}
use Rattle.hmc_packet.specs.declared.what.What.TheVariants as what
use Rattle.hmc_packet.specs.Irtry.{irtry_flit}
use Rattle.hmc_packet.specs.Packet.{PacketFields, null_packet}
use Rattle.hmc_packet.specs.Parts.{lng_of}
use Rattle.hmc_packet.specs.Spelling.{spelling, training_flit}
use Rattle.hmc_send.specs.Entries.{SenderEntry, Part, unfinished, places, position, last_begun}
use Rattle.hmc_send.specs.LinkEntries.{LinkEntry}
use Rattle.hmc_send.specs.LinkLines.{StampedFlit, sent_flits}
use Rattle.hmc_send.specs.LinkSenders.{sender_entries, places_in}
use Rattle.hmc_send.specs.Places.{Place, pret_packet, flit_of}
use Rattle.hmc_send.specs.declared.toward.Toward.{Toward}

-- A packet that is sent, for the first time or again: which place of its direction it is of, from
-- 0, its flits, and the return pointer before the last of them.
pub record Transmission : Type 0 where
  pub number : ℕ
  pub flits : List (List ℕ)
  pub rrp : ℕ

-- one flit that is of no sequenced packet, with what it was sent as and the return pointer before
-- it; or a packet
pub data Piece : Type 0 where
  alone : What → (rrp : ℕ) → (flit : List ℕ) → Piece
  packet : Transmission → Piece

-- one more flit of a packet: it begins one, or goes on with the one that was sent last
abbrev pub with_flit : Option Part → (number rrp : ℕ) → (flit : List ℕ) → List Piece → List Piece
with_flit None number rrp flit pieces =
    Piece.packet (record { number = number; flits = flit ∷ []; rrp = rrp }) ∷ pieces
with_flit (Some part) number rrp flit (Piece.packet sent ∷ pieces) =
    Piece.packet (record sent { flits = sent.flits ++ flit ∷ []; rrp = rrp }) ∷ pieces
with_flit (Some part) number rrp flit pieces = pieces

-- what a sender sent, the newest first. A cut-through begins with no flit.
unfoldable pub pieces : Profile → List SenderEntry → List Piece
pieces profile [] = []
pieces profile (SenderEntry.sent given what.New flit ∷ past) =
    with_flit (unfinished past) (length (places profile past)) given.own.rrp flit
    (pieces profile past)
pieces profile (SenderEntry.sent given what.Again flit ∷ past) =
    with_flit (unfinished past) (position profile past) given.own.rrp flit (pieces profile past)
pieces profile (SenderEntry.sent given what.Tret flit ∷ past) =
    with_flit None (length (places profile past)) given.own.rrp flit (pieces profile past)
pieces profile (SenderEntry.sent given as_what flit ∷ past) =
    Piece.alone as_what given.own.rrp flit ∷ pieces profile past
pieces profile (SenderEntry.through head flits due ∷ past) =
    Piece.packet (record { number = length (places profile past); flits = []; rrp = 0 })
    ∷ pieces profile past
pieces profile (_ ∷ past) = pieces profile past

abbrev pub piece_flits : Piece → List (List ℕ)
piece_flits (Piece.alone as_what rrp flit) = flit ∷ []
piece_flits (Piece.packet sent) = sent.flits

-- the flits of these pieces, the oldest first
abbrev pub flits_of_pieces : List Piece → List (List ℕ)
flits_of_pieces [] = []
flits_of_pieces (piece ∷ past) = flits_of_pieces past ++ piece_flits piece

-- the flit that is sent alone as this, with the return pointer before it
abbrev pub alone_flit : Profile → What → (rrp : ℕ) → List ℕ
alone_flit profile what.Train rrp = training_flit
alone_flit profile what.Clear rrp = irtry_flit profile kinds.Clear rrp
alone_flit profile what.Start rrp = irtry_flit profile kinds.Start rrp
alone_flit profile what.Pret rrp = flit_of profile pret_packet rrp 0
alone_flit profile as_what rrp = zero_flit

-- A packet is whole: its flits are the spelling of its place, with the return pointer before the
-- last one, and the length in the first one is how many they are.
pub record IsWhole (profile : Profile) (l : List Place) (sent : Transmission) : Type 0 where
  pub of : PacketFields
  pub begun : sent.number < length l
  pub at : slice_index_or l sent.number (Place.known null_packet) ≡ Place.known of
  pub spelled : sent.flits ≡ spelling profile of sent.rrp
  pub cut : lng_of (slice_index_or sent.flits 0 []) ≡ length sent.flits

-- each piece is such a flit, or a whole packet
abbrev pub AreWhole : Profile → List Place → List Piece → Type 0
AreWhole profile l [] = Unit {0}
AreWhole profile l (Piece.alone as_what rrp flit ∷ pieces) =
    (flit ≡ alone_flit profile as_what rrp) × AreWhole profile l pieces
AreWhole profile l (Piece.packet sent ∷ pieces) =
    IsWhole profile l sent × AreWhole profile l pieces

-- The packet that was begun last isn't whole: what was sent of it is the beginning of the spelling
-- of its place, where the place has its packet.
pub record IsBeginning (profile : Profile) (l : List Place) (part : Part) (last : ℕ)
    (sent : Transmission) : Type 0 where
  pub number : suc sent.number ≡ last
  pub flits : sent.flits ≡ part.sent
  pub front : (of : PacketFields) →
      slice_index_or l sent.number (Place.known null_packet) ≡ Place.known of →
      sent.flits ≡ take (length sent.flits) (spelling profile of 0)

-- all pieces are whole, but for the last one while a packet is unfinished
abbrev pub ArePieces : Profile → List Place → Option Part → (last : ℕ) → List Piece → Type 0
ArePieces profile l None last pieces = AreWhole profile l pieces
ArePieces profile l (Some part) last [] = ⊥
ArePieces profile l (Some part) last (Piece.alone as_what rrp flit ∷ pieces) = ⊥
ArePieces profile l (Some part) last (Piece.packet sent ∷ pieces) =
    IsBeginning profile l part last sent × AreWhole profile l pieces

-- The wire of a direction: all flits that were sent in it are those of its pieces, one after the
-- other, so the flits of a packet stand together, and nothing stands between them; and only the
-- last packet may be unfinished.
pub record IsWire (link : LinkFields) (d : Toward) (past : List LinkEntry) : Type 0 where
  pub sent : map (λ (x : StampedFlit). x.flit) (sent_flits link.profile d past)
      ≡ flits_of_pieces (pieces link.profile (sender_entries link d past))
  pub whole : ArePieces link.profile (places_in link d past)
      (unfinished (sender_entries link d past))
      (last_begun link.profile (sender_entries link d past))
      (pieces link.profile (sender_entries link d past))
