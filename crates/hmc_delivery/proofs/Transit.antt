-- Where no flit is in transit each request and answer that was begun is accepted.
use Rattle.std.proofs.Common.{◌≡◌, ◌≤◌, ◌+◌, ◌∙◌, inl, inr, ℕ, zero, suc, Bool, true, false, if◌then◌else◌, List, [], ◌∷◌, ◌++◌, length, map, drop, refl, sym, ap, subst, arith}
use Rattle.std.specs.Prelude.{filter, Option}
use Rattle.std.proofs.lemmas.List.{take-append-drop, drop_at}
use Rattle.std.proofs.lemmas.List.Elements.{filter-append}
use Rattle.std.proofs.lemmas.List.Sums.{sum_by-cons, sum_by-append}
use Rattle.hmc_codes.specs.declared.profile.Profile.{Profile}
use Rattle.hmc_packet.specs.Landings as packets
use Rattle.hmc_packet.specs.Packet.{PacketFields, flits_of}
use Rattle.hmc_send.specs.LinkEntries.{accepted_packets}
use Rattle.hmc_send.specs.LinkSenders.{tokens}
use Rattle.hmc_send.specs.LinkTokens.{flits_begun, flits_accepted}
use Rattle.hmc_send.specs.Places as places
use Rattle.hmc_send.specs.Places.{Place, flits_at, takes_tokens, is_token}
use Rattle.hmc_wire.specs.LinkLaws.{IsKept}
use Rattle.hmc_wire.proofs.Filled.{heads}
use Rattle.hmc_wire.proofs.LawsHold.{direction-laws}
use Rattle.hmc_wire.proofs.OpenPlaces.{AreKnown, open_place}
use Rattle.hmc_entries.specs.declared.entry.Entry.{Entry}
use Rattle.hmc_journal.specs.Directions.{profile_of}
use Rattle.hmc_journal.specs.Links.{toward, sizes_on, entries_on}
use Rattle.hmc_journal.specs.Piped.{PipeFrom, pipe_onto}
use Rattle.hmc_journal.specs.Setup.{Topology}
use Rattle.hmc_laws.proofs.KnownCopies.{known_of, known_in, known_in-append, known_in-packets, with-known}
use Rattle.hmc_journal.proofs.LinkKept.{opened}
use Rattle.hmc_delivery.proofs.Underway.{places_on, line_on}
use Rattle.hmc_laws.proofs.Entering.{accepted_are}

-- the flits of the places are those of their packets
known_flits : (packets : List PacketFields) → flits_begun (map Place.known packets) ≡ flits_accepted packets
known_flits [] = refl
known_flits (packet ∷ rest) = by_test (is_token packet) (filter takes_tokens (map Place.known rest)) (filter is_token rest) (known_flits rest)
  where
    by_test : (token : Bool) (l : List Place) (m : List PacketFields) → places.flits_in l ≡ packets.flits_in m
        → places.flits_in (if token then Place.known packet ∷ l else l) ≡ packets.flits_in (if token then packet ∷ m else m)
    by_test true l m same = sum_by-cons flits_at (Place.known packet) l ∙ ap (λ (n : ℕ). flits_of packet + n) same ∙ sym (sum_by-cons flits_of packet m)
    by_test false l m same = same

begun-append : (xs ys : List Place) → flits_begun (xs ++ ys) ≡ flits_begun xs + flits_begun ys
begun-append xs ys = ap places.flits_in (filter-append takes_tokens xs ys) ∙ sum_by-append flits_at (filter takes_tokens xs) (filter takes_tokens ys)

-- an open place has flits
abbrev AreSome : List Place → Type 0
AreSome [] = Unit {0}
AreSome (Place.known packet ∷ places) = AreSome places
AreSome (Place.awaited head count numbers ∷ places) = (1 ≤ count) × AreSome places

some_known : (l : List Place) → AreKnown l → AreSome l
some_known [] known = tt
some_known (Place.known packet ∷ l) known = some_known l known.1
some_known (Place.awaited head count numbers ∷ l) known = absurd (let clash : true ≡ false = known.0 in cc)

some_append : (xs ys : List Place) → AreSome xs → AreSome ys → AreSome (xs ++ ys)
some_append [] ys some more = more
some_append (Place.known packet ∷ xs) ys some more = some_append xs ys some more
some_append (Place.awaited head count numbers ∷ xs) ys some more = (some.0, some_append xs ys some.1 more)

some_drop : (n : ℕ) (l : List Place) → AreSome l → AreSome (drop n l)
some_drop zero l some = some
some_drop (suc n) [] some = tt
some_drop (suc n) (Place.known packet ∷ l) some = some_drop n l some
some_drop (suc n) (Place.awaited head count numbers ∷ l) some = some_drop n l some.1

are_some : (topology : Topology) (d : ℕ) (past : List Entry) → IsKept (sizes_on topology d) (entries_on topology d past) → AreSome (places_on topology d past)
are_some topology d past kept =
    elim (opened (sizes_on topology d) (toward d) (entries_on topology d past) kept) [
      | inl known ↦ some_known (places_on topology d past) known
      | inr o ↦
          let h = heads o.count o.head o.names in
          let many = h.some in
          subst AreSome (sym o.places) (some_append o.before (open_place o ∷ []) (some_known o.before o.known) (omega arith, tt))
    ]

-- places of no flits have no request and no answer
no_flits : (q : Profile) (pipe : Option PipeFrom) (l : List Place) → AreSome l → flits_begun l ≡ 0 → filter is_token (known_in q pipe l) ≡ []
no_flits q pipe [] some none = refl
no_flits q pipe (Place.known packet ∷ l) some none =
    ap (λ (x : Place). filter is_token (known_of x ++ known_in q pipe l)) (with-known q pipe packet) ∙ by_test (is_token packet) refl (no_flits q pipe l some) none
  where
    by_test : (token : Bool) → is_token packet ≡ token → (flits_begun l ≡ 0 → filter is_token (known_in q pipe l) ≡ []) → places.flits_in (if token then Place.known packet ∷ filter takes_tokens l else filter takes_tokens l) ≡ 0
        → (if token then packet ∷ filter is_token (known_in q pipe l) else filter is_token (known_in q pipe l)) ≡ []
    by_test true is later much = absurd (omega (arith, sum_by-cons flits_at (Place.known packet) (filter takes_tokens l)))
    by_test false is later rest = later rest
no_flits q pipe (Place.awaited head count numbers ∷ l) some none =
    let one = some.0 in absurd (omega (arith, sum_by-cons flits_at (Place.awaited head count numbers) (filter takes_tokens l)))

pub none_in_transit : (topology : Topology) (d : ℕ) (past : List Entry) → IsKept (sizes_on topology d) (entries_on topology d past) → (tokens (sizes_on topology d) (toward d) (entries_on topology d past)).transit ≡ 0 → filter is_token (line_on topology d past) ≡ []
unfolding tokens
none_in_transit topology d past kept transit =
    let link = sizes_on topology d in
    let q = profile_of topology d in
    let pipe = pipe_onto topology d past in
    let l = places_on topology d past in
    let was = accepted_packets link.profile (toward d) (entries_on topology d past) in
    let n = length was in
    let laws = direction-laws link (toward d) (entries_on topology d past) kept in
    let split : l ≡ map Place.known was ++ drop n l = sym (take-append-drop n l) ∙ ap (λ (k : List Place). k ++ drop n l) (sym laws.accepted) in
    let total : flits_begun l ≡ flits_accepted was + flits_begun (drop n l) = ap flits_begun split ∙ begun-append (map Place.known was) (drop n l) ∙ ap (λ (k : ℕ). k + flits_begun (drop n l)) (known_flits was) in
    let rest : known_in q pipe l ≡ was ++ known_in q pipe (drop n l) =
    ap (known_in q pipe) split ∙ known_in-append q pipe (map Place.known was) (drop n l) ∙ ap (λ (k : List PacketFields). k ++ known_in q pipe (drop n l)) (known_in-packets q pipe was) in
    let line : line_on topology d past ≡ known_in q pipe (drop n l) =
    ap (λ (k : List PacketFields). drop (length k) (known_in q pipe l)) (accepted_are topology d past) ∙ ap (drop n) rest ∙ drop_at was (known_in q pipe (drop n l)) n refl in
    ap (filter is_token) line ∙ no_flits q pipe (drop n l) (some_drop n l (are_some topology d past kept)) (omega arith)
