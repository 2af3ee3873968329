-- What each entry of a link does to the lists of its two directions.
use Rattle.std.proofs.Common.{◌≡◌, ◌∙◌, ℕ, true, List, [], ◌∷◌, ◌++◌, length, drop, map, refl, sym, ap, subst}
use Rattle.std.specs.Prelude.{filter, slice_get}
use Rattle.hmc_codes.specs.Link.{LinkFields}
use Rattle.hmc_packet.specs.declared.feed.Feed.{Feed}
use Rattle.hmc_packet.specs.declared.outcome.Outcome.{Outcome}
use Rattle.hmc_packet.specs.declared.what.What.{What}
use Rattle.hmc_packet.specs.Landings.{pending, accepted, accepted_by}
use Rattle.hmc_packet.specs.Landings.ReceiverEntry.{Land}
use Rattle.hmc_packet.specs.Packet.{PacketFields}
use Rattle.hmc_packet.specs.Receptions.{reception_of}
use Rattle.hmc_send.specs.Entries.{places, taken_fronts}
use Rattle.hmc_send.specs.LinkCalls.{IsLawful}
use Rattle.hmc_send.specs.LinkEntries.{LinkEntry, other, receiver_entries, accepted_packets, handed_packets}
use Rattle.hmc_send.specs.LinkLines.{line}
use Rattle.hmc_send.specs.LinkSenders.{sender_entries, due_after, given_after, given_in, places_in, queue_in}
use Rattle.hmc_send.specs.Places.{Place, pointer_of, number_of, numbers_after, is_token}
use Rattle.hmc_send.specs.declared.toward.Toward.{Toward}
use Rattle.hmc_send.specs.declared.toward.Toward.TheVariants.{Forth, Back}
use Rattle.hmc_send.proofs.LinkLawful.{lawful-handed}
use Rattle.hmc_tokens.specs.Account.{code_for}
use Rattle.hmc_wire.specs.Conditions.{AreMet, AreHanded, AreFed}
use Rattle.hmc_wire.specs.LinkLaws.{IsKept, Put, puts, begun_puts}
use Rattle.hmc_wire.specs.LinkLaws.Put.{put_packet, put_through}
use Rattle.hmc_wire.proofs.Agreements.{landed-fed}
use Rattle.hmc_ends.specs.Landings.{stored, landing_in, entry_landed}
use Rattle.hmc_ends.specs.List.{handed_list, list_by, list_sent, listed_packet, listed_open, leaves}
use Rattle.hmc_ends.proofs.Acknowledges.{accepted-known}
use Rattle.hmc_ends.proofs.Arrivals.{accepted-same}
use Rattle.hmc_ends.proofs.Fed.{sender-is}
use Rattle.hmc_ends.proofs.LandStands.{places-landed, fronts-landed}
use Rattle.hmc_ends.proofs.ListSteps.{queue-by, list-waits, list-step, list-begun, list-accepted}
use Rattle.hmc_wire.proofs.EntryTurns.{kept-before}
use Rattle.hmc_wire.proofs.LawsHold.{direction-laws}
use Rattle.hmc_ends.proofs.Simple.{accepted-unlock}

-- ---- the entries before the last one

met-before : (link : LinkFields) (entry : LinkEntry) (past : List LinkEntry) → AreMet link (entry ∷ past) → AreMet link past
unfolding AreHanded AreFed sender_entries
met-before link (LinkEntry.handed d packet) past met = record { handed = met.handed.1; forth = met.forth; back = met.back }
met-before link (LinkEntry.taken d) past met = record { handed = met.handed; forth = met.forth; back = met.back }
met-before link (LinkEntry.unlocked d) past met = record { handed = met.handed; forth = met.forth; back = met.back }
met-before link (LinkEntry.sent Forth feed w flit) past met = record { handed = met.handed; forth = met.forth.2; back = met.back }
met-before link (LinkEntry.sent Back feed w flit) past met = record { handed = met.handed; forth = met.forth; back = met.back.2 }
met-before link (LinkEntry.landed Forth mask flit o) past met = record { handed = met.handed; forth = met.forth; back = landed-fed link.profile o (reception_of link.profile (receiver_entries Forth past) flit).rrp (slice_get (line link.profile Forth past) 0) (sender_entries link Back past) met.back }
met-before link (LinkEntry.landed Back mask flit o) past met = record { handed = met.handed; forth = landed-fed link.profile o (reception_of link.profile (receiver_entries Back past) flit).rrp (slice_get (line link.profile Back past) 0) (sender_entries link Forth past) met.forth; back = met.back }
met-before link (LinkEntry.through Forth head flits) past met = record { handed = met.handed; forth = met.forth.1; back = met.back }
met-before link (LinkEntry.through Back head flits) past met = record { handed = met.handed; forth = met.forth; back = met.back.1 }

-- ---- what is handed takes tokens

abbrev AreTokens : List Put → Type 0
AreTokens [] = Unit {0}
AreTokens (put_packet packet ∷ rest) = (is_token packet ≡ true) × AreTokens rest
AreTokens (put_through head flits ∷ rest) = AreTokens rest

tokens-push : (l : List Put) (packet : PacketFields) → AreTokens l → is_token packet ≡ true → AreTokens (l ++ put_packet packet ∷ [])
tokens-push [] packet all is = (is, tt)
tokens-push (put_packet p ∷ l) packet all is = (all.0, tokens-push l packet all.1 is)
tokens-push (put_through head flits ∷ l) packet all is = tokens-push l packet all is

tokens-open : (l : List Put) (head : List ℕ) (flits : ℕ) → AreTokens l → AreTokens (l ++ put_through head flits ∷ [])
tokens-open [] head flits all = tt
tokens-open (put_packet p ∷ l) head flits all = (all.0, tokens-open l head flits all.1)
tokens-open (put_through h n ∷ l) head flits all = tokens-open l head flits all

tokens-last : (l m : List Put) → AreTokens (l ++ m) → AreTokens m
tokens-last [] m all = all
tokens-last (put_packet p ∷ l) m all = tokens-last l m all.1
tokens-last (put_through h n ∷ l) m all = tokens-last l m all

put-tokens : (link : LinkFields) (d : Toward) (past : List LinkEntry) → IsLawful link past → AreTokens (puts d past)
unfolding IsLawful puts
put-tokens link d [] lawful = tt
put-tokens link Forth (LinkEntry.handed Forth packet ∷ past) lawful = tokens-push (puts Forth past) packet (put-tokens link Forth past lawful.1) (lawful-handed link past Forth packet lawful).1
put-tokens link Forth (LinkEntry.handed Back packet ∷ past) lawful = put-tokens link Forth past lawful.1
put-tokens link Back (LinkEntry.handed Forth packet ∷ past) lawful = put-tokens link Back past lawful.1
put-tokens link Back (LinkEntry.handed Back packet ∷ past) lawful = tokens-push (puts Back past) packet (put-tokens link Back past lawful.1) (lawful-handed link past Back packet lawful).1
put-tokens link Forth (LinkEntry.through Forth head flits ∷ past) lawful = tokens-open (puts Forth past) head flits (put-tokens link Forth past lawful.1)
put-tokens link Forth (LinkEntry.through Back head flits ∷ past) lawful = put-tokens link Forth past lawful.1
put-tokens link Back (LinkEntry.through Forth head flits ∷ past) lawful = put-tokens link Back past lawful.1
put-tokens link Back (LinkEntry.through Back head flits ∷ past) lawful = tokens-open (puts Back past) head flits (put-tokens link Back past lawful.1)
put-tokens link d (LinkEntry.taken way ∷ past) lawful = put-tokens link d past lawful.1
put-tokens link d (LinkEntry.unlocked way ∷ past) lawful = put-tokens link d past lawful.1
put-tokens link d (LinkEntry.sent way feed w flit ∷ past) lawful = put-tokens link d past lawful.1
put-tokens link d (LinkEntry.landed way mask flit o ∷ past) lawful = put-tokens link d past lawful.1

waiting-token : (link : LinkFields) (d : Toward) (past : List LinkEntry) → IsKept link past → (packet : PacketFields) (rest : List PacketFields) → queue_in link d past ≡ packet ∷ rest → is_token packet ≡ true
waiting-token link d past kept packet rest is =
    let all = subst AreTokens (sym (direction-laws link d past kept).queued) (put-tokens link d past kept.lawful) in
    let waits = tokens-last (begun_puts (sender_entries link d past)) (map put_packet (queue_in link d past)) all in
    (subst (λ (l : List PacketFields). AreTokens (map put_packet l)) is waits).0

-- ---- a packet is handed

pub list-handed : (link : LinkFields) (d : Toward) (packet : PacketFields) (past : List LinkEntry) → IsKept link (LinkEntry.handed d packet ∷ past) → handed_list link d (LinkEntry.handed d packet ∷ past) ≡ handed_list link d past ++ listed_packet packet ∷ []
unfolding sender_entries receiver_entries puts
list-handed link Forth packet past kept =
    let laws = direction-laws link Forth past (kept-before link (LinkEntry.handed Forth packet) past kept) in
    let more = direction-laws link Forth (LinkEntry.handed Forth packet ∷ past) kept in
    let n = length (accepted_packets link.profile Forth past) in
    let l = places_in link Forth past in
    let queue = queue-by (begun_puts (sender_entries link Forth past)) (queue_in link Forth past) (queue_in link Forth (LinkEntry.handed Forth packet ∷ past)) packet (more.queued ∙ ap (λ (t : List Put). t ++ put_packet packet ∷ []) (sym laws.queued)) in
    ap (list_by n l) queue ∙ list-waits n l (queue_in link Forth past) packet
list-handed link Back packet past kept =
    let laws = direction-laws link Back past (kept-before link (LinkEntry.handed Back packet) past kept) in
    let more = direction-laws link Back (LinkEntry.handed Back packet ∷ past) kept in
    let n = length (accepted_packets link.profile Back past) in
    let l = places_in link Back past in
    let queue = queue-by (begun_puts (sender_entries link Back past)) (queue_in link Back past) (queue_in link Back (LinkEntry.handed Back packet ∷ past)) packet (more.queued ∙ ap (λ (t : List Put). t ++ put_packet packet ∷ []) (sym laws.queued)) in
    ap (list_by n l) queue ∙ list-waits n l (queue_in link Back past) packet

-- ---- a flit is sent

pub list-sent : (link : LinkFields) (d : Toward) (feed : Feed) (w : What) (flit : List ℕ) (past : List LinkEntry) → IsKept link (LinkEntry.sent d feed w flit ∷ past) → handed_list link d (LinkEntry.sent d feed w flit ∷ past) ≡ list_sent link d past feed w
unfolding sender_entries receiver_entries puts handed_packets given_after AreFed
list-sent link Forth feed w flit past kept =
    let before = kept-before link (LinkEntry.sent Forth feed w flit) past kept in
    let laws = direction-laws link Forth past before in
    let more = direction-laws link Forth (LinkEntry.sent Forth feed w flit ∷ past) kept in
    list-step link.profile link.retry (length (accepted_packets link.profile Forth past)) (sender_entries link Forth past) (given_in link Forth past feed) w flit (queue_in link Forth past) (queue_in link Forth (LinkEntry.sent Forth feed w flit ∷ past)) (record {
      sender = sender-is link Forth past before;
      few = laws.begun;
      known = accepted-known link Forth past laws;
      fed = kept.met.forth.0;
      feed = kept.met.forth.1;
      queue = laws.queued ∙ sym more.queued;
      tokens = waiting-token link Forth past before;
    })
list-sent link Back feed w flit past kept =
    let before = kept-before link (LinkEntry.sent Back feed w flit) past kept in
    let laws = direction-laws link Back past before in
    let more = direction-laws link Back (LinkEntry.sent Back feed w flit ∷ past) kept in
    list-step link.profile link.retry (length (accepted_packets link.profile Back past)) (sender_entries link Back past) (given_in link Back past feed) w flit (queue_in link Back past) (queue_in link Back (LinkEntry.sent Back feed w flit ∷ past)) (record {
      sender = sender-is link Back past before;
      few = laws.begun;
      known = accepted-known link Back past laws;
      fed = kept.met.back.0;
      feed = kept.met.back.1;
      queue = laws.queued ∙ sym more.queued;
      tokens = waiting-token link Back past before;
    })

-- ---- a cut-through is begun

pub list-through : (link : LinkFields) (d : Toward) (head : List ℕ) (flits : ℕ) (past : List LinkEntry) → IsKept link (LinkEntry.through d head flits ∷ past) → handed_list link d (LinkEntry.through d head flits ∷ past) ≡ handed_list link d past ++ listed_open head flits ∷ []
unfolding sender_entries receiver_entries handed_packets puts begun_puts places taken_fronts
list-through link Forth head flits past kept =
    let laws = direction-laws link Forth past (kept-before link (LinkEntry.through Forth head flits) past kept) in
    let more = direction-laws link Forth (LinkEntry.through Forth head flits ∷ past) kept in
    let l = places_in link Forth past in
    list-begun (begun_puts (sender_entries link Forth past)) (length (accepted_packets link.profile Forth past)) l (Place.awaited head flits (numbers_after link.profile (pointer_of link.profile l) (number_of l) flits (code_for (due_after link Back past (sender_entries link Forth past))))) head flits (queue_in link Forth past) laws.begun refl
    (more.queued ∙ ap (λ (t : List Put). t ++ put_through head flits ∷ []) (sym laws.queued))
list-through link Back head flits past kept =
    let laws = direction-laws link Back past (kept-before link (LinkEntry.through Back head flits) past kept) in
    let more = direction-laws link Back (LinkEntry.through Back head flits ∷ past) kept in
    let l = places_in link Back past in
    list-begun (begun_puts (sender_entries link Back past)) (length (accepted_packets link.profile Back past)) l (Place.awaited head flits (numbers_after link.profile (pointer_of link.profile l) (number_of l) flits (code_for (due_after link Forth past (sender_entries link Back past))))) head flits (queue_in link Back past) laws.begun refl
    (more.queued ∙ ap (λ (t : List Put). t ++ put_through head flits ∷ []) (sym laws.queued))

-- ---- a flit lands

-- the requests and responses that it accepts are the first of the list
pub list-landed : (link : LinkFields) (d : Toward) (mask flit : List ℕ) (o : Outcome) (past : List LinkEntry) → IsKept link (LinkEntry.landed d mask flit o ∷ past) →
    handed_list link d past ≡ map listed_packet (filter is_token (accepted_by link.profile (pending (receiver_entries d past)) (Land flit o))) ++ handed_list link d (LinkEntry.landed d mask flit o ∷ past)
unfolding sender_entries receiver_entries handed_packets accepted
list-landed link Forth mask flit o past kept =
    let laws = direction-laws link Forth past (kept-before link (LinkEntry.landed Forth mask flit o) past kept) in
    let more = direction-laws link Forth (LinkEntry.landed Forth mask flit o ∷ past) kept in
    list-accepted (accepted_packets link.profile Forth past) (accepted_by link.profile (pending (receiver_entries Forth past)) (Land flit o)) (accepted_packets link.profile Forth (LinkEntry.landed Forth mask flit o ∷ past)) (places_in link Forth past) (queue_in link Forth past) refl laws.accepted more.accepted
list-landed link Back mask flit o past kept =
    let laws = direction-laws link Back past (kept-before link (LinkEntry.landed Back mask flit o) past kept) in
    let more = direction-laws link Back (LinkEntry.landed Back mask flit o ∷ past) kept in
    list-accepted (accepted_packets link.profile Back past) (accepted_by link.profile (pending (receiver_entries Back past)) (Land flit o)) (accepted_packets link.profile Back (LinkEntry.landed Back mask flit o ∷ past)) (places_in link Back past) (queue_in link Back past) refl laws.accepted more.accepted

-- and these are what it gives
pub list-gives : (link : LinkFields) (d : Toward) (mask flit : List ℕ) (past : List LinkEntry) → IsKept link (entry_landed link d past mask flit ∷ past) →
    handed_list link d past ≡ map listed_packet (stored (landing_in link d past flit)) ++ handed_list link d (entry_landed link d past mask flit ∷ past)
list-gives link d mask flit past kept =
    let o = (reception_of link.profile (receiver_entries d past) flit).outcome in
    let after = handed_list link d (entry_landed link d past mask flit ∷ past) in
    list-landed link d mask flit o past kept
    ∙ ap (λ (l : List PacketFields). map listed_packet (filter is_token l) ++ after) (accepted-same link.profile (receiver_entries d past) flit)

-- ---- the other direction, and the other entries

landed-over : (link : LinkFields) (d : Toward) (mask flit : List ℕ) (o : Outcome) (past : List LinkEntry) → handed_list link d (LinkEntry.landed (other d) mask flit o ∷ past) ≡ handed_list link d past
unfolding sender_entries receiver_entries handed_packets
landed-over link Forth mask flit o past =
    let rrp = (reception_of link.profile (receiver_entries Back past) flit).rrp in
    let front = slice_get (line link.profile Back past) 0 in
    let t = sender_entries link Forth past in
    λ i. list_by (length (accepted_packets link.profile Forth past)) (places-landed link.profile o rrp front t i) (drop (fronts-landed o rrp front t i) (handed_packets Forth past))
landed-over link Back mask flit o past =
    let rrp = (reception_of link.profile (receiver_entries Forth past) flit).rrp in
    let front = slice_get (line link.profile Forth past) 0 in
    let t = sender_entries link Back past in
    λ i. list_by (length (accepted_packets link.profile Back past)) (places-landed link.profile o rrp front t i) (drop (fronts-landed o rrp front t i) (handed_packets Back past))

unlocked-over : (link : LinkFields) (d way : Toward) (past : List LinkEntry) → handed_list link d (LinkEntry.unlocked way ∷ past) ≡ handed_list link d past
unfolding sender_entries receiver_entries handed_packets
unlocked-over link Forth Forth past = ap (λ (l : List PacketFields). list_by (length l) (places_in link Forth past) (queue_in link Forth past)) (accepted-unlock link.profile (receiver_entries Forth past))
unlocked-over link Forth Back past = refl
unlocked-over link Back Forth past = refl
unlocked-over link Back Back past = ap (λ (l : List PacketFields). list_by (length l) (places_in link Back past) (queue_in link Back past)) (accepted-unlock link.profile (receiver_entries Back past))

pub list-over : (link : LinkFields) (d : Toward) (entry : LinkEntry) (past : List LinkEntry) → leaves d entry ≡ true → handed_list link d (entry ∷ past) ≡ handed_list link d past
unfolding sender_entries receiver_entries handed_packets
list-over link d (LinkEntry.taken way) past is = refl
list-over link d (LinkEntry.unlocked way) past is = unlocked-over link d way past
list-over link Forth (LinkEntry.handed Back packet) past is = refl
list-over link Back (LinkEntry.handed Forth packet) past is = refl
list-over link Forth (LinkEntry.sent Back feed w flit) past is = refl
list-over link Back (LinkEntry.sent Forth feed w flit) past is = refl
list-over link Forth (LinkEntry.through Back head flits) past is = refl
list-over link Back (LinkEntry.through Forth head flits) past is = refl
list-over link Forth (LinkEntry.landed Back mask flit o) past is = landed-over link Forth mask flit o past
list-over link Back (LinkEntry.landed Forth mask flit o) past is = landed-over link Back mask flit o past
list-over link Forth (LinkEntry.handed Forth packet) past is = absurd cc
list-over link Back (LinkEntry.handed Back packet) past is = absurd cc
list-over link Forth (LinkEntry.sent Forth feed w flit) past is = absurd cc
list-over link Back (LinkEntry.sent Back feed w flit) past is = absurd cc
list-over link Forth (LinkEntry.through Forth head flits) past is = absurd cc
list-over link Back (LinkEntry.through Back head flits) past is = absurd cc
list-over link Forth (LinkEntry.landed Forth mask flit o) past is = absurd cc
list-over link Back (LinkEntry.landed Back mask flit o) past is = absurd cc
