-- What is accepted while it is forwarded: one packet, a request or an answer that is on its way. And
-- what is gathered is shorter than its first flit says.
use Rattle.std.proofs.Common.{◌≡◌, ◌≢◌, ◌≤◌, ◌<◌, ◌+◌, ◌∙◌, ◌==◌, ℕ, zero, suc, Bool, true, false, not, if◌then◌else◌, nat_le, nat_lt, Option, Some, None, Result, Ok, Err, List, [], ◌∷◌, ◌++◌, All, length, get_or, refl, sym, ap, subst, arith, eq-eqb, eqb-true, ltb-true}
use Rattle.std.proofs.lemmas.Bool.{le-leb, and_from}
use Rattle.std.specs.Prelude.{◌&&◌, filter}
use Rattle.std.specs.List.{concat}
use Rattle.std.proofs.lemmas.List.Elements.{All-head, All-same}
use Rattle.hmc_codes.specs.Bytes.{IsBytes}
use Rattle.hmc_codes.specs.Commands.{layout_of, is_flow}
use Rattle.hmc_codes.specs.Flit.{zero_flit, IsFlit}
use Rattle.hmc_codes.specs.declared.command.Command.{Command}
use Rattle.hmc_codes.specs.declared.layout.Layout.{Layout}
use Rattle.hmc_codes.specs.declared.layout.Layout.TheVariants as layouts
use Rattle.hmc_codes.specs.declared.place.Place.{Place as End}
use Rattle.hmc_codes.specs.declared.place.Place.TheVariants as ends
use Rattle.hmc_codes.specs.declared.profile.Profile.{Profile}
use Rattle.hmc_codes.proofs.BytesLemmas.{IsBytes-append, IsBytes-[]}
use Rattle.hmc_packet.specs.declared.bad.Bad.{Bad}
use Rattle.hmc_packet.specs.declared.bad.Bad.TheVariants as bads
use Rattle.hmc_packet.specs.declared.head.Head.{Head}
use Rattle.hmc_packet.specs.declared.kind.Kind.{Kind}
use Rattle.hmc_packet.specs.declared.outcome.Outcome.{Outcome}
use Rattle.hmc_packet.specs.declared.outcome.Outcome.TheVariants as outcomes
use Rattle.hmc_packet.specs.declared.seen.Seen.{Seen}
use Rattle.hmc_packet.specs.declared.view.Mode.{Mode}
use Rattle.hmc_packet.specs.declared.view.Mode.TheVariants as modes
use Rattle.hmc_packet.specs.Head.{head_in}
use Rattle.hmc_packet.specs.Irtry.{kind_of, irtry_in}
use Rattle.hmc_packet.specs.Landings.{ReceiverEntry, pending, packets_in, whole_run, whole_training, is_training}
use Rattle.hmc_packet.specs.Packet.{PacketFields, IsPacket}
use Rattle.hmc_packet.specs.Parts.{lng_of}
use Rattle.hmc_packet.specs.Reading.{is_null, read_of}
use Rattle.hmc_packet.specs.Receptions.{LandingView, checked, unchecked, abort_reception, is_next, is_repeat, packet_reception, read_reception, flits_reception, is_no_length, lng_with, mode_reception, landing_view, reception_by, reception_of}
use Rattle.hmc_packet.specs.Spelling.{FitsProfile, spelling}
use Rattle.hmc_packet.proofs.FlitLemmas.{AreFlits}
use Rattle.hmc_packet.proofs.LinkLemmas.{named_by-first}
use Rattle.hmc_packet.proofs.ReadOf.{read_of-found}
use Rattle.hmc_send.specs.LinkCalls.{names_flits}
use Rattle.hmc_send.specs.LinkEntries.{put_if}
use Rattle.hmc_send.specs.Places.{is_token}
use Rattle.hmc_send.proofs.CopyLemmas.{head-says}
use Rattle.hmc_entries.specs.declared.entry.Entry.{Entry}
use Rattle.hmc_entries.specs.declared.entry.Entry.TheVariants.{Gave, Sent, Landed, Shifted, Dropped, Spread, Executed, Lifted, Took, Discarded, Through, Unlocked, Retired, Passed, Idle}
use Rattle.hmc_journal.specs.Directions.{receiver_of, profile_of, landed_packets}
use Rattle.hmc_journal.specs.Links.{sizes_on}
use Rattle.hmc_journal.specs.Piped.{forwarded_onto}
use Rattle.hmc_journal.specs.Queues.QueueId.{Output}
use Rattle.hmc_journal.specs.Setup.{Setup, Topology, directions_in, end_of}
use Rattle.hmc_journal.proofs.EntryRule.{EntryRule, HasLanded}
use Rattle.hmc_laws.proofs.ForwardingPipes.{OnPipe, PipeKept, ArePiped, AreForwarding}
use Rattle.hmc_laws.proofs.ForwardingLandings.{GoodLanding}
use Rattle.hmc_laws.proofs.Piping.{each-push}
use Rattle.hmc_laws.proofs.PipeSteps.{ArePending}
use Rattle.hmc_journal.proofs.Projections.{received}
use Rattle.hmc_laws.proofs.Standing.{GoesTo, Stands}
use Rattle.hmc_journal.proofs.Packets.{head_lng}

-- ---- an accepted packet was read

pub record Reads (q : Profile) (flits : List (List ℕ)) : Type 0 where
  pub seen : Seen
  pub read : read_of q flits ≡ Ok seen
  pub clean : seen.packet.poisoned ≡ false
  pub other : layout_of seen.packet.command ≢ layouts.Null

sequenced_clean : (next poisoned repeat : Bool) → (if next then (if poisoned then outcomes.Poisoned else outcomes.Accepted) else (if repeat then outcomes.Repeat else outcomes.AbortedOrder)) ≡ outcomes.Accepted → poisoned ≡ false
sequenced_clean true true repeat is = absurd cc
sequenced_clean true false repeat is = refl
sequenced_clean false poisoned true is = absurd cc
sequenced_clean false poisoned false is = absurd cc

not_run : (whole : Bool) (kind : Kind) → (if whole then outcomes.Ran kind else outcomes.Quiet) ≡ outcomes.Accepted → ⊥
not_run true kind is = cc
not_run false kind is = cc

packet_clean : (q : Profile) (view : LandingView) (layout : Layout) (seen : Seen) → (packet_reception q view layout seen).outcome ≡ outcomes.Accepted → (seen.packet.poisoned ≡ false) × (layout ≢ layouts.Null)
packet_clean q view layouts.Null seen is = absurd (let clash : outcomes.Quiet ≡ outcomes.Accepted = is in cc)
packet_clean q view layouts.Pret seen is = absurd (let clash : outcomes.Quiet ≡ outcomes.Accepted = is in cc)
packet_clean q view layouts.Irtry seen is = absurd (not_run (view.run (kind_of seen.packet.frp) + 1 == whole_run) (kind_of seen.packet.frp) is)
packet_clean q view layouts.Tret seen is = (sequenced_clean (is_next q view seen.packet) seen.packet.poisoned (is_repeat q view seen.packet) is, λ same. cc)
packet_clean q view layouts.Ask seen is = (sequenced_clean (is_next q view seen.packet) seen.packet.poisoned (is_repeat q view seen.packet) is, λ same. cc)
packet_clean q view layouts.Reply seen is = (sequenced_clean (is_next q view seen.packet) seen.packet.poisoned (is_repeat q view seen.packet) is, λ same. cc)

read_by : (q : Profile) (view : LandingView) (flits : List (List ℕ)) (short : Bool) (found : Result Seen Bad) → read_of q flits ≡ found → (if short then unchecked outcomes.Gathered else read_reception q view found).outcome ≡ outcomes.Accepted → Reads q flits
read_by q view flits true found at is = absurd (let clash : outcomes.Gathered ≡ outcomes.Accepted = is in cc)
read_by q view flits false (Err bad) at is = absurd (let clash : outcomes.AbortedBad bad ≡ outcomes.Accepted = is in cc)
read_by q view flits false (Ok seen) at is =
    let clean = packet_clean q view (layout_of seen.packet.command) seen is in
    record { seen = seen; read = at; clean = clean.0; other = clean.1 }

good_by : (q : Profile) (view : LandingView) (flit : List ℕ) (null none : Bool)
    → (if null then checked outcomes.Quiet None else (if none then unchecked (outcomes.AbortedBad bads.Length) else flits_reception q view (lng_with view.pending flit) (view.pending ++ flit ∷ []))).outcome ≡ outcomes.Accepted → Reads q (view.pending ++ flit ∷ [])
good_by q view flit true none is = absurd (let clash : outcomes.Quiet ≡ outcomes.Accepted = is in cc)
good_by q view flit false true is = absurd (let clash : outcomes.AbortedBad bads.Length ≡ outcomes.Accepted = is in cc)
good_by q view flit false false is =
    read_by q view (view.pending ++ flit ∷ []) (nat_lt (length (view.pending ++ flit ∷ [])) (lng_with view.pending flit)) (read_of q (view.pending ++ flit ∷ [])) refl is

-- no flit is accepted, or gathered, outside of Good
pub record IsPart (o : Outcome) : Type 0 where
  pub accepted : o ≢ outcomes.Accepted
  pub gathered : o ≢ outcomes.Gathered

train_quiet : (trains whole : Bool) → IsPart (if trains then checked (if whole then outcomes.Trained else outcomes.Quiet) None else unchecked outcomes.Quiet).outcome
train_quiet true true = record { accepted = λ is. cc; gathered = λ is. cc }
train_quiet true false = record { accepted = λ is. cc; gathered = λ is. cc }
train_quiet false whole = record { accepted = λ is. cc; gathered = λ is. cc }

run_quiet : (whole : Bool) (kind : Kind) → IsPart (if whole then outcomes.Ran kind else outcomes.Quiet)
run_quiet true kind = record { accepted = λ is. cc; gathered = λ is. cc }
run_quiet false kind = record { accepted = λ is. cc; gathered = λ is. cc }

abort_quiet : (view : LandingView) (irtry : Option (Kind × ℕ)) → IsPart (abort_reception view irtry).outcome
abort_quiet view None = record { accepted = λ is. cc; gathered = λ is. cc }
abort_quiet view (Some irtry) = run_quiet (view.run irtry.0 + 1 == whole_run) irtry.0

mode_reads : (mode : Mode) (q : Profile) (view : LandingView) (flit : List ℕ) → (mode_reception mode q view flit).outcome ≡ outcomes.Accepted → Reads q (view.pending ++ flit ∷ [])
mode_reads modes.Train q view flit is = absurd ((train_quiet (is_training q flit) (view.training + 1 == whole_training)).accepted is)
mode_reads modes.Abort q view flit is = absurd ((abort_quiet view (irtry_in q flit)).accepted is)
mode_reads modes.Good q view flit is = good_by q view flit ((length view.pending == 0) && is_null flit) ((length view.pending == 0) && is_no_length (lng_of flit)) is

pub accepted_reads : (q : Profile) (past : List ReceiverEntry) (flit : List ℕ) → (reception_of q past flit).outcome ≡ outcomes.Accepted → Reads q (pending past ++ flit ∷ [])
unfolding reception_of reception_by landing_view
accepted_reads q past flit is = mode_reads (landing_view q past).mode q (landing_view q past) flit is

-- ---- what is gathered is short

abbrev pub IsShort : List (List ℕ) → Type 0
IsShort [] = Unit {0}
IsShort (first ∷ rest) = suc (length rest) < lng_of first

short-more : (before : List (List ℕ)) (flit : List ℕ) → length (before ++ flit ∷ []) < lng_with before flit → IsShort (before ++ flit ∷ [])
short-more [] flit less = less
short-more (first ∷ rest) flit less = less

sequenced_other : (next poisoned repeat : Bool) → (if next then (if poisoned then outcomes.Poisoned else outcomes.Accepted) else (if repeat then outcomes.Repeat else outcomes.AbortedOrder)) ≡ outcomes.Gathered → ⊥
sequenced_other true true repeat same = cc
sequenced_other true false repeat same = cc
sequenced_other false poisoned true same = cc
sequenced_other false poisoned false same = cc

packet_other : (q : Profile) (view : LandingView) (layout : Layout) (seen : Seen) → (packet_reception q view layout seen).outcome ≢ outcomes.Gathered
packet_other q view layouts.Null seen is = let clash : outcomes.Quiet ≡ outcomes.Gathered = is in cc
packet_other q view layouts.Pret seen is = let clash : outcomes.Quiet ≡ outcomes.Gathered = is in cc
packet_other q view layouts.Irtry seen is = (run_quiet (view.run (kind_of seen.packet.frp) + 1 == whole_run) (kind_of seen.packet.frp)).gathered is
packet_other q view layouts.Tret seen is = sequenced_other (is_next q view seen.packet) seen.packet.poisoned (is_repeat q view seen.packet) is
packet_other q view layouts.Ask seen is = sequenced_other (is_next q view seen.packet) seen.packet.poisoned (is_repeat q view seen.packet) is
packet_other q view layouts.Reply seen is = sequenced_other (is_next q view seen.packet) seen.packet.poisoned (is_repeat q view seen.packet) is

short_by : (q : Profile) (view : LandingView) (flits : List (List ℕ)) (lng : ℕ) (short : Bool) (found : Result Seen Bad) → nat_lt (length flits) lng ≡ short → (if short then unchecked outcomes.Gathered else read_reception q view found).outcome ≡ outcomes.Gathered → length flits < lng
short_by q view flits lng true found at is = ltb-true (length flits) lng at
short_by q view flits lng false (Err bad) at is = absurd (let clash : outcomes.AbortedBad bad ≡ outcomes.Gathered = is in cc)
short_by q view flits lng false (Ok seen) at is = absurd (packet_other q view (layout_of seen.packet.command) seen is)

good_short : (q : Profile) (view : LandingView) (flit : List ℕ) (null none : Bool)
    → (if null then checked outcomes.Quiet None else (if none then unchecked (outcomes.AbortedBad bads.Length) else flits_reception q view (lng_with view.pending flit) (view.pending ++ flit ∷ []))).outcome ≡ outcomes.Gathered → IsShort (view.pending ++ flit ∷ [])
good_short q view flit true none is = absurd (let clash : outcomes.Quiet ≡ outcomes.Gathered = is in cc)
good_short q view flit false true is = absurd (let clash : outcomes.AbortedBad bads.Length ≡ outcomes.Gathered = is in cc)
good_short q view flit false false is =
    let flits = view.pending ++ flit ∷ [] in
    let lng = lng_with view.pending flit in
    short-more view.pending flit (short_by q view flits lng (nat_lt (length flits) lng) (read_of q flits) refl is)

mode_short : (mode : Mode) (q : Profile) (view : LandingView) (flit : List ℕ) → (mode_reception mode q view flit).outcome ≡ outcomes.Gathered → IsShort (view.pending ++ flit ∷ [])
mode_short modes.Train q view flit is = absurd ((train_quiet (is_training q flit) (view.training + 1 == whole_training)).gathered is)
mode_short modes.Abort q view flit is = absurd ((abort_quiet view (irtry_in q flit)).gathered is)
mode_short modes.Good q view flit is = good_short q view flit ((length view.pending == 0) && is_null flit) ((length view.pending == 0) && is_no_length (lng_of flit)) is

gathered_short : (q : Profile) (past : List ReceiverEntry) (flit : List ℕ) → (reception_of q past flit).outcome ≡ outcomes.Gathered → IsShort (pending past ++ flit ∷ [])
unfolding reception_of reception_by landing_view
gathered_short q past flit is = mode_short (landing_view q past).mode q (landing_view q past) flit is

-- where a flit landed
pub landed_outcome : (setup : Setup) (past : List Entry) (d : ℕ) (flit : List ℕ) (outcome : Outcome) → HasLanded setup past d flit outcome → (reception_of (sizes_on setup.topology d).profile (receiver_of d past) flit).outcome ≡ outcome
landed_outcome setup past d flit outcome has =
    ap (λ (r : List ReceiverEntry). (reception_of (sizes_on setup.topology d).profile r flit).outcome) (received setup.topology d past) ∙ sym has.landing.outcome_is

-- what is gathered at the end of each direction is shorter than its first flit says
abbrev pub AreShort : List Entry → Type 0
AreShort past = (e : ℕ) → IsShort (pending (receiver_of e past))

short_landed : (q : Profile) (past : List ReceiverEntry) (flit : List ℕ) (outcome : Outcome) → (reception_of q past flit).outcome ≡ outcome → IsShort (pending (ReceiverEntry.Land flit outcome ∷ past))
unfolding pending
short_landed q past flit outcomes.Gathered is = gathered_short q past flit is
short_landed q past flit _ is = tt

short_unlocked : (past : List ReceiverEntry) → IsShort (pending (ReceiverEntry.Unlock ∷ past))
unfolding pending
short_unlocked past = tt

short_put : (here : Bool) (entry : ReceiverEntry) (past : List ReceiverEntry) → IsShort (pending past) → (here ≡ true → IsShort (pending (entry ∷ past))) → IsShort (pending (put_if here entry past))
short_put true entry past is now = now refl
short_put false entry past is now = is

pub short_step : (setup : Setup) (entry : Entry) (past : List Entry) → EntryRule setup past entry → AreShort past → AreShort (entry ∷ past)
unfolding receiver_of
short_step setup (Landed d flit outcome) past right short e =
    short_put (d == e) (ReceiverEntry.Land flit outcome) (receiver_of e past) (short e) (λ here.
    (subst (λ (n : ℕ). IsShort (pending (ReceiverEntry.Land flit outcome ∷ receiver_of n past))) (eqb-true d e here) (short_landed (sizes_on setup.topology d).profile (receiver_of d past) flit outcome (landed_outcome setup past d flit outcome right))))
short_step setup (Unlocked d) past right short e = short_put (d == e) ReceiverEntry.Unlock (receiver_of e past) (short e) (λ here. short_unlocked (receiver_of e past))
short_step setup (Gave host tag poisoned request) past right short e = short e
short_step setup (Sent d as_what flit) past right short e = short e
short_step setup (Shifted cube port goal) past right short e = short e
short_step setup (Dropped cube port) past right short e = short e
short_step setup (Spread cube vault bank) past right short e = short e
short_step setup (Executed unit host tag request answer) past right short e = short e
short_step setup (Lifted cube from port) past right short e = short e
short_step setup (Took host tag answer) past right short e = short e
short_step setup (Discarded host) past right short e = short e
short_step setup (Through cube port d) past right short e = short e
short_step setup (Retired slot) past right short e = short e
short_step setup (Passed d flit) past right short e = short e
short_step setup (Idle step cause) past right short e = short e

-- its first flit names more than one flit
pub names_more : (e : ℕ) (past : List Entry) (flit : List ℕ) (rest : List (List ℕ)) (head : Head) → AreShort past → pending (receiver_of e past) ≡ flit ∷ rest → head_in flit ≡ Some head → (names_flits (lng_of flit) (head_in flit) ≡ true) × (head.flits ≡ lng_of flit)
names_more e past flit rest head short came is =
    let less : suc (length rest) < lng_of flit = subst IsShort came (short e) in
    let long = head_lng flit head is in (
      ap (names_flits (lng_of flit)) is ∙ and_from (nat_le 2 (lng_of flit)) (head.flits == lng_of flit) (le-leb 2 (lng_of flit) (omega arith)) (eq-eqb head.flits (lng_of flit) long),
      long,
    )

-- ---- a packet that is accepted while it is forwarded

pub get-any : (l : List (List ℕ)) (i : ℕ) (a b : List ℕ) → i < length l → get_or l i a ≡ get_or l i b
get-any [] i a b lt = absurd (omega arith)
get-any (x ∷ l) zero a b lt = refl
get-any (x ∷ l) (suc i) a b lt = get-any l i a b (omega arith)

are_flits : (l : List (List ℕ)) → ((k : ℕ) → IsFlit (get_or l k zero_flit)) → AreFlits l
are_flits l each k lt = ap length (get-any l k [] zero_flit lt) ∙ (each k).long

are_bytes : (l : List (List ℕ)) → ((k : ℕ) → IsFlit (get_or l k zero_flit)) → IsBytes (concat l)
are_bytes [] each = IsBytes-[]
are_bytes (x ∷ l) each = IsBytes-append x (concat l) (each 0).bytes (are_bytes l (λ k. each (suc k)))

-- its first flit names a request or an answer
first_named : (q : Profile) (p : PacketFields) (rrp : ℕ) (before : List (List ℕ)) (flit : List ℕ) (head : Head) → IsPacket p → FitsProfile q p rrp → layout_of p.command ≢ layouts.Null → before ++ flit ∷ [] ≡ spelling q p rrp → 1 ≤ length before → head_in (get_or before 0 zero_flit) ≡ Some head
    → is_flow (layout_of p.command) ≡ false
first_named q p rrp [] flit head is fits other spelled some reads = absurd (omega arith)
first_named q p rrp (first ∷ rest) flit head is fits other spelled some reads =
    let says = head-says first head (sym reads) in
    let named = named_by-first q p rrp first (rest ++ flit ∷ []) is fits other (sym spelled) in
    let same : p.command ≡ head.command = same_command p.command head.command (sym named ∙ says.names) in
    ap (λ (c : Command). is_flow (layout_of c)) same ∙ says.no_flow
  where
    same_command : (a b : Command) → Some a ≡ Some b → a ≡ b
    same_command a b one = cc

-- what lands
pub record LandsOne (setup : Setup) (past : List Entry) (d : ℕ) (flit : List ℕ) : Type 0 where
  pub packet : PacketFields
  pub is : filter is_token (landed_packets setup.topology d flit outcomes.Accepted past) ≡ packet ∷ []
  pub clean : packet.poisoned ≡ false
  pub rrp : ℕ
  pub fits : FitsProfile (profile_of setup.topology d) packet rrp
  pub spelled : pending (receiver_of d past) ++ flit ∷ [] ≡ spelling (profile_of setup.topology d) packet rrp
  pub cube : ℕ
  pub port : ℕ
  pub lands : end_of setup.topology d ≡ ends.Port cube port

landed_is : (topology : Topology) (d : ℕ) (flit : List ℕ) (past : List Entry) (seen : Seen) → read_of (profile_of topology d) (pending (receiver_of d past) ++ flit ∷ []) ≡ Ok seen → landed_packets topology d flit outcomes.Accepted past ≡ seen.packet ∷ []
unfolding landed_packets
landed_is topology d flit past seen is = ap packets_in is

pub lands_one : (setup : Setup) (past : List Entry) (d onto : ℕ) (flit : List ℕ) → (reception_of (sizes_on setup.topology d).profile (receiver_of d past) flit).outcome ≡ outcomes.Accepted → IsFlit flit → ArePending setup.topology past → ArePiped setup.topology past → AreForwarding setup.topology past → d < directions_in setup.topology
    → forwarded_onto setup.topology d past ≡ Some onto → LandsOne setup past d flit
lands_one setup past d onto flit accepts is_flit pendings piped forwarding less is =
    let t = setup.topology in
    let q = profile_of t d in
    let before = pending (receiver_of d past) in
    let flits = before ++ flit ∷ [] in
    let reads = accepted_reads q (receiver_of d past) flit accepts in
    let each : (k : ℕ) → IsFlit (get_or flits k zero_flit) = each-push before flit (pendings d) is_flit in
    let found = read_of-found q flits reads.seen (are_flits flits each) (λ null. are_bytes flits each) reads.read in
    let forward = forwarding d onto less is in
    let kept : PipeKept t past onto forward.pipe = subst (OnPipe t past onto) forward.is (piped onto) in
    let came : forward.pipe.pipe.came ≡ before = (kept.gathering forward.gathers).came ∙ ap (λ (n : ℕ). pending (receiver_of n past)) forward.from in
    let long = ap length came in
    let some = kept.some in
    let head : head_in (get_or before 0 zero_flit) ≡ Some kept.way.head = ap (λ (l : List (List ℕ)). head_in (get_or l 0 zero_flit)) (sym came) ∙ kept.way.is_head in
    let no_flow = first_named q reads.seen.packet reads.seen.rrp before flit kept.way.head found.packet found.pointer reads.other found.spelled (omega arith) head in record {
      packet = reads.seen.packet;
      is = ap (filter is_token) (landed_is t d flit past reads.seen reads.read) ∙ ap (λ (b : Bool). if not b then reads.seen.packet ∷ [] else []) no_flow;
      clean = reads.clean;
      rrp = reads.seen.rrp;
      fits = found.pointer;
      spelled = found.spelled;
      cube = kept.way.cube;
      port = kept.way.port;
      lands = ap (end_of t) (sym forward.from) ∙ kept.way.lands;
    }

-- so it is good
pub one_good : (setup : Setup) (past : List Entry) (d : ℕ) (flit : List ℕ) → LandsOne setup past d flit → All (Stands setup.topology (Output d)) (filter is_token (landed_packets setup.topology d flit outcomes.Accepted past)) → GoodLanding setup.topology past d flit
one_good setup past d flit one all =
    let stands = All-head (Stands setup.topology (Output d)) one.packet [] (All-same (Stands setup.topology (Output d)) _ _ (sym one.is) all) in record {
      packet = one.packet;
      moving = subst (λ (p : End). GoesTo setup.topology p one.packet) one.lands stands.goes;
      clean = one.clean;
      rrp = one.rrp;
      fits = one.fits;
      spelled = one.spelled;
    }
