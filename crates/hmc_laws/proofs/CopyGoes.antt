-- Where the copy of a packet goes that was forwarded: where the packet was accepted as that packet, and
-- else it is poisoned, and has the goal of its head.
use Rattle.std.proofs.Common.{◌≡◌, ◌≤◌, ◌<◌, ◌∙◌, ◌-◌, ◌==◌, inl, inr, ℕ, suc, Bool, true, false, not, if◌then◌else◌, nat_lt, Option, Some, None, List, [], ◌∷◌, ◌++◌, length, map, take, drop, get_or, refl, sym, ap, subst, arith, eqb-true, ltb-true}
use Rattle.std.specs.Prelude.{◌&&◌, option_and_then}
use Rattle.std.specs.List.{concat}
use Rattle.std.proofs.lemmas.List.FromFn.{fill_by_all}
use Rattle.hmc_codes.specs.Commands.{layout_of, family_of, family_of_layout, is_flow}
use Rattle.hmc_codes.specs.Flit.{zero_flit}
use Rattle.hmc_codes.specs.Numbers.{upto}
use Rattle.hmc_codes.specs.declared.command.Command.{Command}
use Rattle.hmc_codes.specs.declared.family.Family.{Family}
use Rattle.hmc_codes.specs.declared.family.Family.TheVariants as families
use Rattle.hmc_codes.specs.declared.layout.Layout.{Layout}
use Rattle.hmc_codes.specs.declared.layout.Layout.TheVariants as layouts
use Rattle.hmc_codes.specs.declared.place.Place.TheVariants as ends
use Rattle.hmc_codes.specs.declared.profile.Profile.{Profile}
use Rattle.hmc_packet.specs.declared.feed.Feed.{Feed}
use Rattle.hmc_packet.specs.declared.feed.Feed.TheVariants.{Waiting, Whole, Last}
use Rattle.hmc_packet.specs.declared.head.Head.{Head}
use Rattle.hmc_packet.specs.declared.tail.Tail.{Tail}
use Rattle.hmc_packet.specs.Bits.{bits_from}
use Rattle.hmc_packet.specs.Copy.{layout_named, last_feed, copied_packet}
use Rattle.hmc_packet.specs.Head.{named_by, head_in, head_with, head_slid, packet_head}
use Rattle.hmc_packet.specs.Header.{header_of, header_is_clean}
use Rattle.hmc_packet.specs.Packet.{PacketFields, IsPacket, flits_of}
use Rattle.hmc_packet.specs.Parts.{half_of, header_in, lng_of}
use Rattle.hmc_packet.specs.Reading.{packet_from}
use Rattle.hmc_packet.specs.Spelling.{FitsProfile, spelling}
use Rattle.hmc_packet.specs.Tail.{tail_of}
use Rattle.hmc_packet.proofs.FrontLemmas.{head_in-first}
use Rattle.hmc_packet.proofs.LinkLemmas.{lng_of-first}
use Rattle.hmc_crossbar.specs.To.{HasGoal}
use Rattle.hmc_routes.specs.Ports.{port_to_cube, port_to_host}
use Rattle.hmc_routes.specs.WellFormed.{is_host_of}
use Rattle.hmc_send.specs.declared.numbers.Numbers.{Numbers}
use Rattle.hmc_send.specs.Copies.{copy_of, errstat_for, tail_with}
use Rattle.hmc_send.specs.Entries.{SenderEntry, Part}
use Rattle.hmc_send.specs.Entries as entries
use Rattle.hmc_send.specs.Kept.{IsFedNext}
use Rattle.hmc_send.specs.Places.{Place}
use Rattle.hmc_send.proofs.CopyLemmas.{head-says, header-front}
use Rattle.hmc_through.specs.Pipe.{PipeFields, flit_at, last_fed, whole_fed, feed_at}
use Rattle.hmc_wire.specs.Conditions.{IsHalf}
use Rattle.hmc_wire.proofs.Choices.{fit-last}
use Rattle.hmc_wire.proofs.Filled.{completed-last, copy-is, head-same, heads-lng}
use Rattle.hmc_wire.proofs.OpenPlaces.{IsOpen, open_place}
use Rattle.hmc_wire.proofs.Places.{IsOpenPlace, FitOr, AllFit}
use Rattle.hmc_journal.specs.Delivered.{unnumbered}
use Rattle.hmc_journal.specs.Piped.{PipeFrom}
use Rattle.hmc_journal.specs.Queues.QueueId.{Output}
use Rattle.hmc_journal.specs.Setup.{Topology, graph_of, cubes_in, hosts_in, end_of, direction_from}
use Rattle.hmc_journal.specs.ThroughSteps.{if_below, port_by}
use Rattle.hmc_laws.proofs.CopyWhole.{copy_from, copy-poisoned, copy-whole, same-unnumbered, no_null}
use Rattle.hmc_laws.proofs.Entering.{at_cube, answer_goes}
use Rattle.hmc_laws.proofs.ForwardingPipes.{IsGood, Way}
use Rattle.hmc_laws.proofs.Piping.{IsPiped}
use Rattle.hmc_laws.proofs.Standing.{IsCounted-moving, IsMoving, IsSpoiled, GoesTo, Stands}
use Rattle.hmc_laws.proofs.Standing.IsMoving.{ToCube, ToHost, Spoiled}
use Rattle.hmc_laws.proofs.Wired.{Wired, towards_cube}

-- ---- what its last flit is made of

half_in : Feed → List ℕ
half_in (Last half slid errstat good) = half
half_in _ = []

slid_in : Feed → ℕ
slid_in (Last half slid errstat good) = slid
slid_in _ = 0

errstat_in : Feed → ℕ
errstat_in (Last half slid errstat good) = errstat
errstat_in _ = 0

good_in : Feed → Bool
good_in (Last half slid errstat good) = good
good_in _ = false

-- what the last flit gives
record GivesLast (pipe : PipeFields) (at : ℕ) (last : Bool) (found : Option Bool) (half : List ℕ) (slid errstat : ℕ) (good : Bool) : Type 0 where
  is_last : last ≡ true
  ended : found ≡ Some good
  half_is : half ≡ take 8 (flit_at pipe at)
  slid_is : slid ≡ (tail_of pipe.profile (layout_named (named_by (flit_at pipe 0))) (half_of (take 4 (drop 8 (flit_at pipe at))))).slid
  errstat_is : errstat ≡ (tail_of pipe.profile (layout_named (named_by (flit_at pipe 0))) (half_of (take 4 (drop 8 (flit_at pipe at))))).errstat

not_last : (pipe : PipeFields) (at : ℕ) (here : Bool) (half : List ℕ) (slid errstat : ℕ) (good : Bool) → (if here then Whole (flit_at pipe at) else Waiting) ≡ Last half slid errstat good → ⊥
not_last pipe at true half slid errstat good is = cc
not_last pipe at false half slid errstat good is = cc

gives_last : (pipe : PipeFields) (at : ℕ) (last : Bool) (found : Option Bool) (half : List ℕ) (slid errstat : ℕ) (good : Bool) → (if last then last_fed pipe at found else whole_fed pipe at found) ≡ Last half slid errstat good → GivesLast pipe at last found half slid errstat good
unfolding last_feed half_in slid_in errstat_in good_in
gives_last pipe at true None half slid errstat good is = absurd (let clash : Waiting ≡ Last half slid errstat good = is in cc)
gives_last pipe at false None half slid errstat good is = absurd (not_last pipe at (nat_lt at (length pipe.came)) half slid errstat good is)
gives_last pipe at false (Some g) half slid errstat good is = absurd (let clash : Whole (flit_at pipe at) ≡ Last half slid errstat good = is in cc)
gives_last pipe at true (Some g) half slid errstat good is = record {
  is_last = refl;
  ended = ap (λ (f : Feed). Some (good_in f)) is;
  half_is = sym (ap half_in is);
  slid_is = sym (ap slid_in is);
  errstat_is = sym (ap errstat_in is);
}

-- the copy is that of the flits that came
pub copy_is : (q : Profile) (pipe : PipeFields) (head : List ℕ) (count : ℕ) (part : Part) (half : List ℕ) (slid errstat : ℕ) (good : Bool) (n : Numbers) → IsPiped pipe part head count → feed_at pipe (length part.sent) ≡ Last half slid errstat good
    → (copy_of q part.sent half slid errstat good n ≡ copy_from q pipe.flits pipe.profile pipe.came good n) × (pipe.good ≡ Some good)
copy_is q pipe head count part half slid errstat good n piped is =
    let gives = gives_last pipe (length part.sent) (suc (length part.sent) == pipe.flits) pipe.good half slid errstat good is in
    let at : suc (length part.sent) ≡ pipe.flits = eqb-true (suc (length part.sent)) pipe.flits gives.is_last in
    let here : length part.sent ≡ pipe.flits - 1 = omega arith in
    let sent : part.sent ≡ map (flit_at pipe) (upto (pipe.flits - 1)) = fill_by_all (flit_at pipe) part.sent (pipe.flits - 1) [] here (λ i lt. piped.sent i (omega arith)) in
    let tail : ℕ → Tail = λ k. tail_of pipe.profile (layout_named (named_by (flit_at pipe 0))) (half_of (take 4 (drop 8 (flit_at pipe k)))) in (
      (λ i. copy_of q (sent i) (gives.half_is i) (gives.slid_is i) (gives.errstat_is i) good n)
          ∙ ap (λ (k : ℕ). copy_of q (map (flit_at pipe) (upto (pipe.flits - 1))) (take 8 (flit_at pipe k)) (tail k).slid (tail k).errstat good n) here,
      gives.ended,
    )

-- ---- the copy of an accepted packet

first_lng : (q : Profile) (x : PacketFields) (rrp : ℕ) (came : List (List ℕ)) → 1 ≤ length came → IsPacket x → is_flow (layout_of x.command) ≡ false → came ≡ spelling q x rrp → lng_of (get_or came 0 zero_flit) ≡ flits_of x
first_lng q x rrp [] some is no_flow spelled = absurd (omega arith)
first_lng q x rrp (first ∷ rest) some is no_flow spelled = lng_of-first q x rrp first rest is (no_null (layout_of x.command) no_flow) (sym spelled)

first_head : (q : Profile) (x : PacketFields) (rrp : ℕ) (came : List (List ℕ)) → 1 ≤ length came → IsPacket x → FitsProfile q x rrp → is_flow (layout_of x.command) ≡ false → came ≡ spelling q x rrp → head_in (get_or came 0 zero_flit) ≡ Some (packet_head x)
first_head q x rrp [] some is fits no_flow spelled = absurd (omega arith)
first_head q x rrp (first ∷ rest) some is fits no_flow spelled = head_in-first q x rrp first rest is fits no_flow (sym spelled)

pub good_same : (topology : Topology) (p : PipeFrom) (good : IsGood topology p) (q : Profile) (T : List SenderEntry) (o : IsOpen q T) (half : List ℕ) (slid errstat : ℕ) → 1 ≤ length p.pipe.came → IsPiped p.pipe o.part o.head o.count
    → feed_at p.pipe (length o.part.sent) ≡ Last half slid errstat true → unnumbered (copy_of q o.part.sent half slid errstat true o.numbers) ≡ unnumbered good.packet
good_same topology p good q T o half slid errstat some piped is =
    let counted = IsCounted-moving topology good.packet good.clean good.moving in
    let flits : p.pipe.flits ≡ flits_of good.packet =
    piped.for.flits ∙ sym (heads-lng o.count o.head o.names) ∙ ap lng_of (sym piped.for.first) ∙ first_lng p.pipe.profile good.packet good.rrp p.pipe.came some counted.is_packet counted.layout good.spelled in
    ap unnumbered
    ((copy_is q p.pipe o.head o.count o.part half slid errstat true o.numbers piped is).0 ∙ ap (λ (k : ℕ). copy_from q k p.pipe.profile p.pipe.came true o.numbers) flits
    ∙ copy-whole p.pipe.profile q good.packet good.rrp true o.numbers p.pipe.came counted.is_packet good.fits counted.layout counted.errstat good.spelled)
    ∙ same-unnumbered good.packet o.numbers good.clean

-- ---- its way

pub below : (number most : ℕ) (less : Bool) (f : ℕ → Option ℕ) (found : ℕ) → option_and_then f (if less then Some number else None) ≡ Some found → (less ≡ true) × (f number ≡ Some found)
below number most true f found is = (refl, is)
below number most false f found is = absurd cc

pub reply_slid : (layout : Layout) (slid : ℕ) → family_of_layout layout ≡ families.Reply → head_slid layout slid ≡ slid
reply_slid layouts.Reply slid is = refl
reply_slid layouts.Ask slid is = absurd cc
reply_slid layouts.Null slid is = absurd cc
reply_slid layouts.Pret slid is = absurd cc
reply_slid layouts.Tret slid is = absurd cc
reply_slid layouts.Irtry slid is = absurd cc

pub some_head : (a b : Head) → Some a ≡ Some b → a ≡ b
some_head a b is = cc

goes_by : (topology : Topology) (cube onward d : ℕ) (x : PacketFields) → Wired topology → IsMoving topology x → x.poisoned ≡ false → port_by topology cube (packet_head x) (family_of x.command) ≡ Some onward → direction_from topology (ends.Port cube onward) ≡ Some d
    → GoesTo topology (end_of topology d) x
goes_by topology cube onward d x wires (ToCube asking) clean is starts =
    let port = below x.cube (cubes_in topology) (nat_lt x.cube (cubes_in topology)) (λ goal. port_to_cube (graph_of topology) goal cube) onward (sym (ap (port_by topology cube (packet_head x)) asking.asks) ∙ is) in
    at_cube topology d x (towards_cube topology wires x.cube cube onward d port.1 starts) (ToCube asking)
goes_by topology cube onward d x wires (ToHost replying) clean is starts =
    let by_host : option_and_then (λ goal. port_to_host (graph_of topology) goal cube) (if_below (hosts_in topology) x.slid) ≡ Some onward =
    ap (λ (s : ℕ). option_and_then (λ goal. port_to_host (graph_of topology) goal cube) (if_below (hosts_in topology) s)) (sym (reply_slid (layout_of x.command) x.slid replying.replies))
    ∙ sym (ap (port_by topology cube (packet_head x)) replying.replies) ∙ is in
    answer_goes topology cube onward d x wires replying (below x.slid (hosts_in topology) (nat_lt x.slid (hosts_in topology)) (λ goal. port_to_host (graph_of topology) goal cube) onward by_host).1 starts
goes_by topology cube onward d x wires (Spoiled spoiled) clean is starts = absurd (let clash : true ≡ false = sym spoiled.poisoned ∙ clean in cc)

-- an accepted packet goes by the direction onto which it was forwarded
pub good_goes : (topology : Topology) (d : ℕ) (p : PipeFrom) (good : IsGood topology p) → Wired topology → Way topology p d → 1 ≤ length p.pipe.came → Stands topology (Output d) good.packet
good_goes topology d p good wires way some =
    let x = good.packet in
    let counted = IsCounted-moving topology x good.clean good.moving in
    let same : way.head ≡ packet_head x = some_head way.head (packet_head x) (sym way.is_head ∙ first_head p.pipe.profile x good.rrp p.pipe.came some counted.is_packet good.fits counted.layout good.spelled) in
    let onward : port_by topology way.cube (packet_head x) (family_of x.command) ≡ Some way.onward = ap (λ (h : Head). port_by topology way.cube h (family_of h.command)) (sym same) ∙ way.is_onward in record {
      inside = wires.inside (ends.Port way.cube way.onward) d way.starts;
      goes = goes_by topology way.cube way.onward d x wires good.moving good.clean onward way.starts;
    }

-- ---- the copy is a packet

open_fit : (q : Profile) (head : List ℕ) (count : ℕ) (n : Numbers) → FitOr q (Place.awaited head count n) → IsOpenPlace q (Place.awaited head count n)
open_fit q head count n (inl has) = absurd (let clash : None ≡ Some has.packet = has.fits.known in cc)
open_fit q head count n (inr is) = is

pub copy_packet : (q : Profile) (T : List SenderEntry) (o : IsOpen q T) (half : List ℕ) (slid errstat : ℕ) (good : Bool) → AllFit q (entries.places q T) → IsFedNext o.part o.head (Last half slid errstat good) → IsHalf half
    → IsPacket (copy_of q o.part.sent half slid errstat good o.numbers)
copy_packet q T o half slid errstat good fit next is =
    let place = open_fit q o.head o.count o.numbers (fit-last q o.before (open_place o) (subst (AllFit q) o.places fit)) in
    (completed-last q (open_place o) o.part half slid errstat good place o.whole_flits o.flits next.0 is.long is.bytes next.1).fits.packet

-- ---- a poisoned copy

-- what a head has of its header
record HasHeader (bytes : List ℕ) (h : Head) : Type 0 where
  cube : h.cube ≡ (header_of (layout_of h.command) (header_in bytes)).cube
  slid : h.slid ≡ (header_of (layout_of h.command) (header_in bytes)).slid

has-by : (bytes : List ℕ) (h : Head) (o : Option Command) → option_and_then (λ command. head_with (layout_of command) command (header_in bytes)) o ≡ Some h → HasHeader bytes h
unfolding head_with
has-by bytes h None is = absurd cc
has-by bytes h (Some c) is = by_test (not (is_flow (layout_of c)) && header_is_clean (layout_of c) (header_in bytes)) is
  where
    found : Head
    found = record { command = c; flits = bits_from 7 5 (header_in bytes); cube = (header_of (layout_of c) (header_in bytes)).cube; slid = (header_of (layout_of c) (header_in bytes)).slid }

    by_test : (b : Bool) → (if b then Some found else None) ≡ Some h → HasHeader bytes h
    by_test true same = subst (HasHeader bytes) (some_head found h same) (record { cube = refl; slid = refl })
    by_test false same = absurd cc

has_header : (bytes : List ℕ) (h : Head) → head_in bytes ≡ Some h → HasHeader bytes h
unfolding head_in
has_header bytes h is = has-by bytes h (named_by bytes) is

-- what the copy has of its head
record HasOfHead (p : PacketFields) (h : Head) : Type 0 where
  command : p.command ≡ h.command
  cube : p.cube ≡ h.cube
  slid : family_of h.command ≡ families.Reply → p.slid ≡ h.slid

reply_is : (layout : Layout) → family_of_layout layout ≡ families.Reply → layout ≡ layouts.Reply
reply_is layouts.Reply is = refl
reply_is layouts.Ask is = absurd cc
reply_is layouts.Null is = absurd cc
reply_is layouts.Pret is = absurd cc
reply_is layouts.Tret is = absurd cc
reply_is layouts.Irtry is = absurd cc

copied_slid : (c : Command) (bytes : List ℕ) (t : Tail) (good : Bool) → layout_of c ≡ layouts.Reply → (copied_packet c bytes t good).slid ≡ (header_of (layout_of c) (header_in bytes)).slid
unfolding copied_packet packet_from
copied_slid c bytes t good is = by_layout (layout_of c) is
  where
    by_layout : (layout : Layout) → layout ≡ layouts.Reply → (packet_from layout c (header_of (layout_of c) (header_in bytes)) t (not good) (drop 8 bytes)).slid ≡ (header_of (layout_of c) (header_in bytes)).slid
    by_layout layouts.Reply same = refl
    by_layout layouts.Ask same = absurd cc
    by_layout layouts.Null same = absurd cc
    by_layout layouts.Pret same = absurd cc
    by_layout layouts.Tret same = absurd cc
    by_layout layouts.Irtry same = absurd cc

copied_command : (c : Command) (bytes : List ℕ) (t : Tail) (good : Bool) → ((copied_packet c bytes t good).command ≡ c) × ((copied_packet c bytes t good).cube ≡ (header_of (layout_of c) (header_in bytes)).cube)
unfolding copied_packet packet_from
copied_command c bytes t good = (refl, refl)

copied_head : (bytes : List ℕ) (h : Head) (t : Tail) (good : Bool) → head_in bytes ≡ Some h → HasOfHead (copied_packet h.command bytes t good) h
copied_head bytes h t good reads =
    let has = has_header bytes h reads in
    let own = copied_command h.command bytes t good in record {
      command = own.0;
      cube = own.1 ∙ sym has.cube;
      slid = λ replies. copied_slid h.command bytes t good (reply_is (layout_of h.command) replies) ∙ sym has.slid;
    }

-- it has the goal of its head
goal_is : (topology : Topology) (cube onward : ℕ) (h : Head) (x : PacketFields) (family : Family) → ((host : ℕ) → is_host_of (graph_of topology) host ≡ nat_lt host (hosts_in topology)) → port_by topology cube h family ≡ Some onward → x.cube ≡ h.cube → (family ≡ families.Reply → x.slid ≡ h.slid)
    → HasGoal (graph_of topology) x family
goal_is topology cube onward h x families.Ask hosts is same slid =
    let less = ltb-true h.cube (cubes_in topology) (below h.cube (cubes_in topology) (nat_lt h.cube (cubes_in topology)) (λ goal. port_to_cube (graph_of topology) goal cube) onward is).0 in
    subst (λ (n : ℕ). n < cubes_in topology) (sym same) less
goal_is topology cube onward h x families.Reply hosts is same slid =
    ap (is_host_of (graph_of topology)) (slid refl) ∙ hosts h.slid ∙ (below h.slid (hosts_in topology) (nat_lt h.slid (hosts_in topology)) (λ goal. port_to_host (graph_of topology) goal cube) onward is).0
goal_is topology cube onward h x families.Flow hosts is same slid = absurd cc

pub bad_spoiled : (topology : Topology) (p : PipeFrom) (d : ℕ) (q : Profile) (T : List SenderEntry) (o : IsOpen q T) (half : List ℕ) (slid errstat : ℕ) → ((host : ℕ) → is_host_of (graph_of topology) host ≡ nat_lt host (hosts_in topology)) → Way topology p d → IsPiped p.pipe o.part o.head o.count
    → feed_at p.pipe (length o.part.sent) ≡ Last half slid errstat false → IsPacket (copy_of q o.part.sent half slid errstat false o.numbers) → IsFedNext o.part o.head (Last half slid errstat false) → IsSpoiled topology (copy_of q o.part.sent half slid errstat false o.numbers)
bad_spoiled topology p d q T o half slid errstat hosts way piped is is_packet next =
    let copy = copy_of q o.part.sent half slid errstat false o.numbers in
    let bytes = concat o.part.sent ++ half in
    let h = way.head in
    let last : suc (length o.part.sent) ≡ o.part.flits = eqb-true (suc (length o.part.sent)) o.part.flits next.0 in
    let many = piped.many in
    let flits = piped.flits in
    let some : 1 ≤ length o.part.sent = omega arith in
    let reads : head_in bytes ≡ Some h =
    head-same bytes (get_or o.part.sent 0 []) (header-front o.part.sent half some (o.whole_flits.flits 0 (omega arith))) ∙ ap head_in (piped.sent 0 (omega arith)) ∙ way.is_head in
    let says = head-says bytes h (sym reads) in
    let t = tail_with o.numbers slid (errstat_for q (layout_of h.command) errstat) in
    let same : copy ≡ copied_packet h.command bytes t false = copy-is q o.part.sent half slid errstat false o.numbers h says in
    let has : HasOfHead copy h = subst (λ (x : PacketFields). HasOfHead x h) (sym same) (copied_head bytes h t false reads) in record {
      is_packet = is_packet;
      layout = ap (λ (c : Command). is_flow (layout_of c)) has.command ∙ says.no_flow;
      poisoned = ap (λ (x : PacketFields). x.poisoned) (copy_is q p.pipe o.head o.count o.part half slid errstat false o.numbers piped is).0 ∙ copy-poisoned q p.pipe.flits p.pipe.profile p.pipe.came false o.numbers;
      goal = subst (λ (c : Command). HasGoal (graph_of topology) copy (family_of c)) (sym has.command) (goal_is topology way.cube way.onward h copy (family_of h.command) hosts way.is_onward has.cube has.slid);
    }
