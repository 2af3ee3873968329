-- The copy of a packet that is forwarded, once its gathering has ended: where the packet was accepted
-- the copy is that packet with other numbers, and else it is poisoned.
use Rattle.std.proofs.Common.{◌≡◌, ◌≢◌, ◌≤◌, ◌<◌, ◌∙◌, ◌-◌, ◌==◌, ℕ, suc, Bool, true, false, not, if◌then◌else◌, List, [], ◌∷◌, ◌++◌, length, map, take, drop, get_or, Some, None, refl, sym, ap, arith, eq-eqb}
use Rattle.std.specs.Prelude.{nat_lt}
use Rattle.std.specs.List.{concat}
use Rattle.std.proofs.lemmas.List.{take_at, drop_at, length-take, length-drop, get_or-take, get_or_default}
use Rattle.std.proofs.lemmas.List.FromFn.{fill_by_all}
use Rattle.hmc_codes.specs.Commands.{layout_of, is_flow}
use Rattle.hmc_codes.specs.Flit.{zero_flit}
use Rattle.hmc_codes.specs.Numbers.{upto}
use Rattle.hmc_codes.specs.declared.layout.Layout.{Layout}
use Rattle.hmc_codes.specs.declared.layout.Layout.TheVariants as layouts
use Rattle.hmc_codes.specs.declared.profile.Profile.{Profile}
use Rattle.hmc_codes.specs.declared.profile.Profile.TheVariants.{One, Two}
use Rattle.hmc_packet.specs.declared.feed.Feed.{Feed}
use Rattle.hmc_packet.specs.declared.feed.Feed.TheVariants.{Waiting, Whole, Last}
use Rattle.hmc_packet.specs.declared.tail.Tail.{Tail}
use Rattle.hmc_packet.specs.Copy.{layout_named, last_feed, last_feed_of, copied_packet}
use Rattle.hmc_packet.specs.Draft.{front_bytes, tail_of_packet}
use Rattle.hmc_packet.specs.Head.{named_by}
use Rattle.hmc_packet.specs.Packet.{PacketFields, IsPacket, IsLaidOut, flits_of}
use Rattle.hmc_packet.specs.Parts.{half_of, header_in}
use Rattle.hmc_packet.specs.Reading.{command_in, packet_from}
use Rattle.hmc_packet.specs.Spelling.{FitsProfile, header_fields, tail_fields, spelling, half_bytes, covered, check_of, word_bytes}
use Rattle.hmc_packet.specs.Header.{header_word}
use Rattle.hmc_packet.specs.Tail.{tail_of, tail_word}
use Rattle.hmc_packet.proofs.HeaderLemmas as headers
use Rattle.hmc_packet.proofs.TailLemmas as tails
use Rattle.hmc_packet.proofs.PacketLemmas.{flits_of-few, IsTail-fields, IsHeader-fields}
use Rattle.hmc_packet.proofs.PartLemmas.{half_of-half_bytes, word_of-word_bytes, length-half_bytes, length-word_bytes}
use Rattle.hmc_packet.proofs.DraftLemmas.{last-at, length-front_bytes}
use Rattle.hmc_packet.proofs.LinkLemmas.{length-spelling, named_by-first}
use Rattle.hmc_packet.proofs.SpelledLemmas.{header_in-bytes_of, bytes_of-Passes}
use Rattle.hmc_packet.proofs.CopyLemmas.{flits-front, copied-same}
use Rattle.hmc_packet.specs.Parts.{word_of}
use Rattle.hmc_send.specs.declared.numbers.Numbers.{Numbers}
use Rattle.hmc_send.specs.Copies.{command_or_null, errstat_for, tail_with, copy_of, awaited_fed}
use Rattle.hmc_send.specs.Places.{Place}
use Rattle.hmc_through.specs.Pipe.{PipeFields, flit_at, front_flits, last_fed, whole_fed, feed_at}
use Rattle.hmc_journal.specs.Carried.{place_with}
use Rattle.hmc_journal.specs.Delivered.{unnumbered}

-- ---- what a pipe feeds at its last place

one_less : (n : ℕ) → 1 ≤ n → (suc (n - 1) == n) ≡ true
one_less n some = eq-eqb (suc (n - 1)) n (omega arith)

-- while the packet is gathered, the copy isn't known
waits_by : (at : ℕ) (pipe : PipeFields) (last more : Bool) (r : Profile) (sent : List (List ℕ)) (head : List ℕ) (count : ℕ) (n : Numbers)
    → awaited_fed r sent (if last then last_fed pipe at None else (if more then Whole (flit_at pipe at) else Waiting)) head count n ≡ Place.awaited head count n
waits_by at pipe true more r sent head count n = refl
waits_by at pipe false true r sent head count n = refl
waits_by at pipe false false r sent head count n = refl

pub place-waits : (r : Profile) (from flits : ℕ) (profile : Profile) (came : List (List ℕ)) (head : List ℕ) (count : ℕ) (n : Numbers)
    → place_with r (Some (record { from = from; pipe = record { flits = flits; profile = profile; came = came; good = None } })) (Place.awaited head count n) ≡ Place.awaited head count n
place-waits r from flits profile came head count n =
    let pipe : PipeFields = record { flits = flits; profile = profile; came = came; good = None } in
    waits_by (flits - 1) pipe (suc (flits - 1) == flits) (nat_lt (flits - 1) (length came)) r (front_flits pipe) head count n

-- once it has ended, it is
abbrev ended : (flits : ℕ) → Profile → (came : List (List ℕ)) → (good : Bool) → PipeFields
ended flits profile came good = record { flits = flits; profile = profile; came = came; good = Some good }

pub feeds-last : (flits : ℕ) (profile : Profile) (came : List (List ℕ)) (good : Bool) → 1 ≤ flits → feed_at (ended flits profile came good) (flits - 1) ≡ last_feed_of profile (get_or came 0 zero_flit) (get_or came (flits - 1) zero_flit) good
feeds-last flits profile came good some =
    let pipe = ended flits profile came good in
    ap (λ (b : Bool). if b then last_fed pipe (flits - 1) (Some good) else whole_fed pipe (flits - 1) (Some good)) (one_less flits some)

-- the tail of a flit that names a layout
abbrev tail_after : Profile → (first last : List ℕ) → Tail
tail_after profile first last = tail_of profile (layout_named (named_by first)) (half_of (take 4 (drop 8 last)))

pub feed-is : (profile : Profile) (first last : List ℕ) (good : Bool) → last_feed_of profile first last good ≡ Last (take 8 last) (tail_after profile first last).slid (tail_after profile first last).errstat good
unfolding last_feed
feed-is profile first last good = refl

-- the copy
abbrev pub copy_from : Profile → (flits : ℕ) → Profile → (came : List (List ℕ)) → (good : Bool) → Numbers → PacketFields
copy_from r flits profile came good n =
    let last = get_or came (flits - 1) zero_flit in
    let tail = tail_of profile (layout_named (named_by (get_or came 0 zero_flit))) (half_of (take 4 (drop 8 last))) in
    copy_of r (map (λ i. get_or came i zero_flit) (upto (flits - 1))) (take 8 last) tail.slid tail.errstat good n

pub place-known : (r : Profile) (from flits : ℕ) (profile : Profile) (came : List (List ℕ)) (good : Bool) (head : List ℕ) (count : ℕ) (n : Numbers) → 1 ≤ flits
    → place_with r (Some (record { from = from; pipe = record { flits = flits; profile = profile; came = came; good = Some good } })) (Place.awaited head count n) ≡ Place.known (copy_from r flits profile came good n)
place-known r from flits profile came good head count n some =
    ap (λ (f : Feed). awaited_fed r (front_flits (ended flits profile came good)) f head count n)
    (feeds-last flits profile came good some ∙ feed-is profile (get_or came 0 zero_flit) (get_or came (flits - 1) zero_flit) good)

-- a copy that isn't good is poisoned
pub copy-poisoned : (r : Profile) (flits : ℕ) (profile : Profile) (came : List (List ℕ)) (good : Bool) (n : Numbers) → (copy_from r flits profile came good n).poisoned ≡ not good
unfolding copy_of copied_packet packet_from
copy-poisoned r flits profile came good n = refl

-- ---- of a packet that came whole

front-taken : (l : List (List ℕ)) (k : ℕ) → k ≤ length l → map (λ i. get_or l i zero_flit) (upto k) ≡ take k l
front-taken l k within =
    sym (fill_by_all (λ i. get_or l i zero_flit) (take k l) k zero_flit (omega (arith, length-take k l)) (λ i lt. get_or-take k l i zero_flit lt))

pub no_null : (layout : Layout) → is_flow layout ≡ false → layout ≢ layouts.Null
no_null layout no_flow is = let clash : true ≡ false = sym (ap is_flow is) ∙ no_flow in cc

named-first : (q : Profile) (p : PacketFields) (rrp : ℕ) (flits : List (List ℕ)) → IsPacket p → FitsProfile q p rrp → is_flow (layout_of p.command) ≡ false → spelling q p rrp ≡ flits → named_by (get_or flits 0 zero_flit) ≡ Some p.command
named-first q p rrp [] is fits no_flow spelled =
    let long = length-spelling q p rrp is in
    let none : length (spelling q p rrp) ≡ 0 = ap (λ (l : List (List ℕ)). length l) spelled in
    let few = (flits_of-few p is).0 in absurd (omega arith)
named-first q p rrp (first ∷ rest) is fits no_flow spelled = named_by-first q p rrp first rest is fits (no_null (layout_of p.command) no_flow) spelled

-- the tail of its last flit
last-tail : (q : Profile) (p : PacketFields) (rrp : ℕ) → IsPacket p → FitsProfile q p rrp → is_flow (layout_of p.command) ≡ false
    → half_of (take 4 (drop 8 (get_or (spelling q p rrp) (flits_of p - 1) []))) ≡ tail_word q (layout_of p.command) (tail_fields p rrp)
unfolding tail_of_packet
last-tail q p rrp is fits no_flow =
    let other = no_null (layout_of p.command) no_flow in
    let few = flits_of-few p is in
    let word = tail_word q (layout_of p.command) (tail_fields p rrp) in
    let check = half_bytes (check_of p.poisoned (covered q p rrp)) in
    let eight = take 8 (drop (length p.payload) (front_bytes p)) in
    let front = length-front_bytes p in
    let long : length eight ≡ 8 = omega (arith, length-take 8 (drop (length p.payload) (front_bytes p)), length-drop (length p.payload) (front_bytes p)) in
    ap (λ (l : List ℕ). half_of (take 4 (drop 8 l))) (sym (last-at q p rrp is other))
    ∙ ap (λ (l : List ℕ). half_of (take 4 l)) (drop_at eight (half_bytes word ++ check) 8 long)
    ∙ ap half_of (take_at (half_bytes word) check 4 (length-half_bytes word))
    ∙ half_of-half_bytes word (tails.tail_word-lt q (layout_of p.command) (tail_fields p rrp) (IsTail-fields q p rrp is fits))

-- what of a tail the copy keeps is the packet's
kept_slid : (layout : Layout) (t : Tail) → layout ≡ layouts.Ask → (tails.kept layout t).slid ≡ t.slid
unfolding tails.kept
kept_slid layouts.Ask t is = refl
kept_slid layouts.Reply t is = absurd (cc)
kept_slid _ t is = refl

kept_errstat : (r : Profile) (layout : Layout) (p : PacketFields) (t : Tail) → is_flow layout ≡ false → IsLaidOut layout p → t.errstat ≡ p.errstat → p.errstat < 8 → errstat_for r layout (tails.kept layout t).errstat ≡ p.errstat
unfolding tails.kept
kept_errstat r layouts.Ask p t no_flow laid same small = sym laid.1
kept_errstat One layouts.Reply p t no_flow laid same small = omega arith
kept_errstat Two layouts.Reply p t no_flow laid same small = omega arith
kept_errstat r layouts.Null p t no_flow laid same small = absurd (cc)
kept_errstat r layouts.Pret p t no_flow laid same small = absurd (cc)
kept_errstat r layouts.Tret p t no_flow laid same small = absurd (cc)
kept_errstat r layouts.Irtry p t no_flow laid same small = absurd (cc)

-- its bytes before the tail name its command
front-named : (q : Profile) (p : PacketFields) (rrp : ℕ) → IsPacket p → FitsProfile q p rrp → is_flow (layout_of p.command) ≡ false → named_by (front_bytes p) ≡ Some p.command
unfolding named_by front_bytes
front-named q p rrp is fits no_flow =
    let word = header_word (layout_of p.command) (header_fields p) in
    let header : header_in (word_bytes word ++ p.payload) ≡ word =
    ap word_of (take_at (word_bytes word) p.payload 8 (length-word_bytes word)) ∙ word_of-word_bytes word (headers.header_word-lt (layout_of p.command) (header_fields p) (IsHeader-fields p is)) in
    ap command_in (header ∙ sym (header_in-bytes_of q p rrp is)) ∙ (bytes_of-Passes q p rrp is fits (no_null (layout_of p.command) no_flow)).names

-- the packet with numbers, good or poisoned
abbrev pub renumbered : PacketFields → Numbers → (good : Bool) → PacketFields
renumbered p n good = record p { frp = n.frp; seq = n.seq; rtc = n.rtc; poisoned = not good }

copied-by : (r : Profile) (p : PacketFields) (t : Tail) (bytes : List ℕ) (front : List (List ℕ)) (half : List ℕ) (slid errstat : ℕ) (good : Bool) (n : Numbers) → IsPacket p → is_flow (layout_of p.command) ≡ false → p.errstat < 8 → concat front ++ half ≡ front_bytes p
    → named_by (front_bytes p) ≡ Some p.command → slid ≡ (tails.kept (layout_of p.command) t).slid → errstat ≡ (tails.kept (layout_of p.command) t).errstat → t.slid ≡ p.slid → t.errstat ≡ p.errstat → copy_of r front half slid errstat good n ≡ renumbered p n good
unfolding copy_of
copied-by r p t bytes front half slid errstat good n is no_flow small bytes_are named slid_is errstat_is same_slid same_errstat =
    let layout = layout_of p.command in
    let command : command_or_null (named_by (concat front ++ half)) ≡ p.command = ap command_or_null (ap named_by bytes_are ∙ named) in
    let sent = errstat_for r layout errstat in
    let sent_is : sent ≡ p.errstat = ap (errstat_for r layout) errstat_is ∙ kept_errstat r layout p t no_flow is.layout same_errstat small in
    (λ i. copied_packet (command i) (bytes_are i) (tail_with n slid (errstat_for r (layout_of (command i)) errstat)) good)
    ∙ copied-same p (tail_with n slid sent) good is no_flow (λ asks. slid_is ∙ kept_slid layout t asks ∙ same_slid) sent_is

pub copy-whole : (q r : Profile) (p : PacketFields) (rrp : ℕ) (good : Bool) (n : Numbers) (came : List (List ℕ)) → IsPacket p → FitsProfile q p rrp → is_flow (layout_of p.command) ≡ false → p.errstat < 8 → came ≡ spelling q p rrp
    → copy_from r (flits_of p) q came good n ≡ renumbered p n good
copy-whole q r p rrp good n came is fits no_flow small spelled =
    let few = flits_of-few p is in
    let long : length came ≡ flits_of p = ap (λ (l : List (List ℕ)). length l) spelled ∙ length-spelling q p rrp is in
    let k = flits_of p - 1 in
    let layout = layout_of p.command in
    let t = tail_fields p rrp in
    let last : get_or came k zero_flit ≡ get_or (spelling q p rrp) k [] = get_or_default came k zero_flit [] (omega arith) ∙ ap (λ (l : List (List ℕ)). get_or l k []) spelled in
    let named : layout_named (named_by (get_or came 0 zero_flit)) ≡ layout = ap layout_named (named-first q p rrp came is fits no_flow (sym spelled)) in
    let word : half_of (take 4 (drop 8 (get_or came k zero_flit))) ≡ tail_word q layout t = ap (λ (l : List ℕ). half_of (take 4 (drop 8 l))) last ∙ last-tail q p rrp is fits no_flow in
    let tail : tail_of q (layout_named (named_by (get_or came 0 zero_flit))) (half_of (take 4 (drop 8 (get_or came k zero_flit)))) ≡ tails.kept layout t =
    (λ i. tail_of q (named i) (word i)) ∙ tails.tail_of-word q layout t (IsTail-fields q p rrp is fits) in
    let bytes : concat (map (λ i. get_or came i zero_flit) (upto k)) ++ take 8 (get_or came k zero_flit) ≡ front_bytes p =
    (λ i. concat ((front-taken came k (omega arith) ∙ ap (take k) spelled) i) ++ take 8 (last i)) ∙ flits-front q p rrp is no_flow in
    copied-by r p t (front_bytes p) (map (λ i. get_or came i zero_flit) (upto k)) (take 8 (get_or came k zero_flit)) _ _ good n is no_flow small bytes (front-named q p rrp is fits no_flow) (ap (λ (x : Tail). x.slid) tail) (ap (λ (x : Tail). x.errstat) tail) refl refl

-- apart from its numbers
pub same-unnumbered : (p : PacketFields) (n : Numbers) → p.poisoned ≡ false → unnumbered (renumbered p n true) ≡ unnumbered p
same-unnumbered p n clean = λ i. record p { rtc = 0; seq = 0; frp = 0; poisoned = sym clean i }
