-- The links after a call of one of them.
use Rattle.std.proofs.Common.{◌≡◌, ◌<◌, ◌*◌, ◌/◌, ◌∙◌, ℕ, true, List, [], ◌∷◌, length, nat_lt, ltb-true, Option, sym, ap, subst, arith}
use Rattle.std.specs.Prelude.{slice_set, slice_index_or}
use Rattle.std.proofs.lemmas.List.{length-set, set-get_or}
use Rattle.hmc_codes.specs.Link.{LinkFields}
use Rattle.hmc_case.specs.declared.setup.LinkRow.{LinkRow}
use Rattle.hmc_ends.specs.Answers.{after_call}
use Rattle.hmc_link.specs.Held.{LinkHeld, sending_end}
use Rattle.hmc_ends.specs.End.{EndFields, is_ready}
use Rattle.hmc_ends.specs.Parts.{EndParts, parts_of, output_queue}
use Rattle.hmc_ends.specs.StandsFor.{EndStandsFor}
use Rattle.hmc_codes.specs.declared.profile.Profile.{Profile}
use Rattle.hmc_packet.specs.Packet.{PacketFields}
use Rattle.hmc_packet.specs.declared.feed.Feed.{Feed}
use Rattle.hmc_send.specs.Entries.{UnderWay, under_way}
use Rattle.hmc_send.specs.Given.{IsTaken}
use Rattle.hmc_send.specs.IsSender.{IsFed}
use Rattle.hmc_send.specs.LinkSenders.{sender_entries}
use Rattle.hmc_link.specs.StandsFor.{LinkStandsFor}
use Rattle.hmc_packet.specs.declared.feed.Feed.TheVariants.{Waiting}
use Rattle.hmc_send.specs.LinkCalls.{LinkCall, has_room, view_in, may_pass_on}
use Rattle.hmc_send.specs.LinkEntries.{LinkEntry}
use Rattle.hmc_send.specs.declared.toward.Toward.{Toward}
use Rattle.hmc_send.specs.declared.toward.Toward.TheVariants.{Forth, Back}
use Rattle.hmc_ends.proofs.Throughs.{ready-held}
use Rattle.hmc_ends.proofs.Begins.{may-in}
use Rattle.hmc_wire.specs.LinkLaws.{IsKept}
use Rattle.hmc_journal.specs.Links.{toward}
use Rattle.hmc_kept.specs.Called.{sizes_at, sizes_by, called}
use Rattle.hmc_links.specs.LinkList.{LinksStandFor, IsDirection, AreGoing}
use Rattle.hmc_kept.proofs.Elements.{each_set}
use Rattle.hmc_kept.proofs.Called.{called_here, called_other}

-- the link of a direction that is there
pub link_there : (links : List LinkHeld) (direction : ℕ) → IsDirection links direction → direction / 2 < length links
link_there links direction there = omega arith

-- the link of a direction, as it is in the list
pub stands_at : (rows : List LinkRow) (links : List LinkHeld) (entries : ℕ → List LinkEntry) (direction : ℕ) (held : LinkHeld) → LinksStandFor rows links entries → IsDirection links direction → held ≡ slice_index_or links (direction / 2) held
    → LinkStandsFor (sizes_by rows direction) held (entries (direction / 2))
stands_at rows links entries direction held stand there is =
    subst (λ (h : LinkHeld). LinkStandsFor (sizes_by rows direction) h (entries (direction / 2))) (sym is) (stand.stand (direction / 2) held (link_there links direction there))

-- after a call of one link all stand for their entries
pub one_called : (rows : List LinkRow) (links : List LinkHeld) (direction : ℕ) (call : Toward → LinkCall) (entries : ℕ → List LinkEntry) (now : LinkHeld) → LinksStandFor rows links entries → IsDirection links direction → now.going ≡ true
    → LinkStandsFor (sizes_by rows direction) now (after_call (sizes_by rows direction) (entries (direction / 2)) (call (toward direction)))
    → LinksStandFor rows (slice_set links (direction / 2) now) (called rows direction call entries)
one_called rows links direction call entries now stand there going stands =
    let less = link_there links direction there in record {
      count = length-set links (direction / 2) now ∙ stand.count;
      going = each_set (λ link (held : LinkHeld). held.going ≡ true) links (direction / 2) now less going (λ link d other inside. stand.going link d inside);
      stand = each_set (λ link (held : LinkHeld). LinkStandsFor (sizes_at rows link) held (called rows direction call entries link)) links (direction / 2) now less
          (subst (LinkStandsFor (sizes_by rows direction) now) (sym (called_here rows direction call entries)) stands)
          (λ link d other inside. subst (LinkStandsFor (sizes_at rows link) (slice_index_or links link d)) (sym (called_other rows direction link call entries other)) (stand.stand link d inside));
    }

-- links whose entries are the same
pub same_entries : (rows : List LinkRow) (links : List LinkHeld) (entries now : ℕ → List LinkEntry) → LinksStandFor rows links entries → ((link : ℕ) → entries link ≡ now link) → LinksStandFor rows links now
same_entries rows links entries now stand same = record {
  count = stand.count;
  going = stand.going;
  stand = λ link d inside. subst (LinkStandsFor (sizes_at rows link) (slice_index_or links link d)) (same link) (stand.stand link d inside);
}

-- the call of the link of a direction, of which this is known
pub called_at : (rows : List LinkRow) (links own : List LinkHeld) (direction at : ℕ) (way : Toward) (call : Toward → LinkCall) (entries : ℕ → List LinkEntry) (held now : LinkHeld) → links ≡ own → at ≡ direction / 2 → held ≡ slice_index_or links at held → way ≡ toward direction
    → LinksStandFor rows own entries → IsDirection own direction → now.going ≡ true
    → ((sizes : LinkFields) (past : List LinkEntry) → LinkStandsFor sizes held past → LinkStandsFor sizes now (after_call sizes past (call way)))
    → LinksStandFor rows (slice_set links at now) (called rows direction call entries)
called_at rows links own direction at way call entries held now view_is at_is held_is way_is stand there going stands =
    let here : held ≡ slice_index_or own (direction / 2) held = held_is ∙ ap (λ (l : List LinkHeld). slice_index_or l at held) view_is ∙ ap (λ (n : ℕ). slice_index_or own n held) at_is in
    subst (λ (n : ℕ). LinksStandFor rows (slice_set links n now) (called rows direction call entries)) (sym at_is)
    (subst (λ (l : List LinkHeld). LinksStandFor rows (slice_set l (direction / 2) now) (called rows direction call entries)) (sym view_is)
    (one_called rows own direction call entries now stand there going
    (subst (λ (w : Toward). LinkStandsFor (sizes_by rows direction) now (after_call (sizes_by rows direction) (entries (direction / 2)) (call w))) way_is
    (stands (sizes_by rows direction) (entries (direction / 2)) (stands_at rows own entries direction held stand there here)))))

-- what the link of a direction stands for
pub stood_at : (rows : List LinkRow) (links own : List LinkHeld) (direction at : ℕ) (entries : ℕ → List LinkEntry) (held : LinkHeld) → links ≡ own → at ≡ direction / 2 → held ≡ slice_index_or links at held → LinksStandFor rows own entries → IsDirection own direction
    → LinkStandsFor (sizes_by rows direction) held (entries (direction / 2))
stood_at rows links own direction at entries held view_is at_is held_is stand there =
    stands_at rows own entries direction held stand there (held_is ∙ ap (λ (l : List LinkHeld). slice_index_or l at held) view_is ∙ ap (λ (n : ℕ). slice_index_or own n held) at_is)

-- of links without a landing that passed, that of a direction has none
pub goes_at : (links own : List LinkHeld) (direction at : ℕ) (held : LinkHeld) → links ≡ own → at ≡ direction / 2 → held ≡ slice_index_or links at held → AreGoing own → IsDirection own direction → held.going ≡ true
goes_at links own direction at held view_is at_is held_is going there =
    ap (λ (h : LinkHeld). h.going) (held_is ∙ ap (λ (l : List LinkHeld). slice_index_or l at held) view_is ∙ ap (λ (n : ℕ). slice_index_or own n held) at_is)
    ∙ going (direction / 2) held (link_there own direction there)

-- a link's output queue has room where its entries say so
room_in : (link : LinkFields) (e : EndFields) (p : EndParts) → EndStandsFor link e p → nat_lt (length (output_queue p)) link.output ≡ true → length e.queue < e.setup.output
room_in link e p stands room =
    let less = ltb-true (length (output_queue p)) link.output room in
    let long : length e.queue ≡ length (output_queue p) = ap (λ (l : List PacketFields). length l) stands.queue in
    let most : e.setup.output ≡ link.output = ap (λ (l : LinkFields). l.output) stands.setup in
    omega arith

pub room_at : (link : LinkFields) (held : LinkHeld) (past : List LinkEntry) (d : Toward) → LinkStandsFor link held past → has_room link d past ≡ true → length (sending_end d held).queue < (sending_end d held).setup.output
room_at link held past Forth stands room = room_in link held.a (parts_of link Forth past) stands.a room
room_at link held past Back stands room = room_in link held.b (parts_of link Back past) stands.b room

-- a packet that fits the link may be handed to it
pub fit_at : (link : LinkFields) (held : LinkHeld) (past : List LinkEntry) (d : Toward) (packet : PacketFields) → LinkStandsFor link held past → IsTaken link.profile packet → IsTaken (sending_end d held).setup.profile packet
fit_at link held past Forth packet stands fit = subst (λ (l : LinkFields). IsTaken l.profile packet) (sym stands.a.setup) fit
fit_at link held past Back packet stands fit = subst (λ (l : LinkFields). IsTaken l.profile packet) (sym stands.b.setup) fit

-- what is fed fits the packet under way, by the link's entries
pub fed_at : (link : LinkFields) (held : LinkHeld) (past : List LinkEntry) (d : Toward) (feed : Feed) → LinkStandsFor link held past → IsFed (under_way link.profile (sender_entries link d past)) feed → IsFed (sending_end d held).sender.under_way feed
fed_at link held past Forth feed stands fed =
    subst (λ (u : Option UnderWay). IsFed u feed) (sym (stands.a.sender.begun ∙ ap (λ (q : Profile). under_way q (sender_entries link Forth past)) stands.a.profile)) fed
fed_at link held past Back feed stands fed =
    subst (λ (u : Option UnderWay). IsFed u feed) (sym (stands.b.sender.begun ∙ ap (λ (q : Profile). under_way q (sender_entries link Back past)) stands.b.profile)) fed

-- a link that stays is put back
pub put_back : (links own : List LinkHeld) (at : ℕ) (held now : LinkHeld) → links ≡ own → held ≡ slice_index_or links at held → now ≡ held → slice_set links at now ≡ own
put_back links own at held now view_is held_is same = ap (slice_set links at) (same ∙ held_is) ∙ set-get_or links at held ∙ view_is

pub record KeptBy (rows : List LinkRow) (entries : ℕ → List LinkEntry) (direction : ℕ) : Type 0 where
  pub kept : IsKept (sizes_by rows direction) (entries (direction / 2))

-- the entries of a direction's link are such as a link may have
first_held : (rows : List LinkRow) (links : List LinkHeld) (entries : ℕ → List LinkEntry) (link : ℕ) → LinksStandFor rows links entries → link < length links → LinkHeld
first_held rows [] entries link stand there = absurd (omega arith)
first_held rows (held ∷ rest) entries link stand there = held

pub one_there : (rows : List LinkRow) (links : List LinkHeld) (entries : ℕ → List LinkEntry) (direction : ℕ) → LinksStandFor rows links entries → direction < 2 * length rows → KeptBy rows entries direction
one_there rows links entries direction stand there =
    let less : direction / 2 < length links = omega (arith, stand.count) in
    record { kept = (stand.stand (direction / 2) (first_held rows links entries (direction / 2) stand less) less).kept }

-- whether a link can take a packet that is forwarded, by its entries
pub ready_by : (link : LinkFields) (held : LinkHeld) (past : List LinkEntry) (d : Toward) (flits : ℕ) → LinkStandsFor link held past → is_ready (sending_end d held) flits ≡ may_pass_on (view_in link d past Waiting) flits
ready_by link held past Forth flits stands = ready-held link held.a (parts_of link Forth past) flits stands.a ∙ may-in link Forth past flits
ready_by link held past Back flits stands = ready-held link held.b (parts_of link Back past) flits stands.b ∙ may-in link Back past flits
