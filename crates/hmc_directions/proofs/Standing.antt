-- What the ends of a direction stand for.
use Rattle.std.proofs.Common.{◌≡◌, ◌<◌, ◌/◌, ◌∙◌, ℕ, true, List, Option, length, refl, sym, ap, subst, arith}
use Rattle.std.specs.Prelude.{nat_lt, slice_get, slice_index_or, slice_set}
use Rattle.std.proofs.lemmas.Bool.Decides.{nat_tests}
use Rattle.hmc_codes.specs.Link.{LinkFields}
use Rattle.hmc_case.specs.declared.setup.LinkRow.{LinkRow}
use Rattle.hmc_codes.specs.declared.profile.Profile.{Profile}
use Rattle.hmc_packet.specs.Packet.{PacketFields}
use Rattle.hmc_packet.specs.declared.feed.Feed.{Feed}
use Rattle.hmc_packet.specs.declared.feed.Feed.TheVariants.{Waiting}
use Rattle.hmc_routes.specs.Directions.{other}
use Rattle.hmc_send.specs.Entries.{under_way}
use Rattle.hmc_send.specs.Given.{IsTaken}
use Rattle.hmc_send.specs.IsSender.{IsFed}
use Rattle.hmc_send.specs.LinkCalls.{has_room, view_in, may_pass_on, names_flits}
use Rattle.hmc_send.specs.LinkEntries as ways
use Rattle.hmc_send.specs.LinkEntries.{LinkEntry, receiver_entries}
use Rattle.hmc_send.specs.LinkSenders.{sender_entries, queue_in}
use Rattle.hmc_send.specs.declared.under_way.UnderWay.{UnderWay}
use Rattle.hmc_send.specs.declared.toward.Toward.{Toward}
use Rattle.hmc_send.specs.declared.toward.Toward.TheVariants.{Forth, Back}
use Rattle.hmc_ends.specs.Answers.{front_in}
use Rattle.hmc_ends.specs.End.{EndFields, is_ready}
use Rattle.hmc_ends.specs.Parts.{parts_of}
use Rattle.hmc_ends.specs.StandsFor.{EndStandsFor, EndsStandFor, CanForward}
use Rattle.hmc_ends.proofs.Begins.{may-in}
use Rattle.hmc_ends.proofs.Throughs.{ready-held}
use Rattle.hmc_packet.specs.Head.{head_in}
use Rattle.hmc_journal.specs.Links.{toward}
use Rattle.hmc_directions.specs.Ends.{EndsHold}
use Rattle.hmc_kept.specs.Called.{sizes_by}
use Rattle.std.proofs.lemmas.List.{length-set, get_or-set_same, get_or-set_other}
use Rattle.hmc_directions.proofs.Calls.{Changed, there_is, other_there, other_apart}

-- an end that was read at a place of the list
pub read_at : (items own : List EndFields) (at direction : ℕ) (e : EndFields) → items ≡ own → at ≡ direction → direction < length own → e ≡ slice_index_or items at e → (d : EndFields) → slice_index_or own direction d ≡ e
read_at items own at direction e view is less read d =
    there_is own direction d e less ∙ ap (λ (n : ℕ). slice_index_or own n e) (sym is) ∙ ap (λ (l : List EndFields). slice_index_or l at e) (sym view) ∙ sym read

-- the end at a place, whatever stands in for one that isn't there
pub any_at : (own : List EndFields) (at : ℕ) (e : EndFields) → at < length own → (d : EndFields) → slice_index_or own at d ≡ slice_index_or own at e
any_at own at e less d = there_is own at d e less

-- the two ends of a direction
pub both_at : (rows : List LinkRow) (own : List EndFields) (entries : ℕ → List LinkEntry) (direction : ℕ) (s l : EndFields) → EndsHold rows own entries → direction < length own → ((d : EndFields) → slice_index_or own direction d ≡ s) → ((d : EndFields) → slice_index_or own (other direction) d ≡ l)
    → EndsStandFor (sizes_by rows direction) (toward direction) s l (entries (direction / 2))
both_at rows own entries direction s l hold less near far =
    subst (λ (e : EndFields). EndsStandFor (sizes_by rows direction) (toward direction) s e (entries (direction / 2))) (far s)
    (subst (λ (e : EndFields). EndsStandFor (sizes_by rows direction) (toward direction) e (slice_index_or own (other direction) s) (entries (direction / 2))) (near s) (hold.stand direction s less))

-- the room in an output queue
lt_of : (a b : ℕ) → nat_lt a b ≡ true → a < b
lt_of a b is = grind (arith, nat_tests)

pub room_of : (link : LinkFields) (w : Toward) (past : List LinkEntry) (s : EndFields) → EndStandsFor link s (parts_of link w past) → has_room link w past ≡ true → length s.queue < s.setup.output
room_of link w past s is has =
    let less : length (queue_in link w past) < link.output = lt_of (length (queue_in link w past)) link.output has in
    subst (λ (q : List PacketFields). length q < s.setup.output) (sym is.queue) (subst (λ (x : LinkFields). length (queue_in link w past) < x.output) (sym is.setup) less)

pub fit_of : (link : LinkFields) (s : EndFields) (packet : PacketFields) → s.setup ≡ link → IsTaken link.profile packet → IsTaken s.setup.profile packet
fit_of link s packet is fit = subst (λ (x : LinkFields). IsTaken x.profile packet) (sym is) fit

-- the buffer and the receiver where a direction lands
pub front_by : (link : LinkFields) (w : Toward) (past : List LinkEntry) (l : EndFields) → EndStandsFor link l (parts_of link (ways.other w) past) → slice_get l.buffer 0 ≡ front_in link w past
front_by link Forth past l is = ap (λ (b : List PacketFields). slice_get b 0) is.buffer
front_by link Back past l is = ap (λ (b : List PacketFields). slice_get b 0) is.buffer

pub received_by : (link : LinkFields) (w : Toward) (past : List LinkEntry) → (parts_of link (ways.other w) past).received ≡ receiver_entries w past
received_by link Forth past = refl
received_by link Back past = refl

-- what is fed
pub fed_of : (link : LinkFields) (w : Toward) (past : List LinkEntry) (s : EndFields) (feed : Feed) → EndStandsFor link s (parts_of link w past) → IsFed (under_way link.profile (sender_entries link w past)) feed → IsFed s.sender.under_way feed
fed_of link w past s feed is fed =
    subst (λ (u : Option UnderWay). IsFed u feed) (sym (is.sender.begun ∙ ap (λ (r : Profile). under_way r (sender_entries link w past)) is.profile)) fed

-- whether an end can take a packet that is forwarded
pub ready_of : (link : LinkFields) (w : Toward) (past : List LinkEntry) (s : EndFields) (flits : ℕ) → EndStandsFor link s (parts_of link w past) → is_ready s flits ≡ may_pass_on (view_in link w past Waiting) flits
ready_of link w past s flits is = ready-held link s (parts_of link w past) flits is ∙ may-in link w past flits

pub can_pass : (link : LinkFields) (w : Toward) (past : List LinkEntry) (s l : EndFields) (head : List ℕ) (flits : ℕ) → EndsStandFor link w s l past → may_pass_on (view_in link w past Waiting) flits ≡ true → names_flits flits (head_in head) ≡ true → CanForward s head flits
can_pass link w past s l head flits both ready named = record {
  link = link;
  d = w;
  past = past;
  sizes = both.sizes;
  kept = both.kept;
  stands = both.sending;
  ready = ready_of link w past s flits both.sending ∙ ready;
  named = named;
}

-- an end that was put back at its place
pub put_is : (rows : List LinkRow) (items own : List EndFields) (at direction : ℕ) (e : EndFields) (entries : ℕ → List LinkEntry) → items ≡ own → at ≡ direction → EndsHold rows (slice_set own direction e) entries → EndsHold rows (slice_set items at e) entries
put_is rows items own at direction e entries view is hold =
    subst (λ (n : ℕ). EndsHold rows (slice_set items n e) entries) (sym is) (subst (λ (l : List EndFields). EndsHold rows (slice_set l direction e) entries) (sym view) hold)

-- ---- three changes: of an end, of the other end of its link, and of the first again

pub far_after : (items own : List EndFields) (at at2 d : ℕ) (e l : EndFields) → items ≡ own → at ≡ d → at2 ≡ other d → other d < length own → l ≡ slice_index_or (slice_set items at e) at2 l → (x : EndFields) → slice_index_or own (other d) x ≡ l
far_after items own at at2 d e l view is is2 there read x =
    there_is own (other d) x l there ∙ sym (get_or-set_other own d (other d) e l (other_apart d))
    ∙ ap (λ (n : ℕ). slice_index_or (slice_set own d e) n l) (sym is2) ∙ ap (λ (n : ℕ). slice_index_or (slice_set own n e) at2 l) (sym is) ∙ ap (λ (m : List EndFields). slice_index_or (slice_set m at e) at2 l) (sym view) ∙ sym read

pub near_after : (items own : List EndFields) (at at2 at3 d : ℕ) (e l s : EndFields) → items ≡ own → at ≡ d → at2 ≡ other d → at3 ≡ d → d < length own → s ≡ slice_index_or (slice_set (slice_set items at e) at2 l) at3 s → s ≡ e
near_after items own at at2 at3 d e l s view is is2 is3 less read =
    read ∙ ap (λ (n : ℕ). slice_index_or (slice_set (slice_set items at e) at2 l) n s) is3 ∙ ap (λ (n : ℕ). slice_index_or (slice_set (slice_set items at e) n l) d s) is2
    ∙ get_or-set_other (slice_set items at e) (other d) d l s (λ same. other_apart d (sym same))
    ∙ ap (λ (n : ℕ). slice_index_or (slice_set items n e) d s) is ∙ ap (λ (m : List EndFields). slice_index_or (slice_set m d e) d s) view ∙ get_or-set_same own d e s less

pub changed_both : (rows : List LinkRow) (own : List EndFields) (entries : ℕ → List LinkEntry) (d : ℕ) (e s l : EndFields) → EndsHold rows own entries → d < length own → Changed own (slice_set (slice_set (slice_set own d e) (other d) l) d s) d s l
changed_both rows own entries d e s l hold less =
    let one : length (slice_set own d e) ≡ length own = length-set own d e in
    let two : length (slice_set (slice_set own d e) (other d) l) ≡ length own = length-set (slice_set own d e) (other d) l ∙ one in
    let there = other_there rows own entries d hold less in
    record {
      count = length-set (slice_set (slice_set own d e) (other d) l) d s ∙ two;
      here = λ x. get_or-set_same (slice_set (slice_set own d e) (other d) l) d s x (omega (arith, two));
      there = λ x. get_or-set_other (slice_set (slice_set own d e) (other d) l) d (other d) s x (other_apart d) ∙ get_or-set_same (slice_set own d e) (other d) l x (omega (arith, one, there));
      rest = λ at x not_one not_two. get_or-set_other (slice_set (slice_set own d e) (other d) l) d at s x not_one ∙ get_or-set_other (slice_set own d e) (other d) at l x not_two ∙ get_or-set_other own d at e x not_one;
    }

pub put_three : (rows : List LinkRow) (items own : List EndFields) (at at2 at3 d : ℕ) (e s l : EndFields) (entries : ℕ → List LinkEntry) → items ≡ own → at ≡ d → at2 ≡ other d → at3 ≡ d → EndsHold rows (slice_set (slice_set (slice_set own d e) (other d) l) d s) entries
    → EndsHold rows (slice_set (slice_set (slice_set items at e) at2 l) at3 s) entries
put_three rows items own at at2 at3 d e s l entries view is is2 is3 hold =
    subst (λ (n : ℕ). EndsHold rows (slice_set (slice_set (slice_set items at e) at2 l) n s) entries) (sym is3)
    (subst (λ (n : ℕ). EndsHold rows (slice_set (slice_set (slice_set items at e) n l) d s) entries) (sym is2)
    (subst (λ (n : ℕ). EndsHold rows (slice_set (slice_set (slice_set items n e) (other d) l) d s) entries) (sym is)
    (subst (λ (m : List EndFields). EndsHold rows (slice_set (slice_set (slice_set m d e) (other d) l) d s) entries) (sym view) hold)))
