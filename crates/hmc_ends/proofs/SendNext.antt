-- An end that sends, by what its sender answers.
use Rattle.std.proofs.Common.{◌≡◌, ◌∙◌, ◌≤◌, ◌<◌, ◌+◌, ◌-◌, ℕ, Bool, true, false, List, [], ◌∷◌, ◌++◌, length, drop, Option, refl, sym, ap, subst, arith, length-append, Fits, w32}
use Rattle.std.specs.Prelude.{All, slice_get, nat_le}
use Rattle.std.proofs.lemmas.List.{length-drop, get_or-drop}
use Rattle.hmc_codes.specs.Link.{LinkFields, IsLinkSetup}
use Rattle.hmc_codes.specs.declared.profile.Profile.{Profile}
use Rattle.hmc_packet.specs.declared.feed.Feed.{Feed}
use Rattle.hmc_packet.specs.declared.view.View.{View}
use Rattle.hmc_packet.specs.declared.what.What.{What}
use Rattle.hmc_packet.specs.Packet.{PacketFields}
use Rattle.hmc_packet.specs.Landings.{receiver_view}
use Rattle.hmc_send.specs.Choice as send
use Rattle.hmc_send.specs.Choice.{choice}
use Rattle.hmc_send.specs.Entries.{SenderEntry, Given, UnderWay, under_way}
use Rattle.hmc_send.specs.Given.{IsFrontFit, given_of, account_after, fronts_taken}
use Rattle.hmc_send.specs.IsSender.{IsFed}
use Rattle.hmc_send.specs.LinkCalls.{LinkCall, next_entry, sent_entry, is_full, view_in}
use Rattle.hmc_send.specs.LinkEntries.{LinkEntry}
use Rattle.hmc_send.specs.LinkLines.{StampedFlit, line}
use Rattle.hmc_send.specs.LinkSenders.{sender_entries, given_after}
use Rattle.hmc_send.specs.Sender.{after_send}
use Rattle.hmc_send.specs.StandsFor.{StandsFor, entries_after}
use Rattle.hmc_send.specs.declared.sent.Sent.{Sent}
use Rattle.hmc_send.specs.declared.sent.Sent.TheVariants.{Out, Starved}
use Rattle.hmc_send.specs.declared.state.State.{State}
use Rattle.hmc_send.specs.declared.toward.Toward.{Toward}
use Rattle.hmc_send.specs.declared.toward.Toward.TheVariants.{Forth, Back}
use Rattle.hmc_tokens.specs.declared.account.Account.{Account}
use Rattle.hmc_wire.specs.Conditions.{IsFeed, AreMet, AreHanded, AreFed}
use Rattle.hmc_wire.specs.LinkLaws.{IsKept}
use Rattle.hmc_ends.specs.declared.link_sent.LinkSent.{LinkSent}
use Rattle.hmc_ends.specs.Answers.{link_sent, after_call}
use Rattle.hmc_ends.specs.End.{EndFields}
use Rattle.hmc_ends.specs.Parts.{EndParts, parts_of, flits_under_way, send_given, view_by, parts_sent, parts_after_send}
use Rattle.hmc_ends.specs.StandsFor.{EndStandsFor, EndsStandFor, CanSend}
use Rattle.hmc_ends.proofs.Fed.{sender-is}
use Rattle.hmc_ends.proofs.Lists.{length-map}
use Rattle.hmc_ends.proofs.Moves.{moves-of}
use Rattle.hmc_ends.proofs.PartLaws.{part_laws}
use Rattle.hmc_ends.proofs.Projections.{sent-here, sent-there}
use Rattle.hmc_ends.proofs.SendStands.{given-is, stands-sent, after_flit}
use Rattle.hmc_ends.proofs.Steps.{Steps, kept-more, both-more, both-same}

pub all-drop : (P : PacketFields → Type 0) (n : ℕ) (l : List PacketFields) → All P l → All P (drop n l)
all-drop P n l all = λ k d lt. let size = length-drop n l in subst P (sym (get_or-drop n l k d)) (all (n + k) d (omega arith))

pub line-more : (l m : List (List ℕ)) (flit : List ℕ) (most : ℕ) → m ≡ l ++ flit ∷ [] → length l < most → length m ≤ most
line-more l m flit most is lt = let e = ap (λ (x : List (List ℕ)). length x) is ∙ length-append l (flit ∷ []) in omega arith

-- the flits under way fit their number
pub transit-fits : (a b c : ℕ) → a ≤ 1024 → b ≤ 1024 → Fits w32 (a + (b - c))
transit-fits a b c few held = omega arith

-- what a send may count on
pub record Few (e : EndFields) : Type 0 where
  pub transit : e.transit ≤ 1024
  pub held : e.account.held ≤ 1024

pub few-of : (e : EndFields) (feed : Feed) → CanSend e feed → Few e
few-of e feed can =
    let laws = part_laws can.link can.d can.past can.kept in
    let most = can.sizes.tokens in
    let a = laws.few_transit in
    let b = laws.few_held in
    let transit = can.stands.transit in
    let held = can.stands.held in
    record { transit = omega arith; held = omega arith }

-- the line is full exactly where the definition says so
pub full-is : (link : LinkFields) (e : EndFields) (p : EndParts) → EndStandsFor link e p → nat_le e.setup.line (length e.line) ≡ nat_le link.line (length (flits_under_way p))
full-is link e p s = (λ i. nat_le (s.setup i).line (length (s.line i))) ∙ ap (nat_le link.line) (length-map (λ (x : StampedFlit). x.flit) (flits_under_way p))

-- what is chosen is what the definition says
pub choice-is : (link : LinkFields) (e : EndFields) (p : EndParts) (own : View) (feed : Feed) → EndStandsFor link e p → own ≡ receiver_view link.profile p.received →
    choice e.sender.retry.profile (send.view_after e.sender.retry.profile e.sender.retry.flits p.sender (given_of own e.queue e.account feed)) ≡ choice link.profile (view_by link p feed)
choice-is link e p own feed s is = let given = given-is link e p own feed s is in λ i. choice (s.profile i) (send.view_after (s.profile i) (s.retry i) p.sender (given i))

pub send-next : (link : LinkFields) (d : Toward) (past : List LinkEntry) (e : EndFields) (own : View) (feed : Feed) (S : State) (Q : List PacketFields) (A : Account) (L : List (List ℕ)) (flit : List ℕ) (w : What) → IsKept link past → EndStandsFor link e (parts_of link d past) →
    own ≡ receiver_view link.profile (parts_of link d past).received → IsFed e.sender.under_way feed → IsFeed feed → IsFrontFit link.profile (slice_get e.queue 0) →
    Out flit w ≡ choice e.sender.retry.profile (send.view_after e.sender.retry.profile e.sender.retry.flits (sender_entries link d past) (given_of own e.queue e.account feed)) →
    StandsFor S (entries_after (given_of own e.queue e.account feed) (Out flit w) (sender_entries link d past)) →
    S ≡ after_send (given_of own e.queue e.account feed) (Out flit w) e.sender →
    Q ≡ drop (fronts_taken e.sender.under_way (Out flit w)) e.queue → A ≡ account_after e.sender.under_way (slice_get e.queue 0) (Out flit w) e.account → L ≡ e.line ++ flit ∷ [] →
    EndStandsFor link (record e { queue = Q; sender = S; line = L; transit = e.transit + (e.account.held - A.held); account = A }) (parts_sent link feed w flit (parts_of link d past))
send-next link d past e own feed S Q A L flit w kept s own_is fed feed_is front answer stands left queue account sent =
    let p = parts_of link d past in
    let q = link.profile in
    let given = given-is link e p own feed s own_is in
    let under : e.sender.under_way ≡ under_way q p.sender = s.sender.begun ∙ ap (λ (r : Profile). under_way r p.sender) s.profile in
    let chosen : choice q (view_by link p feed) ≡ Out flit w = sym (answer ∙ choice-is link e p own feed s own_is) in
    let fit : IsFrontFit q (send_given link p feed).front = subst (λ (l : List PacketFields). IsFrontFit q (slice_get l 0)) s.queue front in
    let moves = moves-of q link.retry p.sender (send_given link p feed) e.account flit w (sender-is link d past kept) (subst (λ (u : Option UnderWay). IsFed u feed) under fed) feed_is fit (sym s.due) chosen in
    let after = stands-sent link e p feed S flit w s (part_laws link d past kept) moves (left ∙ ap (λ (x : Given). after_send x (Out flit w) e.sender) given)
    (subst (λ (x : Given). StandsFor S (SenderEntry.sent x w flit ∷ p.sender)) given stands) in
    let same : record e { queue = Q; sender = S; line = L; transit = e.transit + (e.account.held - A.held); account = A } ≡ after_flit e S flit w =
    λ i. record e { queue = queue i; sender = S; line = sent i; transit = e.transit + (e.account.held - (account i).held); account = account i } in
    subst (λ (x : EndFields). EndStandsFor link x (parts_sent link feed w flit p)) (sym same) after

-- ---- a link that sends

fed-more : (link : LinkFields) (d : Toward) (feed : Feed) (w : What) (flit : List ℕ) (past : List LinkEntry) → IsFed (under_way link.profile (sender_entries link d past)) feed → IsFeed feed → AreMet link past → AreMet link (LinkEntry.sent d feed w flit ∷ past)
unfolding AreHanded AreFed sender_entries given_after
fed-more link Forth feed w flit past fits is met = record { handed = met.handed; forth = (fits, is, met.forth); back = met.back }
fed-more link Back feed w flit past fits is met = record { handed = met.handed; forth = met.forth; back = (fits, is, met.back) }

send-by : (d : Toward) (s l s' : EndFields) (feed : Feed) (link : LinkFields) (past : List LinkEntry) (full : Bool) (c : Sent) → next_entry link past (LinkCall.send d feed) ≡ sent_entry d feed full c → IsFed (under_way link.profile (sender_entries link d past)) feed → IsFeed feed →
    EndsStandFor link d s l past → EndStandsFor link s' (parts_after_send link feed (link_sent full c) (parts_of link d past)) → EndsStandFor link d s' l (after_call link past (LinkCall.send d feed))
send-by d s l s' feed link past true (Out flit w) next fits is both stands = both-same link d past (LinkCall.send d feed) s' l next (record { sizes = both.sizes; kept = both.kept; sending = stands; landing = both.landing })
send-by d s l s' feed link past true Starved next fits is both stands = both-same link d past (LinkCall.send d feed) s' l next (record { sizes = both.sizes; kept = both.kept; sending = stands; landing = both.landing })
send-by d s l s' feed link past false Starved next fits is both stands = both-same link d past (LinkCall.send d feed) s' l next (record { sizes = both.sizes; kept = both.kept; sending = stands; landing = both.landing })
send-by d s l s' feed link past false (Out flit w) next fits is both stands =
    both-more link d past (LinkCall.send d feed) (LinkEntry.sent d feed w flit) s' l next (record {
      sizes = both.sizes;
      kept = kept-more link past (LinkCall.send d feed) (LinkEntry.sent d feed w flit) next both.kept (fed-more link d feed w flit past fits is both.kept.met);
      sending = subst (EndStandsFor link s') (sym (sent-here link d feed w flit past)) stands;
      landing = subst (EndStandsFor link l) (sym (sent-there link d feed w flit past)) both.landing;
    })

-- the definition, of the parts of the end
next-is : (link : LinkFields) (d : Toward) (past : List LinkEntry) (feed : Feed) → next_entry link past (LinkCall.send d feed) ≡ sent_entry d feed (nat_le link.line (length (flits_under_way (parts_of link d past)))) (choice link.profile (view_by link (parts_of link d past) feed))
unfolding next_entry line given_after
next-is link d past feed = refl

pub answer-is : (link : LinkFields) (d : Toward) (past : List LinkEntry) (feed : Feed) → link_sent (nat_le link.line (length (flits_under_way (parts_of link d past)))) (choice link.profile (view_by link (parts_of link d past) feed)) ≡ link_sent (is_full link d past) (choice link.profile (view_in link d past feed))
unfolding line given_after
answer-is link d past feed = refl

pub send-steps : (d : Toward) (s l s' : EndFields) (feed : Feed) (x : LinkSent) → IsFed s.sender.under_way feed → IsFeed feed →
    ((link : LinkFields) (p : EndParts) → EndStandsFor link s p → x ≡ link_sent (nat_le link.line (length (flits_under_way p))) (choice link.profile (view_by link p feed))) →
    ((link : LinkFields) (d : Toward) (past : List LinkEntry) → IsKept link past → EndStandsFor link s (parts_of link d past) → EndStandsFor link s' (parts_after_send link feed x (parts_of link d past))) →
    Steps d (LinkCall.send d feed) s l s' l
send-steps d s l s' feed x fed is answer stands = record {
  after = λ link past both.
      let p = parts_of link d past in
      let sending = both.sending in
      let under : s.sender.under_way ≡ under_way link.profile p.sender = sending.sender.begun ∙ ap (λ (r : Profile). under_way r p.sender) sending.profile in
      send-by d s l s' feed link past (nat_le link.line (length (flits_under_way p))) (choice link.profile (view_by link p feed)) (next-is link d past feed) (subst (λ (u : Option UnderWay). IsFed u feed) under fed) is both
      (subst (λ (y : LinkSent). EndStandsFor link s' (parts_after_send link feed y p)) (answer link p sending) (stands link d past both.kept sending));
}

-- an end of a link may send what fits
pub can-send : (link : LinkFields) (d : Toward) (past : List LinkEntry) (s : EndFields) (feed : Feed) → IsLinkSetup link → IsKept link past → EndStandsFor link s (parts_of link d past) → IsFed s.sender.under_way feed → CanSend s feed
can-send link d past s feed sizes kept stands fed = record { link = link; d = d; past = past; sizes = sizes; kept = kept; stands = stands; fed = fed }
