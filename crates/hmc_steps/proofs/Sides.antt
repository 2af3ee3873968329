-- A direction by numbers from hmc_wire's lists of it, and what a sender sees of it.
use Rattle.std.proofs.Common.{◌≡◌, ◌∙◌, ◌-◌, ◌≤◌, ℕ, Bool, true, false, List, [], ◌∷◌, length, drop, take, map, Option, Some, None, refl, sym, ap, arith}
use Rattle.std.specs.Prelude.{◌==◌, nat_lt, filter, is_some, slice_get}
use Rattle.std.proofs.lemmas.Bool.{eqb-true, eq-eqb}
use Rattle.std.proofs.lemmas.List.Sums.{sum_by-take-drop}
use Rattle.std.proofs.lemmas.Option.{slice_get_within}
use Rattle.hmc_codes.specs.declared.profile.Profile.{Profile}
use Rattle.hmc_packet.specs.declared.feed.Feed.{Feed}
use Rattle.hmc_packet.specs.declared.view.Mode as outer_mode
use Rattle.hmc_packet.specs.declared.view.Mode.TheVariants.{Train, Abort, Good}
use Rattle.hmc_packet.specs.Landings as receipts
use Rattle.hmc_packet.specs.Packet.{PacketFields, flits_of}
use Rattle.hmc_send.specs.Choice.{is_train}
use Rattle.hmc_send.specs.Choice as outer_choice
use Rattle.hmc_send.specs.Entries as entries
use Rattle.hmc_send.specs.Entries.{SenderEntry, Part, unfinished}
use Rattle.hmc_send.specs.Places.{Place, is_token, flits_at, flits_in}
use Rattle.hmc_send.proofs.Lists.{get-none}
use Rattle.hmc_numbers.specs.Weights.{Weight, flits_to}
use Rattle.hmc_numbers.specs.Direction.{Direction, Reached, Reached as far, begun}
use Rattle.hmc_numbers.specs.Pair.{Half}
use Rattle.hmc_codes.specs.Profile.{window_of as window}
use Rattle.hmc_numbers.specs.Pointers.{pointer}
use Rattle.hmc_wire.specs.Conditions.{AreFed}
use Rattle.hmc_wire.specs.EntryTurns.{left_of}
use Rattle.hmc_wire.proofs.Actions.{SideOf}
use Rattle.hmc_wire.proofs.ActionLaw.{Linked}
use Rattle.hmc_wire.proofs.GrammarLandings.{Mode, Mode as modes}
use Rattle.hmc_wire.proofs.GrammarLandings as inner
use Rattle.hmc_wire.proofs.Links.{given_by, env-of}
use Rattle.hmc_wire.proofs.Matches.{IsAt}
use Rattle.hmc_wire.proofs.PacketGrammar.{grammar}
use Rattle.hmc_wire.proofs.Parts.{Sends, PartsFit}
use Rattle.hmc_wire.proofs.Places.{AgreesWith, upto-sum, upto-all}
use Rattle.hmc_wire.proofs.Senders.{Env, begun-length, position-is}
use Rattle.hmc_wire.proofs.Spelled.{Sent}
use Rattle.hmc_wire.proofs.Ways.{Lists, Way}
use Rattle.hmc_wire.proofs.Words.{mode_as}
use Rattle.hmc_link_state.specs.Choice.{is_training, is_abort}
use Rattle.hmc_link_state.specs.Sees.{mode_of}
use Rattle.hmc_link_state.specs.State.{Setup, Side, front_of}
use Rattle.hmc_link_state.specs.Round.{sight}
use Rattle.hmc_link_state.specs.Facts.{SideFacts}
use Rattle.hmc_link_state.proofs.StepFacts.{same_ack}
use Rattle.hmc_steps.specs.SideIs.{mode_by}
use Rattle.hmc_steps.proofs.Picks.{Sees, size_of}
use Rattle.hmc_steps.proofs.Codes.{lt-not, lt-is}

-- a direction with these numbers and lists
abbrev pub side_of : (q : Profile) → Half → Lists q → (ack missing : ℕ) → Side
side_of q h mine ack missing = record {
  half = h;
  starts = entries.starts mine.sender;
  others = entries.others mine.sender;
  go_back = entries.go_back mine.sender;
  is_open = entries.is_open mine.sender;
  ack_sent = ack;
  steady = receipts.training q mine.receiver;
  missing = missing;
  queue = map flits_of (drop (entries.taken_fronts mine.sender) mine.handed);
  buffer = map flits_of (drop mine.taken (filter is_token (receipts.accepted q mine.receiver)));
}

abbrev pub setup : (line retry adv : ℕ) → Setup
setup line retry adv = record { line = line; tokens = adv; retry = retry }

-- what is known of a direction beside the other one
pub record Here (q : Profile) (retry adv : ℕ) (mine theirs : Lists q) (own oth : SideOf (grammar q))
    (ack : ℕ) : Type 0 where
  pub s : Sent (grammar q)
  pub t : Sent (grammar q)
  pub way : Way q retry mine own
  pub other_way : Way q retry theirs oth
  pub linked : Linked (grammar q) s retry adv own oth
  pub other_linked : Linked (grammar q) t retry adv oth own
  pub agree : AgreesWith q s mine.sender
  pub other_agree : AgreesWith q t theirs.sender
  pub fed : AreFed q mine.sender
  pub shown : entries.shown_pointer mine.sender ≡ pointer q oth.half.direction.first ack

pub env-here : (q : Profile) (retry adv : ℕ) (mine theirs : Lists q) (own oth : SideOf (grammar q))
    (ack : ℕ) (feed : Feed) (h : Here q retry adv mine theirs own oth ack) →
    Env q h.s retry adv mine.sender (given_by q adv mine theirs feed) own.half oth.half
env-here q retry adv mine theirs own oth ack feed h =
    env-of q retry adv mine theirs h.s h.t own oth feed h.way h.other_way h.linked h.other_linked
    h.other_agree h.fed

-- ---- the mode

pub far-mode : (q : Profile) (s : Sent (grammar q)) (ps : List Weight) (x : Reached) (m : Mode)
    (b : Bool) (fs : List (List ℕ)) (o : outer_mode.Mode) → IsAt (grammar q) s ps x m b fs →
    mode_as o ≡ m → mode_of x ≡ mode_by o
far-mode q s ps far.training m b fs Train at e = refl
far-mode q s ps far.training m b fs Abort at e =
    let clash : modes.abort ≡ modes.training = e ∙ at.0 in absurd (cc clash)
far-mode q s ps far.training m b fs Good at e =
    let clash : modes.good ≡ modes.training = e ∙ at.0 in absurd (cc clash)
far-mode q s ps far.aborting m b fs Train at e =
    let clash : modes.training ≡ modes.abort = e ∙ at.0 in absurd (cc clash)
far-mode q s ps far.aborting m b fs Abort at e = refl
far-mode q s ps far.aborting m b fs Good at e =
    let clash : modes.good ≡ modes.abort = e ∙ at.0 in absurd (cc clash)
far-mode q s ps far.between m b fs Train at e =
    let clash : modes.training ≡ modes.good = e ∙ at.0 in absurd (cc clash)
far-mode q s ps far.between m b fs Abort at e =
    let clash : modes.abort ≡ modes.good = e ∙ at.0 in absurd (cc clash)
far-mode q s ps far.between m b fs Good at e = refl
far-mode q s ps (far.inside n k) m b fs Train at e =
    let clash : modes.training ≡ modes.good = e ∙ at.0 in absurd (cc clash)
far-mode q s ps (far.inside n k) m b fs Abort at e =
    let clash : modes.abort ≡ modes.good = e ∙ at.0 in absurd (cc clash)
far-mode q s ps (far.inside n k) m b fs Good at e = refl
far-mode q s ps far.spoilt m b fs Train at e =
    let clash : modes.training ≡ modes.good = e ∙ at.0 in absurd (cc clash)
far-mode q s ps far.spoilt m b fs Abort at e =
    let clash : modes.abort ≡ modes.good = e ∙ at.0 in absurd (cc clash)
far-mode q s ps far.spoilt m b fs Good at e = refl

-- the receiver's mode by numbers is that of its entries
pub mode-here : (q : Profile) (retry adv : ℕ) (theirs : Lists q) (t : Sent (grammar q))
    (oth own : SideOf (grammar q)) → Way q retry theirs oth →
    Linked (grammar q) t retry adv oth own →
    mode_of oth.half.direction.far ≡ mode_by (receipts.mode theirs.receiver)
mode-here q retry adv theirs t oth own is linked =
    far-mode q t oth.half.direction.first oth.half.direction.far
    (inner.mode (grammar q) oth.received) (inner.is_spoilt (grammar q) oth.received)
    (inner.pending (grammar q) oth.received) (receipts.mode theirs.receiver) linked.matches.place
    (is.mirrors.mode ∙ ap (inner.mode (grammar q)) (sym is.received))

training-by : (o : outer_mode.Mode) → is_training (mode_by o) ≡ is_train o
training-by Train = refl
training-by Abort = refl
training-by Good = refl

abort-by : (o : outer_mode.Mode) → is_abort (mode_by o) ≡ outer_choice.is_abort o
abort-by Train = refl
abort-by Abort = refl
abort-by Good = refl

-- ---- the rest of what is seen

both-same : (a b c d : ℕ) → (a ≡ b → c ≡ d) → (c ≡ d → a ≡ b) → (a == b) ≡ (c == d)
both-same a b c d f g = by_tests (a == b) (c == d) refl refl
  where
    by_tests : (x y : Bool) → (a == b) ≡ x → (c == d) ≡ y → x ≡ y
    by_tests true true e h = refl
    by_tests true false e h =
        let clash : true ≡ false = sym (eq-eqb c d (f (eqb-true a b e))) ∙ h in absurd (cc clash)
    by_tests false true e h =
        let clash : true ≡ false = sym (eq-eqb a b (g (eqb-true c d h))) ∙ e in absurd (cc clash)
    by_tests false false e h = refl

more-same : (l : List Place) (n : ℕ) (x : Option Place) → slice_get l n ≡ x →
    nat_lt n (length l) ≡ is_some x
more-same l n None e = lt-not n (length l) (get-none l n e)
more-same l n (Some x) e = lt-is n (length l) (slice_get_within l n x e)

front-same : (l : List PacketFields) → front_of (map flits_of l) ≡ size_of (slice_get l 0)
front-same [] = refl
front-same (p ∷ l) = refl

pub room-same : (q : Profile) (retry : ℕ) (t : List SenderEntry) (w : Direction) → Sends q t w →
    retry - (flits_to w.first (begun w) - flits_to w.first w.acked) ≡ entries.room q retry t
room-same q retry t w sends =
    let l = entries.places q t in
    let b = begun-length q t w sends in
    let all : flits_to w.first (begun w) ≡ flits_in l =
    (λ i. flits_to (sends.first i) (b i)) ∙ upto-all (λ y. y.flits) l in
    let low : flits_to w.first w.acked ≡ flits_in (take (entries.acked t) l) =
    (λ i. flits_to (sends.first i) (sends.acked i))
    ∙ upto-sum (λ y. y.flits) l (entries.acked t) in
    let parts = sum_by-take-drop flits_at l (entries.acked t) in
    omega arith

pub part-left : (q : Profile) (t : List SenderEntry) → PartsFit q t → (p : Part) →
    unfinished t ≡ Some p → 1 ≤ left_of (Some p)
part-left q t parts p is = let m = (parts p is).more in omega arith

pub sees : (q : Profile) (line retry adv : ℕ) (mine theirs : Lists q) (own oth : SideOf (grammar q))
    (ack their_ack missing their_missing : ℕ) (feed : Feed) → retry ≤ window q →
    Here q retry adv mine theirs own oth ack →
    SideFacts (setup line retry adv) (side_of q own.half mine ack missing)
    (side_of q oth.half theirs their_ack their_missing) →
    SideFacts (setup line retry adv) (side_of q oth.half theirs their_ack their_missing)
    (side_of q own.half mine ack missing) →
    Sees q retry mine.sender (given_by q adv mine theirs feed)
    (sight (setup line retry adv) (side_of q own.half mine ack missing)
    (side_of q oth.half theirs their_ack their_missing))
sees q line retry adv mine theirs own oth ack their_ack missing their_missing feed few h f g =
    let x = side_of q own.half mine ack missing in
    let y = side_of q oth.half theirs their_ack their_missing in
    let env = env-here q retry adv mine theirs own oth ack feed h in
    let mode = mode-here q retry adv theirs h.t oth own h.other_way h.other_linked in
    let sends = h.way.sends in
    let given = given_by q adv mine theirs feed in
    record {
      training = ap is_training mode ∙ training-by (receipts.mode theirs.receiver);
      abort = ap is_abort mode ∙ abort-by (receipts.mode theirs.receiver);
      left = sends.left;
      is_there = refl;
      clears = sends.clears;
      starts = refl;
      go_back = refl;
      long = refl;
      more =
          (λ i. nat_lt (position-is q mine.sender own.half.direction sends i)
          (begun-length q mine.sender own.half.direction sends i))
          ∙ more-same (entries.places q mine.sender) (entries.position q mine.sender) _ refl;
      is_open = refl;
      front = front-same (drop (entries.taken_fronts mine.sender) mine.handed);
      held = sym env.held;
      room = room-same q retry mine.sender own.half.direction sends;
      due = sym env.due;
      acknowledged =
          both-same ack oth.half.direction.accepted given.own.rrp
          (entries.shown_pointer mine.sender)
          (λ e. env.rrp ∙ ap (pointer q oth.half.direction.first) (sym e) ∙ sym h.shown)
          (λ e. same_ack q (setup line retry adv) few x y (f, g) (sym h.shown ∙ sym e ∙ env.rrp));
      parts = part-left q mine.sender h.way.parts;
    }
