-- An end after a packet is handed or taken, and after an unlock.
use Rattle.std.proofs.Common.{◌≡◌, ◌∙◌, ◌≤◌, ◌+◌, ◌-◌, ℕ, suc, false, List, [], ◌∷◌, ◌++◌, drop, take, Some, refl, sym, ap, arith, length-append, append-nil}
use Rattle.std.specs.Prelude.{slice_get}
use Rattle.std.proofs.lemmas.List.Sums.{sum_by_push}
use Rattle.hmc_codes.proofs.General.{drop-one_more}
use Rattle.hmc_codes.specs.Link.{LinkFields}
use Rattle.hmc_packet.specs.Landings.{ReceiverEntry, accepted}
use Rattle.hmc_packet.specs.Landings.ReceiverEntry.{Unlock}
use Rattle.hmc_packet.specs.Landings as packets
use Rattle.hmc_packet.specs.Packet.{PacketFields, flits_of}
use Rattle.hmc_codes.specs.declared.profile.Profile.{Profile}
use Rattle.hmc_receive.specs.Receiver.{ReceiverFields}
use Rattle.hmc_receive.specs.StandsFor.{ReceiverStandsFor}
use Rattle.hmc_send.specs.Entries.{places, taken_fronts}
use Rattle.hmc_send.specs.LinkTokens.{tokens_returned, flits_taken}
use Rattle.hmc_ends.specs.End.{EndFields}
use Rattle.hmc_ends.specs.Parts.{EndParts, parts_handed, parts_taken, parts_unlocked, parts_lost, tokens_accepted, buffer_of}
use Rattle.hmc_ends.specs.StandsFor.{EndStandsFor}
use Rattle.hmc_ends.proofs.Lists.{drop-push, front-longer, take-one_more}

-- ---- a packet is handed

pub stands-handed : (link : LinkFields) (e : EndFields) (p : EndParts) (packet : PacketFields) → EndStandsFor link e p → EndStandsFor link (record e { queue = e.queue ++ packet ∷ [] }) (parts_handed packet p)
stands-handed link e p packet s =
    let begun = s.begun in
    record {
      setup = s.setup;
      own = s.own;
      profile = s.profile;
      retry = s.retry;
      sender = s.sender;
      queue = ap (λ (l : List PacketFields). l ++ packet ∷ []) s.queue ∙ sym (drop-push (taken_fronts p.sender) p.handed packet s.begun);
      line = s.line;
      transit = s.transit;
      receiver = s.receiver;
      changed = s.changed;
      buffer = s.buffer;
      held = s.held;
      due = s.due;
      begun = (let k = length-append p.handed (packet ∷ []) in omega arith);
      crossed = s.crossed;
      taken = s.taken;
    }

-- ---- a packet is taken

due-more : (tokens taken returned flits : ℕ) → returned ≤ tokens + taken → (tokens + taken) - returned + flits ≡ (tokens + (taken + flits)) - returned
due-more tokens taken returned flits le = omega arith

taken-more : (link : LinkFields) (p : EndParts) (packet : PacketFields) → slice_get (buffer_of link p) 0 ≡ Some packet → flits_taken (suc p.takes) (accepted link.profile p.received) ≡ flits_taken p.takes (accepted link.profile p.received) + flits_of packet
taken-more link p packet is = ap packets.flits_in (take-one_more p.takes (tokens_accepted link p) packet is) ∙ sum_by_push flits_of (take p.takes (tokens_accepted link p)) packet

pub stands-taken : (link : LinkFields) (e : EndFields) (p : EndParts) (packet : PacketFields) → EndStandsFor link e p → slice_get e.buffer 0 ≡ Some packet →
    tokens_returned (places link.profile p.sender) ≤ link.tokens + flits_taken p.takes (accepted link.profile p.received) →
    EndStandsFor link (record e { buffer = drop 1 e.buffer; account = record e.account { due = e.account.due + flits_of packet } }) (parts_taken p)
stands-taken link e p packet s front due =
    let here : slice_get (buffer_of link p) 0 ≡ Some packet = ap (λ (l : List PacketFields). slice_get l 0) (sym s.buffer) ∙ front in
    let longer = front-longer p.takes (tokens_accepted link p) packet here in
    let taken = flits_taken p.takes (accepted link.profile p.received) in
    let returned = tokens_returned (places link.profile p.sender) in
    record {
      setup = s.setup;
      own = s.own;
      profile = s.profile;
      retry = s.retry;
      sender = s.sender;
      queue = s.queue;
      line = s.line;
      transit = s.transit;
      receiver = s.receiver;
      changed = s.changed;
      buffer = ap (drop 1) s.buffer ∙ sym (drop-one_more p.takes (tokens_accepted link p));
      held = s.held;
      due = ap (λ (n : ℕ). n + flits_of packet) s.due ∙ due-more link.tokens taken returned (flits_of packet) due
          ∙ ap (λ (n : ℕ). (link.tokens + n) - returned) (sym (taken-more link p packet here));
      begun = s.begun;
      crossed = s.crossed;
      taken = omega arith;
    }

-- ---- an unlock

pub accepted-unlock : (profile : Profile) (l : List ReceiverEntry) → accepted profile (Unlock ∷ l) ≡ accepted profile l
unfolding accepted
accepted-unlock profile l = append-nil (accepted profile l)

pub stands-unlocked : (link : LinkFields) (e : EndFields) (p : EndParts) (r : ReceiverFields) → EndStandsFor link e p → ReceiverStandsFor link.profile r (Unlock ∷ p.received) →
    EndStandsFor link (record e { receiver = r; changed = false }) (parts_unlocked p)
stands-unlocked link e p r s is =
    let same = sym (accepted-unlock link.profile p.received) in
    record {
      setup = s.setup;
      own = s.own;
      profile = s.profile;
      retry = s.retry;
      sender = s.sender;
      queue = s.queue;
      line = s.line;
      transit = s.transit;
      receiver = is;
      changed = refl;
      buffer = rw (accepted-unlock link.profile p.received) s.buffer;
      held = rw (accepted-unlock link.profile p.received) s.held;
      due = rw (accepted-unlock link.profile p.received) s.due;
      begun = s.begun;
      crossed = s.crossed;
      taken = rw (accepted-unlock link.profile p.received) s.taken;
    }

pub stands-lost : (link : LinkFields) (e : EndFields) (p : EndParts) → EndStandsFor link e p → EndStandsFor link e (parts_lost p)
stands-lost link e p s = record {
  setup = s.setup;
  own = s.own;
  profile = s.profile;
  retry = s.retry;
  sender = s.sender;
  queue = s.queue;
  line = s.line;
  transit = rw (accepted-unlock link.profile p.landed) s.transit;
  receiver = s.receiver;
  changed = s.changed;
  buffer = s.buffer;
  held = s.held;
  due = s.due;
  begun = s.begun;
  crossed = s.crossed;
  taken = s.taken;
}
