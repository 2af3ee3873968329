-- A link that begins to forward a packet.
use Rattle.std.proofs.Common.{◌≡◌, ◌∙◌, ℕ, Bool, true, List, sym, ap, subst}
use Rattle.hmc_codes.specs.Link.{LinkFields}
use Rattle.hmc_codes.specs.Flit.{IsFlit}
use Rattle.hmc_packet.specs.declared.feed.Feed.TheVariants.{Waiting}
use Rattle.hmc_packet.specs.Head.{head_in}
use Rattle.hmc_send.specs.LinkCalls.{LinkCall, may_pass_on, names_flits}
use Rattle.hmc_send.specs.LinkEntries.{LinkEntry}
use Rattle.hmc_send.specs.declared.toward.Toward.{Toward}
use Rattle.hmc_send.specs.declared.toward.Toward.TheVariants.{Forth, Back}
use Rattle.hmc_wire.specs.LinkLaws.{IsKept}
use Rattle.hmc_ends.specs.End.{EndFields, is_ready}
use Rattle.hmc_link.specs.Held.{LinkHeld, sending_end}
use Rattle.hmc_ends.specs.Parts.{EndParts, parts_of, parts_through, view_by}
use Rattle.hmc_ends.specs.StandsFor.{EndStandsFor, CanForward}
use Rattle.hmc_link.specs.StandsFor.{IsLink}
use Rattle.hmc_ends.proofs.Steps.{Steps}
use Rattle.hmc_ends.proofs.Throughs.{ready-held}
use Rattle.hmc_ends.proofs.Begins.{may-in, begin-both}

pub begin-from : (d toward : Toward) (now : LinkHeld) (s l s' : EndFields) (head : List ℕ) (flits : ℕ) → sending_end toward now ≡ s → IsFlit head → is_ready (sending_end toward now) flits ≡ true → names_flits flits (head_in head) ≡ true →
    ((link : LinkFields) (d : Toward) (past : List LinkEntry) → IsKept link past → EndStandsFor link s (parts_of link d past) → EndStandsFor link s' (parts_through link head flits (parts_of link d past))) →
    Steps d (LinkCall.begin d head flits) s l s' l
begin-from d toward now s l s' head flits sends is ready named leaves =
    let here : is_ready s flits ≡ true = subst (λ (e : EndFields). is_ready e flits ≡ true) sends ready in
    record {
      after = λ link past both.
          begin-both link d past s l s' head flits is named leaves both (sym (may-in link d past flits) ∙ sym (ready-held link s (parts_of link d past) flits both.sending) ∙ here);
    }

pub can-forth : (toward : Toward) (now h : LinkHeld) (head : List ℕ) (flits : ℕ) → sending_end toward now ≡ h.a → h ≡ now → IsLink h → now.going ≡ true → is_ready (sending_end toward now) flits ≡ true → names_flits flits (head_in head) ≡ true → CanForward h.a head flits
can-forth toward now h head flits sends same is going ready named =
    let some = is (ap (λ (x : LinkHeld). x.going) same ∙ going) in
    record {
      link = some.link;
      d = Forth;
      past = some.past;
      sizes = some.stands.sizes;
      kept = some.stands.kept;
      stands = some.stands.a;
      ready = subst (λ (e : EndFields). is_ready e flits ≡ true) sends ready;
      named = named;
    }

pub can-back : (toward : Toward) (now h : LinkHeld) (head : List ℕ) (flits : ℕ) → sending_end toward now ≡ h.b → h ≡ now → IsLink h → now.going ≡ true → is_ready (sending_end toward now) flits ≡ true → names_flits flits (head_in head) ≡ true → CanForward h.b head flits
can-back toward now h head flits sends same is going ready named =
    let some = is (ap (λ (x : LinkHeld). x.going) same ∙ going) in
    record {
      link = some.link;
      d = Back;
      past = some.past;
      sizes = some.stands.sizes;
      kept = some.stands.kept;
      stands = some.stands.b;
      ready = subst (λ (e : EndFields). is_ready e flits ≡ true) sends ready;
      named = named;
    }

-- what a link answers is what its end holds

pub ready-forth : (toward : Toward) (now h : LinkHeld) (flits : ℕ) (r : Bool) → sending_end toward now ≡ h.a → h ≡ now → IsLink h → ((link : LinkFields) (p : EndParts) → EndStandsFor link h.a p → r ≡ may_pass_on (view_by link p Waiting) flits) → now.going ≡ true → r ≡ is_ready (sending_end toward now) flits
ready-forth toward now h flits r sends same is answers going =
    let some = is (ap (λ (x : LinkHeld). x.going) same ∙ going) in
    let p = parts_of some.link Forth some.past in
    answers some.link p some.stands.a ∙ sym (ready-held some.link h.a p flits some.stands.a) ∙ ap (λ (e : EndFields). is_ready e flits) (sym sends)

pub ready-back : (toward : Toward) (now h : LinkHeld) (flits : ℕ) (r : Bool) → sending_end toward now ≡ h.b → h ≡ now → IsLink h → ((link : LinkFields) (p : EndParts) → EndStandsFor link h.b p → r ≡ may_pass_on (view_by link p Waiting) flits) → now.going ≡ true → r ≡ is_ready (sending_end toward now) flits
ready-back toward now h flits r sends same is answers going =
    let some = is (ap (λ (x : LinkHeld). x.going) same ∙ going) in
    let p = parts_of some.link Back some.past in
    answers some.link p some.stands.b ∙ sym (ready-held some.link h.b p flits some.stands.b) ∙ ap (λ (e : EndFields). is_ready e flits) (sym sends)
