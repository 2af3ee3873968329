-- A link as the end that sends in a direction and the end at which that direction lands.
use Rattle.std.proofs.Common.{◌≡◌, true, List, [], sym, subst}
use Rattle.hmc_codes.specs.Link.{LinkFields, IsLinkSetup}
use Rattle.hmc_send.specs.LinkCalls.{LinkCall, IsLawful}
use Rattle.hmc_packet.specs.Landings.{accepted}
use Rattle.hmc_send.specs.Entries.{places, taken_fronts}
use Rattle.hmc_send.specs.LinkEntries.{LinkEntry, receiver_entries, handed_packets}
use Rattle.hmc_send.specs.LinkSenders.{sender_entries}
use Rattle.hmc_send.specs.declared.toward.Toward.{Toward}
use Rattle.hmc_send.specs.declared.toward.Toward.TheVariants.{Forth, Back}
use Rattle.hmc_wire.specs.Conditions.{AreHanded, AreFed}
use Rattle.hmc_wire.specs.LinkLaws.{IsKept}
use Rattle.hmc_ends.specs.Answers.{after_call}
use Rattle.hmc_link.specs.Held.{LinkHeld, sending_end}
use Rattle.hmc_ends.specs.Parts.{parts_of}
use Rattle.hmc_ends.specs.StandsFor.{EndStandsFor, EndsStandFor}
use Rattle.hmc_link.specs.StandsFor.{LinkStandsFor, AreLengths, StandsForSome, IsLink}
use Rattle.hmc_ends.proofs.Steps.{Steps}

-- a call leaves these lengths
pub record Numbers (call : LinkCall) (h h' : LinkHeld) : Type 0 where
  pub after : (link : LinkFields) (past : List LinkEntry) → LinkStandsFor link h past → IsKept link (after_call link past call) → AreLengths link h' (after_call link past call)

-- ---- the two directions

pub forth-both : (link : LinkFields) (h : LinkHeld) (past : List LinkEntry) → LinkStandsFor link h past → EndsStandFor link Forth h.a h.b past
forth-both link h past s = record { sizes = s.sizes; kept = s.kept; sending = s.a; landing = s.b }

pub back-both : (link : LinkFields) (h : LinkHeld) (past : List LinkEntry) → LinkStandsFor link h past → EndsStandFor link Back h.b h.a past
back-both link h past s = record { sizes = s.sizes; kept = s.kept; sending = s.b; landing = s.a }

both-forth : (link : LinkFields) (h : LinkHeld) (past : List LinkEntry) → EndsStandFor link Forth h.a h.b past → AreLengths link h past → LinkStandsFor link h past
both-forth link h past s lengths = record { sizes = s.sizes; kept = s.kept; a = s.sending; b = s.landing; lengths = lengths }

both-back : (link : LinkFields) (h : LinkHeld) (past : List LinkEntry) → EndsStandFor link Back h.b h.a past → AreLengths link h past → LinkStandsFor link h past
both-back link h past s lengths = record { sizes = s.sizes; kept = s.kept; a = s.landing; b = s.sending; lengths = lengths }

pub step-forth : (call : Toward → LinkCall) (toward : Toward) (now h h' : LinkHeld) → toward ≡ Forth → h ≡ now → Steps Forth (call Forth) h.a h.b h'.a h'.b → Numbers (call Forth) h h' → (link : LinkFields) (past : List LinkEntry) → LinkStandsFor link now past → LinkStandsFor link h' (after_call link past (call toward))
step-forth call toward now h h' way is steps numbers link past s =
    let old = subst (λ (x : LinkHeld). LinkStandsFor link x past) (sym is) s in
    let after = steps.after link past (forth-both link h past old) in
    subst (λ (x : Toward). LinkStandsFor link h' (after_call link past (call x))) (sym way)
    (both-forth link h' (after_call link past (call Forth)) after (numbers.after link past old after.kept))

pub step-back : (call : Toward → LinkCall) (toward : Toward) (now h h' : LinkHeld) → toward ≡ Back → h ≡ now → Steps Back (call Back) h.b h.a h'.b h'.a → Numbers (call Back) h h' → (link : LinkFields) (past : List LinkEntry) → LinkStandsFor link now past → LinkStandsFor link h' (after_call link past (call toward))
step-back call toward now h h' way is steps numbers link past s =
    let old = subst (λ (x : LinkHeld). LinkStandsFor link x past) (sym is) s in
    let after = steps.after link past (back-both link h past old) in
    subst (λ (x : Toward). LinkStandsFor link h' (after_call link past (call x))) (sym way)
    (both-back link h' (after_call link past (call Back)) after (numbers.after link past old after.kept))

-- what a link keeps, it keeps over a call
pub keep-forth : (call : LinkCall) (h h' : LinkHeld) → Steps Forth call h.a h.b h'.a h'.b → Numbers call h h' → IsLink h → h.going ≡ true → StandsForSome h'
keep-forth call h h' steps numbers is going =
    let some = is going in
    let past = after_call some.link some.past call in
    let after = steps.after some.link some.past (forth-both some.link h some.past some.stands) in
    record { link = some.link; past = past; stands = both-forth some.link h' past after (numbers.after some.link some.past some.stands after.kept) }

pub keep-back : (call : LinkCall) (h h' : LinkHeld) → Steps Back call h.b h.a h'.b h'.a → Numbers call h h' → IsLink h → h.going ≡ true → StandsForSome h'
keep-back call h h' steps numbers is going =
    let some = is going in
    let past = after_call some.link some.past call in
    let after = steps.after some.link some.past (back-both some.link h some.past some.stands) in
    record { link = some.link; past = past; stands = both-back some.link h' past after (numbers.after some.link some.past some.stands after.kept) }

-- ---- the ends of a direction

pub sends-forth : (toward : Toward) (h now : LinkHeld) → toward ≡ Forth → h ≡ now → sending_end toward now ≡ h.a
sends-forth toward h now way is = λ i. sending_end (way i) (sym is i)

pub sends-back : (toward : Toward) (h now : LinkHeld) → toward ≡ Back → h ≡ now → sending_end toward now ≡ h.b
sends-back toward h now way is = λ i. sending_end (way i) (sym is i)

-- ---- a new link

pub link-new : (link : LinkFields) (h : LinkHeld) → IsLinkSetup link → EndStandsFor link h.a (parts_of link Forth []) → EndStandsFor link h.b (parts_of link Back []) → h.forth ≡ 0 → h.back ≡ 0 → LinkStandsFor link h []
unfolding IsLawful AreHanded AreFed sender_entries receiver_entries handed_packets places accepted taken_fronts
link-new link h sizes a b forth back = record {
  sizes = sizes;
  kept = record { retry = sizes.retry; lawful = tt; met = record { handed = tt; forth = tt; back = tt } };
  a = a;
  b = b;
  lengths = record { forth = forth; back = back };
}

pub new-stands : (link : LinkFields) (h : LinkHeld) → LinkStandsFor link h [] → StandsForSome h
new-stands link h s = record { link = link; past = []; stands = s }
