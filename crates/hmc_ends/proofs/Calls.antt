-- The calls that hand a packet, take one, and unlock.
use Rattle.std.proofs.Common.{◌≡◌, ◌∙◌, ◌≤◌, ◌<◌, ◌+◌, ◌-◌, ℕ, Bool, true, false, not, ◌&&◌, List, [], ◌∷◌, ◌++◌, length, drop, Option, Some, None, refl, sym, ap, subst, arith, lt-ltb, le-ltb}
use Rattle.std.specs.Prelude.{slice_get}
use Rattle.std.proofs.lemmas.List.{length-drop}
use Rattle.std.proofs.lemmas.Bool.{and_from}
use Rattle.hmc_codes.specs.Link.{LinkFields}
use Rattle.hmc_codes.specs.Limits.{most_tokens}
use Rattle.hmc_codes.specs.declared.profile.Profile.{Profile}
use Rattle.hmc_codes.specs.declared.profile.Profile.TheVariants.{One, Two}
use Rattle.hmc_packet.specs.Packet.{PacketFields, IsPacket, flits_of}
use Rattle.hmc_packet.specs.Tail.{FitsField, tail_layout}
use Rattle.hmc_send.specs.Given.{IsTaken}
use Rattle.hmc_send.specs.LinkCalls.{LinkCall, next_entry, entry_if, has_room, holds_packet}
use Rattle.hmc_send.specs.LinkEntries.{LinkEntry, other}
use Rattle.hmc_send.specs.LinkSenders.{sender_entries}
use Rattle.hmc_send.specs.Places.{is_token}
use Rattle.hmc_send.specs.declared.toward.Toward.{Toward}
use Rattle.hmc_send.specs.declared.toward.Toward.TheVariants.{Forth, Back}
use Rattle.hmc_wire.specs.Conditions.{AreMet, AreHanded, IsHanded}
use Rattle.hmc_ends.specs.End.{EndFields, after_taken}
use Rattle.hmc_ends.specs.Parts.{EndParts, parts_of, parts_unlocked, tokens_accepted, buffer_of}
use Rattle.hmc_ends.specs.StandsFor.{EndStandsFor, EndsStandFor}
use Rattle.hmc_ends.proofs.Lists.{front-longer}
use Rattle.hmc_ends.proofs.PartLaws.{part_laws}
use Rattle.hmc_ends.proofs.Projections.{handed-here, handed-there, taken-here, taken-there, unlocked-here, unlocked-there}
use Rattle.hmc_ends.proofs.Simple.{stands-handed, stands-taken, stands-lost}
use Rattle.hmc_ends.proofs.Steps.{Steps, kept-more, both-more, both-same}

pub entry-if : (b : Bool) (entry : LinkEntry) → b ≡ true → entry_if b entry ≡ Some entry
entry-if true entry is = refl
entry-if false entry is = absurd cc

pub no-entry-if : (b : Bool) (entry : LinkEntry) → b ≡ false → entry_if b entry ≡ None
no-entry-if true entry is = absurd cc
no-entry-if false entry is = refl

-- ---- hand

-- in profile One the error number of any packet fits; in Two its three bits are asked for
errstat-fits : (q : Profile) (packet : PacketFields) → IsPacket packet → IsTaken q packet → FitsField (tail_layout q).errstat packet.errstat
errstat-fits One packet is fit = is.ranges.errstat
errstat-fits Two packet is fit = fit.errstat refl

met-handed : (link : LinkFields) (d : Toward) (packet : PacketFields) (past : List LinkEntry) → IsHanded link.profile packet → AreMet link past → AreMet link (LinkEntry.handed d packet ∷ past)
unfolding AreHanded sender_entries
met-handed link d packet past is met = record { handed = (is, met.handed); forth = met.forth; back = met.back }

pub next-handed : (link : LinkFields) (d : Toward) (past : List LinkEntry) (s : EndFields) (packet : PacketFields) → EndStandsFor link s (parts_of link d past) → length s.queue < s.setup.output → IsTaken s.setup.profile packet → next_entry link past (LinkCall.hand d packet) ≡ Some (LinkEntry.handed d packet)
unfolding next_entry
next-handed link d past s packet is room fit =
    let size : length s.queue < link.output = subst (λ (x : LinkFields). length s.queue < x.output) is.setup room in
    let has : has_room link d past ≡ true = lt-ltb _ _ (subst (λ (q : List PacketFields). length q < link.output) is.queue size) in
    entry-if (has_room link d past && is_token packet) (LinkEntry.handed d packet) (and_from _ _ has (ap not fit.token))

pub hand-steps : (d : Toward) (s l : EndFields) (packet : PacketFields) → length s.queue < s.setup.output → IsTaken s.setup.profile packet → IsPacket packet → Steps d (LinkCall.hand d packet) s l (record s { queue = s.queue ++ packet ∷ [] }) l
unfolding next_entry
hand-steps d s l packet room fit is = record {
  after = λ link past both.
      let sending = both.sending in
      let next = next-handed link d past s packet sending room fit in
      let fits = subst (λ (x : LinkFields). IsTaken x.profile packet) sending.setup fit in
      both-more link d past (LinkCall.hand d packet) (LinkEntry.handed d packet) _ l next (record {
        sizes = both.sizes;
        kept = kept-more link past (LinkCall.hand d packet) (LinkEntry.handed d packet) next both.kept (met-handed link d packet past (record { packet_is = is; errstat = errstat-fits link.profile packet is fits }) both.kept.met);
        sending = subst (EndStandsFor link _) (sym (handed-here link d packet past)) (stands-handed link s (parts_of link d past) packet sending);
        landing = subst (EndStandsFor link l) (sym (handed-there link d packet past)) both.landing;
      });
}

-- ---- take

met-taken : (link : LinkFields) (d : Toward) (past : List LinkEntry) → AreMet link past → AreMet link (LinkEntry.taken d ∷ past)
unfolding AreHanded sender_entries
met-taken link d past met = record { handed = met.handed; forth = met.forth; back = met.back }

-- the buffer has a packet exactly where the definition says so
holds-forth : (link : LinkFields) (past : List LinkEntry) (packet : PacketFields) → slice_get (buffer_of link (parts_of link Back past)) 0 ≡ Some packet → holds_packet link Forth past ≡ true
holds-forth link past packet is = lt-ltb _ _ (front-longer _ (tokens_accepted link (parts_of link Back past)) packet is)

holds : (link : LinkFields) (d : Toward) (past : List LinkEntry) (packet : PacketFields) → slice_get (buffer_of link (parts_of link (other d) past)) 0 ≡ Some packet → holds_packet link d past ≡ true
holds link Forth past packet is = lt-ltb _ _ (front-longer _ (tokens_accepted link (parts_of link Back past)) packet is)
holds link Back past packet is = lt-ltb _ _ (front-longer _ (tokens_accepted link (parts_of link Forth past)) packet is)

no-more : (n : ℕ) (l : List PacketFields) → slice_get (drop n l) 0 ≡ None → length l ≤ n
no-more n l none = by_rest (drop n l) none (length-drop n l)
  where
    by_rest : (r : List PacketFields) → slice_get r 0 ≡ None → length r ≡ length l - n → length l ≤ n
    by_rest [] none size = omega arith
    by_rest (x ∷ r) none size = absurd cc

holds-none : (link : LinkFields) (d : Toward) (past : List LinkEntry) → slice_get (buffer_of link (parts_of link (other d) past)) 0 ≡ None → holds_packet link d past ≡ false
holds-none link Forth past is = le-ltb _ _ (no-more _ (tokens_accepted link (parts_of link Back past)) is)
holds-none link Back past is = le-ltb _ _ (no-more _ (tokens_accepted link (parts_of link Forth past)) is)

take-some : (d : Toward) (s l : EndFields) (packet : PacketFields) → slice_get l.buffer 0 ≡ Some packet → (link : LinkFields) (past : List LinkEntry) → EndsStandFor link d s l past → EndsStandFor link d s (after_taken (Some packet) l) (LinkEntry.taken d ∷ past)
unfolding next_entry
take-some d s l packet front link past both =
    let landing = both.landing in
    let here = ap (λ (b : List PacketFields). slice_get b 0) (sym landing.buffer) ∙ front in
    let next = entry-if (holds_packet link d past) (LinkEntry.taken d) (holds link d past packet here) in
    let laws = part_laws link (other d) past both.kept in
    record {
      sizes = both.sizes;
      kept = kept-more link past (LinkCall.take d) (LinkEntry.taken d) next both.kept (met-taken link d past both.kept.met);
      sending = subst (EndStandsFor link s) (sym (taken-here link d past)) both.sending;
      landing = subst (EndStandsFor link _) (sym (taken-there link d past)) (stands-taken link l (parts_of link (other d) past) packet landing front laws.returned);
    }

pub take-steps : (d : Toward) (s l : EndFields) (front : Option PacketFields) → slice_get l.buffer 0 ≡ front → Steps d (LinkCall.take d) s l s (after_taken front l)
unfolding next_entry
take-steps d s l None none = record {
  after = λ link past both.
      let here = ap (λ (b : List PacketFields). slice_get b 0) (sym both.landing.buffer) ∙ none in
      both-same link d past (LinkCall.take d) s l (no-entry-if (holds_packet link d past) (LinkEntry.taken d) (holds-none link d past here)) both;
}
take-steps d s l (Some packet) front = record {
  after = λ link past both.
      let here = ap (λ (b : List PacketFields). slice_get b 0) (sym both.landing.buffer) ∙ front in
      both-more link d past (LinkCall.take d) (LinkEntry.taken d) s _ (entry-if (holds_packet link d past) (LinkEntry.taken d) (holds link d past packet here)) (take-some d s l packet front link past both);
}

-- the tokens that are then due are no more than there are
pub due-few : (d : Toward) (s l : EndFields) (link : LinkFields) (past : List LinkEntry) → EndsStandFor link d s l past → (packet : PacketFields) → slice_get l.buffer 0 ≡ Some packet → l.account.due + flits_of packet ≤ most_tokens
due-few d s l link past both packet front =
    let after = take-some d s l packet front link past both in
    let laws = part_laws link (other d) (LinkEntry.taken d ∷ past) after.kept in
    let due = after.landing.due in
    let few = laws.few_due in
    let most = both.sizes.tokens in
    omega arith

-- ---- unlock

met-unlocked : (link : LinkFields) (d : Toward) (past : List LinkEntry) → AreMet link past → AreMet link (LinkEntry.unlocked d ∷ past)
unfolding AreHanded sender_entries
met-unlocked link d past met = record { handed = met.handed; forth = met.forth; back = met.back }

pub unlock-steps : (d : Toward) (s l l' : EndFields) → ((link : LinkFields) (p : EndParts) → EndStandsFor link l p → EndStandsFor link l' (parts_unlocked p)) → Steps d (LinkCall.unlock d) s l s l'
unfolding next_entry
unlock-steps d s l l' unlocks = record {
  after = λ link past both. record {
    sizes = both.sizes;
    kept = kept-more link past (LinkCall.unlock d) (LinkEntry.unlocked d) refl both.kept (met-unlocked link d past both.kept.met);
    sending = subst (EndStandsFor link s) (sym (unlocked-here link d past)) (stands-lost link s (parts_of link d past) both.sending);
    landing = subst (EndStandsFor link l') (sym (unlocked-there link d past)) (unlocks link (parts_of link (other d) past) both.landing);
  };
}

-- ---- the same by what a link does

pub take-from : (d : Toward) (s l l' : EndFields) (front : Option PacketFields) → front ≡ slice_get l.buffer 0 → l' ≡ after_taken front l → Steps d (LinkCall.take d) s l s l'
take-from d s l l' front is left = subst (λ (e : EndFields). Steps d (LinkCall.take d) s l s e) (sym left) (take-steps d s l front (sym is))
