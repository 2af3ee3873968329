-- The two ends of a direction, where the one that sends begins to forward a packet.
use Rattle.std.proofs.Common.{◌≡◌, ◌∙◌, ℕ, true, ◌&&◌, Some, List, ◌∷◌, refl, sym, subst}
use Rattle.std.proofs.lemmas.Bool.{and_from}
use Rattle.hmc_codes.specs.Link.{LinkFields}
use Rattle.hmc_codes.specs.Flit.{IsFlit}
use Rattle.hmc_packet.specs.declared.feed.Feed.TheVariants.{Waiting}
use Rattle.hmc_packet.specs.Head.{head_in}
use Rattle.hmc_send.specs.LinkCalls.{LinkCall, next_entry, may_pass_on, names_flits, view_in}
use Rattle.hmc_send.specs.LinkEntries.{LinkEntry}
use Rattle.hmc_send.specs.LinkSenders.{sender_entries, given_after}
use Rattle.hmc_send.specs.declared.toward.Toward.{Toward}
use Rattle.hmc_send.specs.declared.toward.Toward.TheVariants.{Forth, Back}
use Rattle.hmc_wire.specs.Conditions.{AreMet, AreHanded, AreFed}
use Rattle.hmc_wire.specs.LinkLaws.{IsKept}
use Rattle.hmc_ends.specs.Answers.{after_call}
use Rattle.hmc_ends.specs.End.{EndFields, is_ready}
use Rattle.hmc_ends.specs.Parts.{parts_of, parts_through, view_by}
use Rattle.hmc_ends.specs.StandsFor.{EndStandsFor, EndsStandFor}
use Rattle.hmc_ends.proofs.Calls.{entry-if}
use Rattle.hmc_ends.proofs.Projections.{through-here, through-there}
use Rattle.hmc_ends.proofs.Steps.{kept-more, both-more}
use Rattle.hmc_ends.proofs.Throughs.{ready-held}

pub may-in : (link : LinkFields) (d : Toward) (past : List LinkEntry) (flits : ℕ) → may_pass_on (view_by link (parts_of link d past) Waiting) flits ≡ may_pass_on (view_in link d past Waiting) flits
unfolding given_after
may-in link d past flits = refl

met-through : (link : LinkFields) (d : Toward) (head : List ℕ) (flits : ℕ) (past : List LinkEntry) → IsFlit head → AreMet link past → AreMet link (LinkEntry.through d head flits ∷ past)
unfolding AreHanded AreFed sender_entries
met-through link Forth head flits past is met = record { handed = met.handed; forth = (is, met.forth); back = met.back }
met-through link Back head flits past is met = record { handed = met.handed; forth = met.forth; back = (is, met.back) }

pub next-begun : (link : LinkFields) (d : Toward) (past : List LinkEntry) (s : EndFields) (head : List ℕ) (flits : ℕ) → EndStandsFor link s (parts_of link d past) → is_ready s flits ≡ true → names_flits flits (head_in head) ≡ true → next_entry link past (LinkCall.begin d head flits) ≡ Some (LinkEntry.through d head flits)
unfolding next_entry
next-begun link d past s head flits is ready named =
    let may = sym (may-in link d past flits) ∙ sym (ready-held link s (parts_of link d past) flits is) ∙ ready in
    entry-if (may_pass_on (view_in link d past Waiting) flits && names_flits flits (head_in head)) (LinkEntry.through d head flits) (and_from _ _ may named)

pub begin-both : (link : LinkFields) (d : Toward) (past : List LinkEntry) (s l s' : EndFields) (head : List ℕ) (flits : ℕ) → IsFlit head → names_flits flits (head_in head) ≡ true →
    ((link : LinkFields) (d : Toward) (past : List LinkEntry) → IsKept link past → EndStandsFor link s (parts_of link d past) → EndStandsFor link s' (parts_through link head flits (parts_of link d past))) →
    EndsStandFor link d s l past → may_pass_on (view_in link d past Waiting) flits ≡ true → EndsStandFor link d s' l (after_call link past (LinkCall.begin d head flits))
unfolding next_entry
begin-both link d past s l s' head flits is named leaves both ready =
    let entry = LinkEntry.through d head flits in
    let next = entry-if (may_pass_on (view_in link d past Waiting) flits && names_flits flits (head_in head)) entry (and_from _ _ ready named) in
    both-more link d past (LinkCall.begin d head flits) entry s' l next (record {
      sizes = both.sizes;
      kept = kept-more link past (LinkCall.begin d head flits) entry next both.kept (met-through link d head flits past is both.kept.met);
      sending = subst (EndStandsFor link s') (sym (through-here link d head flits past)) (leaves link d past both.kept both.sending);
      landing = subst (EndStandsFor link l) (sym (through-there link d head flits past)) both.landing;
    })
