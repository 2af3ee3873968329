-- The numbers after the steps of a lawful list are what the list says. Used by EntryTurns.
use Rattle.std.proofs.Common.{◌∙◌, List, length, sym, ap, subst}
use Rattle.hmc_codes.specs.Link.{LinkFields}
use Rattle.hmc_packet.specs.declared.kind.Kind.TheVariants.{Start, Clear}
use Rattle.hmc_packet.specs.Packet.{PacketFields}
use Rattle.hmc_send.specs.declared.toward.Toward.{Toward}
use Rattle.hmc_send.specs.declared.toward.Toward.TheVariants.{Forth, Back}
use Rattle.hmc_send.specs.LinkEntries.{LinkEntry}
use Rattle.hmc_send.specs.LinkLines.{line}
use Rattle.hmc_send.specs.LinkSenders.{sender_entries}
use Rattle.hmc_numbers.specs.Pair.{Pair, pair_after}
use Rattle.hmc_wire.specs.LinkLaws.{IsKept}
use Rattle.hmc_wire.proofs.ActionLaw.{Linked, both_linked}
use Rattle.hmc_wire.proofs.Actions.{SideOf, link_after}
use Rattle.hmc_wire.specs.FieldsAre.{half_on, FieldsAre}
use Rattle.hmc_wire.proofs.Grammar.{Kind as kinds}
use Rattle.hmc_wire.proofs.GrammarLandings as inner
use Rattle.hmc_wire.proofs.Joins.{WayAt}
use Rattle.hmc_wire.proofs.PacketGrammar.{grammar}
use Rattle.hmc_wire.proofs.Spelled.{Sent}
use Rattle.hmc_wire.proofs.Steps.{sent_of, steps_of, turns_by, step_turns}
use Rattle.hmc_wire.proofs.Turns.{pair-after, own-joins}

side-fields : (link : LinkFields) (d : Toward) (past : List LinkEntry) (s : Sent (grammar link.profile)) (own oth : SideOf (grammar link.profile)) → WayAt link d past own → Linked (grammar link.profile) s link.retry link.tokens own oth → FieldsAre link d past own.half
unfolding line
side-fields link d past s own oth is linked =
    let g = grammar link.profile in
    record {
      first = is.sends.first;
      acked = is.sends.acked;
      last = is.sends.last;
      left = is.sends.left;
      clears = is.sends.clears;
      accepted = sym linked.matches.count ∙ ap (λ (ps : List PacketFields). length ps) (ap (inner.accepted_in g) is.received ∙ sym is.mirrors.accepted);
      clear_run = sym linked.matches.clear_run ∙ ap (inner.run g kinds.clear) is.received ∙ sym (is.mirrors.run Clear);
      start_run = sym linked.matches.start_run ∙ ap (inner.run g kinds.start) is.received ∙ sym (is.mirrors.run Start);
      stamps = is.stamps;
      moved_is = is.moved;
    }

pub lawful-fields : (link : LinkFields) (d : Toward) (past : List LinkEntry) → IsKept link past → FieldsAre link d past (half_on d (pair_after (step_turns link past)))
unfolding step_turns
lawful-fields link d past kept =
    let q = link.profile in
    let T = sender_entries link Forth past in
    let U = sender_entries link Back past in
    let s = sent_of q 0 T in
    let t = sent_of q 0 U in
    let l = link_after (grammar q) (steps_of link past) in
    let j = own-joins link past kept in
    let both = both_linked (grammar q) s t link.retry link.tokens (steps_of link past) kept.retry j.may in
    by_direction d (side-fields link Forth past s l.forth l.back j.forth both.forth) (side-fields link Back past t l.back l.forth j.back both.back)
  where
    by_direction : (x : Toward) → FieldsAre link Forth past (link_after (grammar link.profile) (steps_of link past)).forth.half → FieldsAre link Back past (link_after (grammar link.profile) (steps_of link past)).back.half →
        FieldsAre link x past (half_on x (pair_after (turns_by link.profile (steps_of link past))))
    by_direction Forth forth back = subst (λ (p : Pair). FieldsAre link Forth past p.forth) (sym (pair-after link.profile (steps_of link past))) forth
    by_direction Back forth back = subst (λ (p : Pair). FieldsAre link Back past p.back) (sym (pair-after link.profile (steps_of link past))) back
