-- The turns of a lawful list's steps may come, and the pair after them is that of its steps. Used
-- by Fields, TokenFacts and EntryTurns.
use Rattle.std.proofs.Common.{◌≡◌, ◌∙◌, ◌≤◌, ℕ, List, [], ◌∷◌, refl, sym, ap, subst}
use Rattle.hmc_codes.specs.Link.{LinkFields}
use Rattle.hmc_codes.specs.Profile.{most_retry}
use Rattle.hmc_codes.specs.declared.profile.Profile.{Profile}
use Rattle.hmc_send.specs.declared.toward.Toward.TheVariants.{Forth, Back}
use Rattle.hmc_send.specs.LinkEntries.{LinkEntry}
use Rattle.hmc_send.specs.LinkSenders.{sender_entries}
use Rattle.hmc_numbers.specs.Pair.{Pair, pair_after, turned as turned_by}
use Rattle.hmc_numbers.specs.Turns.{MayTurn, MayTurns}
use Rattle.hmc_wire.specs.LinkLaws.{IsKept}
use Rattle.hmc_wire.proofs.ActionLaw.{LinkedBoth, both_linked, may_move}
use Rattle.hmc_wire.proofs.Actions.{LinkOf, Step, Step as steps, stepped, MayStep, MaySteps, link_after}
use Rattle.hmc_wire.proofs.Joins.{Joins, kept-joins}
use Rattle.hmc_wire.proofs.PacketGrammar.{grammar}
use Rattle.hmc_wire.proofs.Spelled.{Sent}
use Rattle.hmc_wire.proofs.Steps.{turn_of, turns_by, steps_of, step_turns, sent_of}

abbrev pub pair_of : (q : Profile) → LinkOf (grammar q) → Pair
pair_of q l = record { forth = l.forth.half; back = l.back.half }

turned-step : (q : Profile) (l : LinkOf (grammar q)) (e : Step (List ℕ)) → turned_by (pair_of q l) (turn_of q l e) ≡ pair_of q (stepped (grammar q) l e)
turned-step q l (steps.forth a) = refl
turned-step q l (steps.back a) = refl

pub pair-after : (q : Profile) (past : List (Step (List ℕ))) → pair_after (turns_by q past) ≡ pair_of q (link_after (grammar q) past)
pair-after q [] = refl
pair-after q (e ∷ past) = ap (λ p. turned_by p (turn_of q (link_after (grammar q) past) e)) (pair-after q past) ∙ turned-step q (link_after (grammar q) past) e

may-turn : (q : Profile) (s t : Sent (grammar q)) (retry adv : ℕ) (l : LinkOf (grammar q)) (e : Step (List ℕ)) → retry ≤ most_retry q → LinkedBoth (grammar q) s t retry adv l → MayStep (grammar q) s t retry adv l e → MayTurn retry adv (pair_of q l) (turn_of q l e)
may-turn q s t retry adv l (steps.forth a) few both may = may_move (grammar q) s retry adv l.forth l.back a few both.forth may
may-turn q s t retry adv l (steps.back a) few both may = may_move (grammar q) t retry adv l.back l.forth a few both.back may

pub may-turns : (q : Profile) (s t : Sent (grammar q)) (retry adv : ℕ) (past : List (Step (List ℕ))) → retry ≤ most_retry q → MaySteps (grammar q) s t retry adv past → MayTurns retry adv (turns_by q past)
may-turns q s t retry adv [] few may = tt
may-turns q s t retry adv (e ∷ past) few may =
    let l = link_after (grammar q) past in
    let both = both_linked (grammar q) s t retry adv past few may.1 in
    (subst (λ p. MayTurn retry adv p (turn_of q l e)) (sym (pair-after q past)) (may-turn q s t retry adv l e few both may.0), may-turns q s t retry adv past few may.1)

-- the steps of a lawful list, with the flits of its own places
pub own-joins : (link : LinkFields) (past : List LinkEntry) → IsKept link past →
    Joins link (sent_of link.profile 0 (sender_entries link Forth past)) (sent_of link.profile 0 (sender_entries link Back past)) past
own-joins link past kept = kept-joins 0 link past kept

-- the turns of a lawful list
pub lawful-turns : (link : LinkFields) (past : List LinkEntry) → IsKept link past → MayTurns link.retry link.tokens (step_turns link past)
unfolding step_turns
lawful-turns link past kept =
    let q = link.profile in
    let s = sent_of q 0 (sender_entries link Forth past) in
    let t = sent_of q 0 (sender_entries link Back past) in
    may-turns q s t link.retry link.tokens (steps_of link past) kept.retry (own-joins link past kept).may
