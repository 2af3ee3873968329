-- What a call leaves of the two ends of a direction, and one entry more.
use Rattle.std.proofs.Common.{◌≡◌, ◌∙◌, List, ◌∷◌, Option, Some, None, sym, ap, subst}
use Rattle.hmc_codes.specs.Link.{LinkFields}
use Rattle.hmc_send.specs.LinkCalls.{LinkCall, next_entry, with_entry, IsLawful}
use Rattle.hmc_send.specs.LinkEntries.{LinkEntry}
use Rattle.hmc_send.specs.declared.toward.Toward.{Toward}
use Rattle.hmc_send.proofs.LinkLists.{next-call}
use Rattle.hmc_wire.specs.Conditions.{AreMet}
use Rattle.hmc_wire.specs.LinkLaws.{IsKept}
use Rattle.hmc_ends.specs.Answers.{after_call}
use Rattle.hmc_ends.specs.End.{EndFields}
use Rattle.hmc_ends.specs.StandsFor.{EndsStandFor}

-- a call leaves these ends: they stand for the entries after it
pub record Steps (d : Toward) (call : LinkCall) (s l s' l' : EndFields) : Type 0 where
  pub after : (link : LinkFields) (past : List LinkEntry) → EndsStandFor link d s l past → EndsStandFor link d s' l' (after_call link past call)

-- ---- one entry more

pub kept-more : (link : LinkFields) (past : List LinkEntry) (call : LinkCall) (entry : LinkEntry) → next_entry link past call ≡ Some entry → IsKept link past → AreMet link (entry ∷ past) → IsKept link (entry ∷ past)
unfolding IsLawful
kept-more link past call entry is kept met = record {
  retry = kept.retry;
  lawful = (ap (next_entry link past) (next-call link past call entry is) ∙ is, kept.lawful);
  met = met;
}

-- the ends stand for the entry that the call makes
pub both-more : (link : LinkFields) (d : Toward) (past : List LinkEntry) (call : LinkCall) (entry : LinkEntry) (s l : EndFields) → next_entry link past call ≡ Some entry → EndsStandFor link d s l (entry ∷ past) → EndsStandFor link d s l (after_call link past call)
both-more link d past call entry s l is both = subst (λ (o : Option LinkEntry). EndsStandFor link d s l (with_entry past o)) (sym is) both

-- and for those before it where it makes none
pub both-same : (link : LinkFields) (d : Toward) (past : List LinkEntry) (call : LinkCall) (s l : EndFields) → next_entry link past call ≡ None → EndsStandFor link d s l past → EndsStandFor link d s l (after_call link past call)
both-same link d past call s l is both = subst (λ (o : Option LinkEntry). EndsStandFor link d s l (with_entry past o)) (sym is) both
