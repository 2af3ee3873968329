-- A reply that need not wait has room.
use Rattle.std.proofs.Common.{ap, sym, ◌∙◌}
use Rattle.hmc_codes.specs.Commands.{is_posted}
use Rattle.hmc_codes.specs.Request.{RequestFields}
use Rattle.hmc_vault.proofs.ExecuteLemmas.{has_place}
use Rattle.hmc_vault.proofs.execute.put_reply.Goals as goal

pub put-requires : goal.put-requires
put-requires c =
    has_place _ _ (is_posted c.args.request.now.command)
    (sym (ap (λ (r : RequestFields). is_posted r.command) c.request.view_is) ∙ sym c.posted.ensures ∙ (cc)) c.requires.room
