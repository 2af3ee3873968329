-- The queue, the transit and the buffer of the end.
use Rattle.std.proofs.Common.{refl, ap}
use Rattle.hmc_ends.specs.End.{EndFields}
use Rattle.hmc_ends.proofs.Quiet.{quiet-by}
use Rattle.hmc_link_end.proofs.end.End.is_quiet.Goals as goal

pub returns : goal.returns
returns g c =
    quiet-by c.is_empty-queue.result c.has_empty_buffer-buffer.result c.are_quiet.result c.self.inside.transit _ _ c.args.self.now c.is_empty-queue.ensures c.has_empty_buffer-buffer.ensures c.are_quiet.ensures
    (ap (λ (e : EndFields). e.queue) c.self.view_is) (ap (λ (e : EndFields). e.transit) c.self.view_is) refl
