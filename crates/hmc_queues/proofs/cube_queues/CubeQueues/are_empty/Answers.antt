-- By the queues.
use Rattle.std.proofs.Common.{◌≡◌, [], subst, sym}
use Rattle.std.specs.Prelude.{All, List}
use Rattle.hmc_tokens.specs.declared.queue.Queue.{Queue}
use Rattle.hmc_tokens.specs.Queue.{packets_of}
use Rattle.hmc_queues.proofs.Places.{all_empty, empty_all}
use Rattle.hmc_queues.proofs.cube_queues.CubeQueues.are_empty.Goals as goal

abbrev AllEmpty : List Queue → Type 0
AllEmpty queues = All (λ (q : Queue). packets_of q ≡ []) queues

pub returns : goal.returns
returns c =
    let i = c.self.inside in (
      λ is. all_empty i.vaults i.banks i.size i.queues.items c.args.self.now c.self.view_is (subst AllEmpty c.deref.ensures.value (c.are_empty.ensures.0 is)),
      λ all. c.are_empty.ensures.1 (subst AllEmpty (sym c.deref.ensures.value) (empty_all i.vaults i.banks i.size i.queues.items c.args.self.now c.self.view_is all)),
    )
