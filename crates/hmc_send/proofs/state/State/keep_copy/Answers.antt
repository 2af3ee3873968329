use Rattle.std.proofs.Common.{◌≡◌, Some, sym}
use Rattle.hmc_send.proofs.KeptLemmas.{fed-pointer}
use Rattle.hmc_send.proofs.state.State.keep_copy.Goals as goal

pub keep-requires-clause-pointer : goal.keep-requires-clause-pointer
keep-requires-clause-pointer c =
    let is : c.args.self.now.under_way ≡ Some c.in-Some.begun.now = sym c.in-Some.ensures in
    fed-pointer c.args.self.now c.in-Some.begun.now c.args.feed.now c.in-Some-copy.copy c.requires.sender c.invariant.ensures is c.in-Some-copy.ensures.packet c.in-Some-copy.ensures.flits
