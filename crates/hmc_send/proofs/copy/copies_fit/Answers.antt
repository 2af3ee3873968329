use Rattle.hmc_send.proofs.CopyLemmas.{copy-sendable, copy-length}
use Rattle.hmc_send.proofs.copy.copies_fit.Goals as goal

pub returns-clause-flits : goal.returns-clause-flits
returns-clause-flits c = λ profile slid errstat good n.
    copy-length profile c.args.front.now c.args.half.now slid errstat good n c.told-front c.told-half

pub returns-clause-fits : goal.returns-clause-fits
returns-clause-fits c = λ profile slid errstat good n below.
    copy-sendable profile c.args.front.now c.args.half.now slid errstat good n _ c.requires.some (c.told-front 0 c.requires.some) c.requires.head below
