-- The last flit waits for the end.
use Rattle.std.proofs.Common.{◌∙◌, Bool, Option, ap, sym}
use Rattle.hmc_through.specs.Pipe.{PipeFields, last_fed}
use Rattle.hmc_through.proofs.pipe.Pipe.last_fed.Goals as goal

pub returns-in-None : goal.returns-in-None
returns-in-None c =
    ap (λ (good : Option Bool). last_fed c.args.self.now c.args.at good) (sym c.in-None.is
    ∙ ap (λ (pipe : PipeFields). pipe.good) c.self.view_is)
