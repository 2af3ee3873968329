use Rattle.std.proofs.Common.{false, [], sym, subst}
use Rattle.hmc_send.specs.declared.state.State.{State}
use Rattle.hmc_send.specs.StandsFor.{StandsFor}
use Rattle.hmc_send.proofs.CallLemmas.{stands-opening}
use Rattle.hmc_send.proofs.calls.opening.Goals as goal

pub returns-clause-stands : goal.returns-clause-stands
returns-clause-stands c = subst (λ (held : State). StandsFor held [])
    (λ i. record {
      retry = sym c.requires.new i;
      profile = c.args.profile;
      pointer = 0;
      number = 0;
      under_way = sym c.none.ensures i;
      burst = sym c.empty.ensures i;
      go_back = false;
      is_open = false;
      others = 64;
      shown = 0;
    })
    (stands-opening c.args.retry.flits c.args.profile)
