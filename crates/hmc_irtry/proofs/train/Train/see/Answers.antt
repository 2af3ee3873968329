-- The eighth flit that trains ends training.
use Rattle.std.proofs.Common.{◌≡◌, ◌∙◌, ◌+◌, Bool, true, ap, sym}
use Rattle.std.specs.Prelude.{min}
use Rattle.hmc_irtry.specs.Train.{TrainFields, whole_training, is_training, after_flit}
use Rattle.hmc_irtry.specs.Train.{ends_training}
use Rattle.hmc_irtry.proofs.train.Train.see.Goals as goal

pub returns-clause-ends : goal.returns-clause-ends
returns-clause-ends c =
    let before : TrainFields = record {
      profile = c.self.inside.profile;
      count = c.self.inside.count;
    } in
    let trains : true ≡ is_training before.profile c.args.flit.now =
    sym c.if-not-is_training.false ∙ c.is_training.ensures in
    ap (λ (b : Bool). ends_training b before) trains
    ∙ ap (λ (train : TrainFields). ends_training (is_training train.profile c.args.flit.now) train)
    c.self.view_is

pub returns-clause-left : goal.returns-clause-left
returns-clause-left c =
    let before : TrainFields = record {
      profile = c.self.inside.profile;
      count = c.self.inside.count;
    } in
    let trains : true ≡ is_training before.profile c.args.flit.now =
    sym c.if-not-is_training.false ∙ c.is_training.ensures in
    let more : c.min-self-inside.result ≡ min (before.count + 1) whole_training =
    c.min-self-inside.ensures in
    (λ i. record before { count = more i })
    ∙ ap (λ (b : Bool). after_flit b before) trains
    ∙ ap (λ (train : TrainFields). after_flit (is_training train.profile c.args.flit.now) train)
    c.self.view_is
