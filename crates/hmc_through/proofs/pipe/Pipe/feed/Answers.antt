-- The last place is known by its number.
use Rattle.std.proofs.Common.{◌∙◌, suc, Bool, if◌then◌else◌, ap, sym, arith}
use Rattle.std.proofs.lemmas.Bool.{eq-eqb, ne_eqb}
use Rattle.hmc_through.specs.Pipe.{PipeFields, whole_fed, last_fed}
use Rattle.hmc_through.proofs.pipe.Pipe.feed.Goals as goal

pub returns-then-at-self : goal.returns-then-at-self
returns-then-at-self c =
    let pipe = c.args.self.now in
    let flits = ap (λ (p : PipeFields). p.flits) c.self.view_is in
    c.last_fed.ensures
    ∙ ap (λ (b : Bool). if b then last_fed pipe c.args.at pipe.good else whole_fed pipe c.args.at
    pipe.good) (sym (eq-eqb (suc c.args.at) pipe.flits
    (omega (arith, c.if-at-self.true, flits))))

pub returns-else-at-self : goal.returns-else-at-self
returns-else-at-self c =
    let pipe = c.args.self.now in
    let flits = ap (λ (p : PipeFields). p.flits) c.self.view_is in
    c.whole_fed.ensures
    ∙ ap (λ (b : Bool). if b then last_fed pipe c.args.at pipe.good else whole_fed pipe c.args.at
    pipe.good) (sym (ne_eqb (suc c.args.at) pipe.flits
    (λ same. c.if-at-self.false (omega (arith, same, flits)))))
