use Rattle.std.proofs.Common.{Option, refl, sym, subst}
use Rattle.std.specs.Option.{IsSome}
use Rattle.hmc_routes.proofs.TableLemmas.{IsHome, kept-home, home-read}
use Rattle.hmc_routes.specs.declared.table.Home.{Home}
use Rattle.hmc_routes.proofs.routes.Routes.home.Goals as goal

pub bounds-self-inside-from : goal.bounds-self-inside-from
bounds-self-inside-from c = (kept-home c.self.inside.graph c.args.self.now c.self.inside.tables.items c.self.inside.homes c.args.host c.from.result c.self.invariant c.self.view_is c.requires c.from.ensures).below

pub unwrap-requires : goal.unwrap-requires
unwrap-requires c =
    let has = kept-home c.self.inside.graph c.args.self.now c.self.inside.tables.items c.self.inside.homes c.args.host c.from.result c.self.invariant c.self.view_is c.requires c.from.ensures in
    subst (λ (o : Option Home). IsSome o) (sym has.kept) refl

known : (c : goal.After-unwrap) → IsHome c.args.self.now c.args.host c.unwrap.result
known c =
    home-read c.args.self.now c.self.inside.homes c.args.host c.from.result c.unwrap.result
    (kept-home c.self.inside.graph c.args.self.now c.self.inside.tables.items c.self.inside.homes c.args.host c.from.result c.self.invariant c.self.view_is c.requires c.from.ensures) c.unwrap.ensures

pub returns-clause-cube : goal.returns-clause-cube
returns-clause-cube c = (known c).cube

pub returns-clause-port : goal.returns-clause-port
returns-clause-port c = (known c).port

pub returns-clause-towards : goal.returns-clause-towards
returns-clause-towards c = (known c).towards
