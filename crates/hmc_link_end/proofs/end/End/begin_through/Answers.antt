use Rattle.std.proofs.Common.{◌+◌, ℕ, Fits, w32, subst, sym}
use Rattle.hmc_ends.specs.End.{EndFields}
use Rattle.hmc_ends.specs.Parts.{parts_of}
use Rattle.hmc_ends.specs.StandsFor.{EndStandsFor, CanForward}
use Rattle.hmc_ends.proofs.PartLaws.{part_laws}
use Rattle.hmc_ends.proofs.Throughs.{may-begin, stands-through, sum-fits}
use Rattle.hmc_link_end.proofs.end.End.begin_through.Goals as goal

pub begin_through-requires-clause-free : goal.begin_through-requires-clause-free
begin_through-requires-clause-free g c = (may-begin _ c.args.head c.args.flits (subst (λ (e : EndFields). CanForward e c.args.head c.args.flits) (sym c.self.view_is) c.requires)).free

pub begin_through-requires-clause-held : goal.begin_through-requires-clause-held
begin_through-requires-clause-held g c = (may-begin _ c.args.head c.args.flits (subst (λ (e : EndFields). CanForward e c.args.head c.args.flits) (sym c.self.view_is) c.requires)).held

pub begin_through-requires-clause-room : goal.begin_through-requires-clause-room
begin_through-requires-clause-room g c = (may-begin _ c.args.head c.args.flits (subst (λ (e : EndFields). CanForward e c.args.head c.args.flits) (sym c.self.view_is) c.requires)).room

pub overflow_add-self : goal.overflow_add-self
overflow_add-self g c =
    subst (λ (n : ℕ). Fits w32 (c.self.inside.transit + n)) (sym c.from.ensures)
    (sum-fits _ _ (may-begin _ c.args.head c.args.flits (subst (λ (e : EndFields). CanForward e c.args.head c.args.flits) (sym c.self.view_is) c.requires)).few)

pub returns : goal.returns
returns g c link d past kept s0 =
    let p = parts_of link d past in
    let s = subst (λ (e : EndFields). EndStandsFor link e p) (sym c.self.view_is) s0 in
    stands-through link _ p c.args.head c.args.flits c.from.result c.begin_through.new.self c.begin_through.new.account s (part_laws link d past kept) c.from.ensures c.begin_through.ensures.left (c.begin_through.ensures.stands p.sender s.sender) c.begin_through.ensures.account
