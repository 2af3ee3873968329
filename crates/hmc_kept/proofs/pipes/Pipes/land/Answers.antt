-- A flit lands in the pipe of its packet, if that is forwarded.
use Rattle.std.proofs.Common.{◌≡◌, ◌∙◌, length, ap, sym, arith}
use Rattle.std.specs.Prelude.{option_map}
use Rattle.hmc_journal.specs.Piped.{while_gathered, with_landing}
use Rattle.hmc_kept.specs.Pipes.{PipesHeld, changed_pipe}
use Rattle.hmc_kept.proofs.PipeLemmas.{forwarded_found, pipe_found, unchanged, change_made, may_land}
use Rattle.hmc_kept.proofs.pipes.Pipes.land.Goals as goal

pub returns-in_default : goal.returns-in_default
returns-in_default c =
    let outcome = c.args.outcome in
    let found = forwarded_found c.args.self.now c.self.inside.forwarded.items c.self.inside.pipes.items c.from.result c.args.direction c.index.result.now c.self.view_is c.from.ensures c.index.ensures c.requires.there in
    unchanged c.args.self.now c.args.direction (while_gathered outcome) (with_landing c.args.flit.now outcome) (sym found ∙ c.in_default.is)

pub index_mut-requires : goal.index_mut-requires
index_mut-requires c =
    let found = forwarded_found c.args.self.now c.self.inside.forwarded.items c.self.inside.pipes.items c.from.result c.args.direction c.index.result.now c.self.view_is c.from.ensures c.index.ensures c.requires.there in
    let gathering = c.requires.gathering c.in-Some.onto (sym found ∙ c.in-Some.is) in
    let long : length c.self.inside.pipes.items ≡ length c.args.self.now.pipes = ap (λ (h : PipesHeld). length h.pipes) c.self.view_is in
    omega (arith, c.from-2.ensures, gathering.there, long, c.self.inside.pipes.ok.0)

pub land_in-requires : goal.land_in-requires
land_in-requires c =
    let found = forwarded_found c.args.self.now c.self.inside.forwarded.items c.self.inside.pipes.items c.from.result c.args.direction c.index.result.now c.self.view_is c.from.ensures c.index.ensures c.requires.there in
    let onto = sym found ∙ c.in-Some.is in
    let gathering = c.requires.gathering c.in-Some.onto onto in
    let pipe = pipe_found c.args.self.now c.self.inside.forwarded.items c.self.inside.pipes.items c.from-2.result c.in-Some.onto c.index_mut.result.now c.self.view_is c.from-2.ensures c.index_mut.ensures.value gathering.there in
    may_land c.index_mut.result.now gathering.p c.args.outcome (pipe ∙ gathering.pipe) gathering.unended gathering.more (c.requires.last c.in-Some.onto gathering.p onto gathering.pipe)

pub returns : goal.returns
returns c =
    let outcome = c.args.outcome in
    let found = forwarded_found c.args.self.now c.self.inside.forwarded.items c.self.inside.pipes.items c.from.result c.args.direction c.index.result.now c.self.view_is c.from.ensures c.index.ensures c.requires.there in
    let onto = sym found ∙ c.in-Some.is in
    let gathering = c.requires.gathering c.in-Some.onto onto in
    let pipe = pipe_found c.args.self.now c.self.inside.forwarded.items c.self.inside.pipes.items c.from-2.result c.in-Some.onto c.index_mut.result.now c.self.view_is c.from-2.ensures c.index_mut.ensures.value gathering.there in
    change_made c.args.self.now c.self.inside.forwarded.items c.self.inside.pipes.items c.from-3.result c.args.direction c.from-2.result c.in-Some.onto c.onto_after.result c.land_in.new.pipe (while_gathered outcome) (with_landing c.args.flit.now outcome) c.self.view_is c.from-3.ensures c.from-2.ensures onto c.onto_after.ensures
    (c.land_in.ensures ∙ ap (option_map (changed_pipe (with_landing c.args.flit.now outcome))) pipe)
