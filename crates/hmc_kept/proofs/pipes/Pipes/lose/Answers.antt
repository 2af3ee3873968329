-- The pipe of a packet that is forwarded ends where its framing is lost.
use Rattle.std.proofs.Common.{◌≡◌, ◌∙◌, ℕ, Option, None, length, ap, sym, refl, arith}
use Rattle.std.specs.Prelude.{option_map}
use Rattle.hmc_journal.specs.Piped.{with_unlock}
use Rattle.hmc_kept.specs.Pipes.{PipesHeld, changed_pipe}
use Rattle.hmc_kept.proofs.PipeLemmas.{forwarded_found, pipe_found, unchanged, change_made, may_lose}
use Rattle.hmc_kept.proofs.pipes.Pipes.lose.Goals as goal

pub returns-in_default : goal.returns-in_default
returns-in_default c =
    let found = forwarded_found c.args.self.now c.self.inside.forwarded.items c.self.inside.pipes.items c.from.result c.args.direction c.index.result.now c.self.view_is c.from.ensures c.index.ensures c.requires.there in
    unchanged c.args.self.now c.args.direction (λ (onto : Option ℕ). None) with_unlock (sym found ∙ c.in_default.is)

pub index_mut-requires : goal.index_mut-requires
index_mut-requires c =
    let found = forwarded_found c.args.self.now c.self.inside.forwarded.items c.self.inside.pipes.items c.from.result c.args.direction c.index.result.now c.self.view_is c.from.ensures c.index.ensures c.requires.there in
    let gathering = c.requires.gathering c.in-Some.onto (sym found ∙ c.in-Some.is) in
    let long : length c.self.inside.pipes.items ≡ length c.args.self.now.pipes = ap (λ (h : PipesHeld). length h.pipes) c.self.view_is in
    omega (arith, c.from-2.ensures, gathering.there, long, c.self.inside.pipes.ok.0)

pub lose_in-requires : goal.lose_in-requires
lose_in-requires c =
    let found = forwarded_found c.args.self.now c.self.inside.forwarded.items c.self.inside.pipes.items c.from.result c.args.direction c.index.result.now c.self.view_is c.from.ensures c.index.ensures c.requires.there in
    let gathering = c.requires.gathering c.in-Some.onto (sym found ∙ c.in-Some.is) in
    let pipe = pipe_found c.args.self.now c.self.inside.forwarded.items c.self.inside.pipes.items c.from-2.result c.in-Some.onto c.index_mut.result.now c.self.view_is c.from-2.ensures c.index_mut.ensures.value gathering.there in
    may_lose c.index_mut.result.now gathering.p (pipe ∙ gathering.pipe) gathering.unended

pub returns : goal.returns
returns c =
    let found = forwarded_found c.args.self.now c.self.inside.forwarded.items c.self.inside.pipes.items c.from.result c.args.direction c.index.result.now c.self.view_is c.from.ensures c.index.ensures c.requires.there in
    let onto = sym found ∙ c.in-Some.is in
    let gathering = c.requires.gathering c.in-Some.onto onto in
    let pipe = pipe_found c.args.self.now c.self.inside.forwarded.items c.self.inside.pipes.items c.from-2.result c.in-Some.onto c.index_mut.result.now c.self.view_is c.from-2.ensures c.index_mut.ensures.value gathering.there in
    change_made c.args.self.now c.self.inside.forwarded.items c.self.inside.pipes.items c.from-3.result c.args.direction c.from-2.result c.in-Some.onto None c.lose_in.new.pipe (λ (onto : Option ℕ). None) with_unlock c.self.view_is c.from-3.ensures c.from-2.ensures onto refl
    (c.lose_in.ensures ∙ ap (option_map (changed_pipe with_unlock)) pipe)
