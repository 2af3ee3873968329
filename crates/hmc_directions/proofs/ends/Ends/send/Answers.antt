-- The end that sends in a direction has sent.
use Rattle.std.proofs.Common.{◌/◌, ◌∙◌}
use Rattle.std.specs.Prelude.{slice_index_or}
use Rattle.hmc_routes.specs.Directions.{other}
use Rattle.hmc_send.specs.LinkCalls.{LinkCall}
use Rattle.hmc_ends.proofs.SendNext.{send-steps, answer-is}
use Rattle.hmc_journal.specs.Links.{toward}
use Rattle.hmc_kept.specs.Called.{sizes_by}
use Rattle.hmc_directions.proofs.Calls.{hold_after, changed_here, other_there}
use Rattle.hmc_directions.proofs.Standing.{read_at, any_at, both_at, fed_of, put_is}
use Rattle.hmc_directions.proofs.ends.Ends.send.Goals as goal

pub returns-clause-answer : goal.returns-clause-answer
returns-clause-answer c = λ rows entries hold.
    let own = c.args.self.now in
    let d = c.args.direction in
    let s = c.index_mut.result.now in
    let near = read_at c.self.inside.ends.items own c.from.result d s c.self.view_is c.from.ensures c.requires.there c.index_mut.ensures.value in
    let l = slice_index_or own (other d) s in
    let far = any_at own (other d) s (other_there rows own entries d hold c.requires.there) in
    let both = both_at rows own entries d s l hold c.requires.there near far in
    c.send.ensures.answer (sizes_by rows d) _ both.sending ∙ answer-is (sizes_by rows d) (toward d) (entries (d / 2)) c.args.feed

pub returns-clause-stand : goal.returns-clause-stand
returns-clause-stand c = λ rows entries hold.
    let own = c.args.self.now in
    let d = c.args.direction in
    let s = c.index_mut.result.now in
    let near = read_at c.self.inside.ends.items own c.from.result d s c.self.view_is c.from.ensures c.requires.there c.index_mut.ensures.value in
    let l = slice_index_or own (other d) s in
    let far = any_at own (other d) s (other_there rows own entries d hold c.requires.there) in
    let both = both_at rows own entries d s l hold c.requires.there near far in
    let may = c.requires.may in
    let then = both_at may.rows own may.entries d s l may.stand c.requires.there near far in
    let fed = fed_of (sizes_by may.rows d) (toward d) (may.entries (d / 2)) s c.args.feed then.sending may.fed in
    let stands = (send-steps (toward d) s l c.send.new.self c.args.feed c.send.result fed c.feed_is_bytes.ensures c.send.ensures.answer c.send.ensures.stands).after (sizes_by rows d) (entries (d / 2)) both in
    put_is rows c.self.inside.ends.items own c.from.result d c.send.new.self _ c.self.view_is c.from.ensures
    (hold_after rows own _ entries d (λ w. LinkCall.send w c.args.feed) c.send.new.self l hold (changed_here rows own entries d c.send.new.self l hold c.requires.there far) stands)
