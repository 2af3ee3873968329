use Rattle.std.proofs.Common.{◌∙◌, ◌*◌, sym, ap, option_map}
use Rattle.hmc_schedule.specs.declared.written.Rounds.{Rounds}
use Rattle.hmc_schedule.specs.Noise.{counted}
use Rattle.hmc_schedule.specs.Round.{repeated}
use Rattle.hmc_schedule.specs.Written.{round_at}
use Rattle.hmc_schedule.proofs.ParseLemmas.{rounds_value, room_to_count, lands-rounds}
use Rattle.hmc_schedule.proofs.WrittenLemmas.{length-stretch}
use Rattle.hmc_schedule.proofs.parse.add_rounds.Goals as goal

pub add-requires-clause-count : goal.add-requires-clause-count
add-requires-clause-count c =
    let rounds : Rounds = record { round = c.args.round; count = c.args.count; noise = c.args.noise.now } in
    ap (λ k. k * c.args.round.len) c.from.ensures ∙ sym (length-stretch c.args.written.now.kept rounds c.requires.kept)

pub later_if-requires : goal.later_if-requires
later_if-requires c =
    room_to_count c.args.number c.args.written.now.kept c.args.round c.args.count c.args.noise.now c.args.written.now.steps c.add.new.written.steps c.requires.kept c.requires.noise c.in_ok-add.ensures.value

pub returns-clause-value : goal.returns-clause-value
returns-clause-value c =
    let rounds = repeated c.args.count (round_at c.args.written.now.kept c.args.round) in
    rounds_value c.args.number (record { steps = c.args.written.now.steps; noise = c.args.noise.now }) rounds c.add.new.written.steps c.later_if.result c.in_ok-add.ensures.value
    (c.later_if.ensures ∙ ap (λ k. option_map (counted k) c.args.noise.now) (sym (lands-rounds c.args.written.now.kept c.args.round c.args.count c.requires.kept)))
