-- Each count is one more where its test holds.
use Rattle.std.proofs.Common.{◌≡◌, ◌∙◌, ◌+◌, Bool, ap}
use Rattle.hmc_journal.specs.Hosts.{count_if}
use Rattle.hmc_packet.specs.Receptions.{is_arrival}
use Rattle.hmc_tally.specs.Tally.{is_repeat, is_abort}
use Rattle.hmc_tally.proofs.tally.add_landing.Goals as goal

pub returns : goal.returns
returns c =
    let row = c.args.row.now in
    let outcome = c.args.outcome in
    let accepted : c.count_if-row-2.result ≡ count_if (is_arrival outcome) row.accepted =
    c.count_if-row-2.ensures ∙ ap (λ (b : Bool). count_if b row.accepted)
    c.is_arrival.ensures in
    let repeats : c.count_if-row-3.result ≡ count_if (is_repeat outcome) row.repeats =
    c.count_if-row-3.ensures ∙ ap (λ (b : Bool). count_if b row.repeats) c.is_repeat.ensures in
    let aborts : c.count_if-row-4.result ≡ count_if (is_abort outcome) row.aborts =
    c.count_if-row-4.ensures ∙ ap (λ (b : Bool). count_if b row.aborts) c.is_abort.ensures in
    λ i. record row {
      landed = row.landed + 1;
      changed = c.count_if-row.ensures i;
      accepted = accepted i;
      repeats = repeats i;
      aborts = aborts i;
    }
