-- By the words, and then by the result of the run.
use Rattle.std.proofs.Common.{◌∙◌, Some, refl, ap, sym}
use Rattle.std.specs.Prelude.{map, string_bytes}
use Rattle.hmc_replay.specs.declared.form.Form.TheVariants.{Run, Make, Check, Bound, Trace}
use Rattle.hmc_replay.proofs.Replays.{replayed_none, replayed_of, made_of}
use Rattle.hmc_replay.proofs.top.replay_with.Goals as goal

pub returns-in-None : goal.returns-in-None
returns-in-None g c = replayed_none g.S.Source.shows g.O.Sink.shows _ _ _ _ (sym c.form_of.ensures ∙ c.in-None.is)

pub returns-in-Some-Run : goal.returns-in-Some-Run
returns-in-Some-Run g c =
    let is = sym c.form_of.ensures ∙ c.in-Some-Run.is ∙ ap Some c.in-Some-Run.field-0-is in
    replayed_of g.S.Source.shows g.O.Sink.shows (map string_bytes c.args.words.now) _ Run _ _ _ _ _ c.run.result _ is refl c.status_of.ensures c.run.ensures

pub returns-in-Some-Make : goal.returns-in-Some-Make
returns-in-Some-Make g c =
    let is = sym c.form_of.ensures ∙ c.in-Some-Make.is ∙ ap Some c.in-Some-Make.field-0-is in
    made_of g.S.Source.shows g.O.Sink.shows (map string_bytes c.args.words.now) _ (Make c.in-Some-Make.number) _ _ _ c.run_made.result _ is refl c.status_of-in-Some-Make.ensures c.run_made.ensures

pub returns-in-Some-Check : goal.returns-in-Some-Check
returns-in-Some-Check g c =
    let is = sym c.form_of.ensures ∙ c.in-Some-Check.is ∙ ap Some c.in-Some-Check.field-0-is in
    replayed_of g.S.Source.shows g.O.Sink.shows (map string_bytes c.args.words.now) _ Check _ _ _ _
    _ c.run_check.result _ is refl c.status_of-in-Some-Check.ensures c.run_check.ensures

pub returns-in-Some-Bound : goal.returns-in-Some-Bound
returns-in-Some-Bound g c =
    let is = sym c.form_of.ensures ∙ c.in-Some-Bound.is ∙ ap Some c.in-Some-Bound.field-0-is in
    replayed_of g.S.Source.shows g.O.Sink.shows (map string_bytes c.args.words.now) _ Bound _ _ _ _ _ c.run_bound.result _ is refl c.status_of-in-Some-Bound.ensures c.run_bound.ensures

pub returns-in-Some-Trace : goal.returns-in-Some-Trace
returns-in-Some-Trace g c =
    let is = sym c.form_of.ensures ∙ c.in-Some-Trace.is ∙ ap Some c.in-Some-Trace.field-0-is in
    replayed_of g.S.Source.shows g.O.Sink.shows (map string_bytes c.args.words.now) _ Trace _ _ _ _
    _ c.run_trace.result _ is refl c.status_of-in-Some-Trace.ensures c.run_trace.ensures
