-- The tape is read as the case of the session.
use Rattle.std.proofs.Common.{◌≡◌, ◌∙◌, ◌≤◌, ◌<◌, ℕ, List, [], ◌∷◌, Ok, refl, sym, ap, ap₂, arith}
use Rattle.std.specs.Prelude.{length}
use Rattle.std.specs.List.{All}
use Rattle.std.proofs.lemmas.List.Elements.{All-nil, All-cons, All-head, All-tail}
use Rattle.hmc_codes.specs.Limits.{most_hosts, most_requests, most_steps}
use Rattle.hmc_codes.specs.Request.{IsRequest}
use Rattle.hmc_script.specs.Items.{ItemFields, IsWithin}
use Rattle.hmc_script.specs.Script.{script_of}
use Rattle.hmc_script.proofs.LawLemmas.{printed_is_read}
use Rattle.hmc_schedule.specs.Plan.{PlanFields}
use Rattle.hmc_schedule.specs.Schedule.{schedule_of}
use Rattle.hmc_case.specs.Case.{case_of}
use Rattle.hmc_case.specs.Plan.{plan_of}
use Rattle.hmc_case.proofs.PlanLemmas.{length-plans_of}
use Rattle.hmc_entries.specs.declared.entry.Entry.{Entry}
use Rattle.hmc_step_text.proofs.Printed.{printed_steps_are_read}
use Rattle.hmc_journal.specs.Network.{IsItemOf}
use Rattle.hmc_journal.specs.Setup.{Setup, hosts_in, cubes_in}
use Rattle.hmc_session.proofs.Running.{run}
use Rattle.hmc_tape.specs.Laws.{TapeIsCase}
use Rattle.hmc_tape.specs.Tape.{TapedFields, IsTapeOf, net_in}

-- each request is one of the network
below_all : (hosts cubes : ℕ) (items : List ItemFields) → hosts ≤ most_hosts → All (IsItemOf hosts cubes) items → All (λ item. item.host < most_hosts) items
below_all hosts cubes [] few all = All-nil (λ item. item.host < most_hosts)
below_all hosts cubes (item ∷ items) few all =
    let host = (All-head (IsItemOf hosts cubes) item items all).within.host in
    All-cons (λ item. item.host < most_hosts) item items (omega (arith, host, few)) (below_all hosts cubes items few (All-tail (IsItemOf hosts cubes) item items all))

good_all : (hosts cubes : ℕ) (items : List ItemFields) → All (IsItemOf hosts cubes) items → All (λ item. IsRequest item.request) items
good_all hosts cubes [] all = All-nil (λ item. IsRequest item.request)
good_all hosts cubes (item ∷ items) all = All-cons (λ item. IsRequest item.request) item items (All-head (IsItemOf hosts cubes) item items all).request (good_all hosts cubes items (All-tail (IsItemOf hosts cubes) item items all))

within_all : (hosts cubes : ℕ) (items : List ItemFields) → All (IsItemOf hosts cubes) items → All (IsWithin hosts cubes) items
within_all hosts cubes [] all = All-nil (IsWithin hosts cubes)
within_all hosts cubes (item ∷ items) all = All-cons (IsWithin hosts cubes) item items (All-head (IsItemOf hosts cubes) item items all).within (within_all hosts cubes items (All-tail (IsItemOf hosts cubes) item items all))

-- the script of a tape
script_reads : (taped : TapedFields) (setup : Setup) (past : List Entry) → IsTapeOf taped setup past → length setup.script ≤ most_requests → script_of (hosts_in setup.topology) (cubes_in setup.topology) taped.script ≡ Ok setup.script
script_reads taped setup past is few =
    let hosts = hosts_in setup.topology in
    let cubes = cubes_in setup.topology in
    let net = is.stands.stands.network in
    ap (script_of hosts cubes) is.script
    ∙ printed_is_read hosts cubes setup.script (record { few = few; hosts = below_all hosts cubes setup.script net.few_hosts net.items; requests = good_all hosts cubes setup.script net.items }) (within_all hosts cubes setup.script net.items)

plan_hosts : (taped : TapedFields) (setup : Setup) (past : List Entry) → IsTapeOf taped setup past → taped.session.plan.hosts ≡ hosts_in setup.topology
plan_hosts taped setup past is = ap (λ (p : PlanFields). p.hosts) is.plan

plan_cubes : (taped : TapedFields) (setup : Setup) (past : List Entry) → IsTapeOf taped setup past → length taped.session.plan.cubes ≡ cubes_in setup.topology
plan_cubes taped setup past is = ap (λ (p : PlanFields). length p.cubes) is.plan ∙ length-plans_of setup.topology.links 0 setup.topology.cubes

pub script_read : (taped : TapedFields) (setup : Setup) (past : List Entry) → IsTapeOf taped setup past → length setup.script ≤ most_requests → script_of taped.session.plan.hosts (length taped.session.plan.cubes) taped.script ≡ Ok setup.script
script_read taped setup past is few =
    ap₂ (λ (h c : ℕ). script_of h c taped.script) (plan_hosts taped setup past is) (plan_cubes taped setup past is) ∙ script_reads taped setup past is few

-- the schedule of a tape
pub schedule_read : (taped : TapedFields) (setup : Setup) (past : List Entry) → IsTapeOf taped setup past → length setup.schedule ≤ most_steps → schedule_of taped.session.plan taped.schedule ≡ Ok setup.schedule
schedule_read taped setup past is few =
    ap (schedule_of taped.session.plan) is.schedule ∙ printed_steps_are_read taped.session.plan setup.schedule is.steps few

-- the case of a tape
pub tape_is_case : TapeIsCase
unfolding case_of
tape_is_case taped setup past bytes is fits document =
    let script = script_reads taped setup past is fits.requests in
    let schedule : schedule_of (plan_of (net_in setup)) taped.schedule ≡ Ok setup.schedule = ap (λ (p : PlanFields). schedule_of p taped.schedule) (sym is.plan) ∙ schedule_read taped setup past is fits.steps in
    (rw (document.document, document.keys, document.network, document.script_is, document.schedule_is, script, schedule) refl, run taped.session setup past is.stands)
