-- One host more is new.
use Rattle.std.proofs.Common.{◌≡◌, ◌+◌, ◌∙◌, ℕ, List, length, sym, ap, subst}
use Rattle.std.specs.Prelude.{slice_index_or, ◌<◌}
use Rattle.std.proofs.lemmas.List.{length_push}
use Rattle.hmc_host.specs.Host.{HostFields, opening_host}
use Rattle.hmc_kept.proofs.Pushed.{each_pushed}
use Rattle.hmc_kept.proofs.parts.new_hosts.Goals as goal

pub loop-number-preserved : goal.loop-number-preserved
loop-number-preserved c =
    let script = c.args.script.now in
    let hosts = c.loop-number.hosts.items in
    let held = c.in_ok-new.field-0 in
    let here : held ≡ opening_host (length hosts) script = c.in_ok-new.ensures ∙ ap (λ (n : ℕ). opening_host n script) (sym c.loop-number.invariant.counted) in
    let items = c.in_ok-push.ensures.items in
    let more = each_pushed (λ host (h : HostFields). h ≡ opening_host host script) hosts held c.loop-number.invariant.new here in
    record {
      counted = ap length c.in_ok-push.ensures.items ∙ length_push hosts held ∙ ap (λ (n : ℕ). n + 1) c.loop-number.invariant.counted;
      new = subst (λ (l : List HostFields). (host : ℕ) (d : HostFields) → host < length l → slice_index_or l host d ≡ opening_host host script) (sym {A = List HostFields} items) more;
    }
