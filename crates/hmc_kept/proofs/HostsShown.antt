-- What is shown of a host is what its journal leaves.
use Rattle.std.proofs.Common.{◌≡◌, ◌<◌, ◌∙◌, ℕ, List, length, ap, slice_get}
use Rattle.std.proofs.lemmas.Option.{slice_get-get_or}
use Rattle.hmc_host.specs.Host.{HostFields}
use Rattle.hmc_host.specs.Tags.{number_out}
use Rattle.hmc_entries.specs.declared.entry.Entry.{Entry}
use Rattle.hmc_journal.specs.Counts.{host_counts}
use Rattle.hmc_journal.specs.Hosts.{host_of, tags_out}
use Rattle.hmc_journal.specs.Setup.{Setup, hosts_in}
use Rattle.hmc_tally.specs.Tally.{TallyFields, no_host_steps, host_row, host_steps, tally_of}
use Rattle.hmc_tally.proofs.Rows.{value_at}
use Rattle.hmc_kept.specs.Hosts.{no_host, host_in, out_of, host_counts_of}

out_shown : (setup : Setup) (past : List Entry) (hosts : List HostFields) (host : ℕ) → host < length hosts → host_in hosts host ≡ host_of setup past host → out_of (slice_get hosts host) ≡ number_out (tags_out host past)
unfolding host_of
out_shown setup past hosts host there same = ap out_of (slice_get-get_or hosts host no_host there) ∙ ap (λ (h : HostFields). number_out h.tags) same

pub host_shown : (setup : Setup) (past : List Entry) (tally : TallyFields) (hosts : List HostFields) (host : ℕ) → tally ≡ tally_of setup.topology past → host < hosts_in setup.topology → host < length hosts → host_in hosts host ≡ host_of setup past host
    → host_counts_of tally hosts host ≡ host_counts past host
unfolding host_counts
host_shown setup past tally hosts host counted inside there same =
    let row : host_row tally host ≡ host_steps past host = ap (λ (t : TallyFields). host_row t host) counted ∙ value_at (host_steps past) (hosts_in setup.topology) host no_host_steps inside in
    let out = out_shown setup past hosts host there same in
    λ i. record { given = (row i).given; taken = (row i).taken; out = out i }
