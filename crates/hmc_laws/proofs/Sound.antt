-- Each lawful journal of a network keeps its queues, its links, its machine and its tags.
use Rattle.std.proofs.Common.{◌≡◌, ◌≤◌, ◌/◌, ℕ, Bool, true, false, nat_le, List, [], ◌∷◌, length, refl, sym, subst, arith, leb-true, leb-false}
use Rattle.std.proofs.lemmas.List.{length-replicate}
use Rattle.std.proofs.lemmas.List.Elements.{All-nil}
use Rattle.hmc_host.specs.Tags.{none_out}
use Rattle.hmc_entries.specs.declared.entry.Entry.{Entry}
use Rattle.hmc_journal.specs.Setup.{Setup, no_link}
use Rattle.hmc_codes.specs.Profile.{most_retry}
use Rattle.hmc_case.specs.declared.setup.LinkRow.{LinkRow}
use Rattle.hmc_send.specs.LinkEntries.{takes}
use Rattle.hmc_send.specs.LinkSenders.{sender_entries}
use Rattle.hmc_journal.specs.Directions.{sent_flits, receiver_of, accepted}
use Rattle.hmc_journal.specs.Links.{link_sizes, link_entries}
use Rattle.hmc_journal.specs.Queues.{left, entered, contents}
use Rattle.hmc_journal.proofs.LinkKept.{kept-none}
use Rattle.hmc_laws.proofs.LinkHanded.{own_marks}
use Rattle.hmc_journal.specs.Hosts.{tags_out}
use Rattle.hmc_journal.specs.Serial.{state_after}
use Rattle.hmc_journal.specs.StepView.{state_of}
use Rattle.hmc_journal.specs.Lawful.{Lawful}
use Rattle.hmc_journal.proofs.EntryRule.{EntryRule, entry_rule, lawful_past}
use Rattle.hmc_journal.proofs.Moves.{within-more}
use Rattle.hmc_laws.proofs.Standing.{Stands}
use Rattle.hmc_laws.proofs.Entering.{Kept}
use Rattle.hmc_laws.proofs.Machine.{HasCubes-opening}
use Rattle.hmc_laws.proofs.Wired.{Wired, wired}
use Rattle.hmc_journal.specs.Network.{IsNetwork}
use Rattle.hmc_laws.proofs.PipeSteps.{pending_first, pending_step, up_first, up_step}
use Rattle.hmc_laws.proofs.GoodLandings.{short_step}
use Rattle.hmc_journal.specs.Piped.{forwarded_onto, pipe_onto}
use Rattle.hmc_packet.specs.Landings.{pending}
use Rattle.hmc_packet.specs.Landings as landings
use Rattle.hmc_laws.proofs.SoundQueues.{stands-more, state-more, tags-more}
use Rattle.hmc_laws.proofs.SoundSends.{has_begun}
use Rattle.hmc_laws.proofs.SoundLinks.{link-more}
use Rattle.hmc_laws.proofs.SoundLandings.{ends-more}
use Rattle.hmc_laws.proofs.SoundPipes.{past_links, none-more, brings, gathered-more, piped-more, forwarding-more}
use Rattle.hmc_laws.proofs.SoundCopies.{copies-more}

kept-more : (setup : Setup) (entry : Entry) (past : List Entry) → IsNetwork setup →
    Wired setup.topology → EntryRule setup past entry → Kept setup past → Kept setup (entry ∷ past)
kept-more setup entry past network wires right kept = record {
  masks = kept.masks;
  within = within-more setup entry past right (has_begun setup past entry right kept) kept.within;
  stands = λ room. stands-more setup entry past room network wires right kept;
  links = λ link. link-more setup entry past link network wires right kept;
  ends = λ d less. ends-more setup entry past d less wires right kept;
  none = none-more setup entry past right kept.none;
  state = state-more setup entry past right kept;
  tags = λ host. tags-more entry past host (kept.tags host);
  gathered = gathered-more setup entry past right kept;
  pendings =
      pending_step setup.topology entry past (brings setup past entry right kept) kept.pendings;
  short = short_step setup entry past right kept.short;
  up = λ d. up_step setup.topology d entry past (brings setup past entry right kept) kept.pendings
      (link-more setup entry past (d / 2) network wires right kept) (kept.up d);
  piped = piped-more setup entry past network wires right kept;
  forwarding = forwarding-more setup entry past network wires right kept;
  copies = λ d. copies-more setup entry past d network wires right kept;
}

-- a retry buffer is not too large, also that of a link that isn't there
retry_by : (setup : Setup) (link : ℕ) (far : Bool) → nat_le (length setup.topology.links) link
    ≡ far → IsNetwork setup → (link_sizes setup.topology link).retry ≤ most_retry
    (link_sizes setup.topology link).profile
retry_by setup link true is network =
    subst (λ (l : LinkRow). l.setup.retry ≤ most_retry l.setup.profile)
    (sym (past_links setup.topology.links link
    (leb-true (length setup.topology.links) link is))) (omega arith)
retry_by setup link false is network =
    (network.sizes link no_link (leb-false (length setup.topology.links) link is)).retry

kept_at_first : (setup : Setup) → IsNetwork setup → Kept setup []
unfolding contents left entered sent_flits accepted receiver_of landings.accepted pending takes
    link_entries sender_entries own_marks forwarded_onto pipe_onto state_of state_after tags_out
    none_out
kept_at_first setup network = record {
  masks = network.masks;
  within = λ room. omega arith;
  stands = λ room. All-nil (Stands setup.topology room);
  links = λ link. kept-none (link_sizes setup.topology link)
      (retry_by setup link (nat_le (length setup.topology.links) link) refl network);
  ends = λ d less. record { buffer = refl; inside = omega arith; host = λ host ends. refl };
  none = λ d big. refl;
  state = HasCubes-opening setup network;
  tags = λ host. length-replicate 2048 false;
  gathered = tt;
  pendings = pending_first setup.topology;
  short = λ e. tt;
  up = λ d. up_first setup.topology d;
  piped = λ d. tt;
  forwarding = λ e d less is. absurd cc;
  copies = λ d. tt;
}

kept-all : (setup : Setup) (past : List Entry) → IsNetwork setup → Wired setup.topology →
    Lawful setup past → Kept setup past
kept-all setup [] network wires lawful = kept_at_first setup network
kept-all setup (entry ∷ past) network wires lawful =
    kept-more setup entry past network wires (entry_rule setup entry past lawful)
    (kept-all setup past network wires (lawful_past setup entry past lawful))

pub kept : (setup : Setup) (past : List Entry) → IsNetwork setup → Lawful setup past →
    Kept setup past
kept setup past network lawful = kept-all setup past network (wired setup network) lawful
