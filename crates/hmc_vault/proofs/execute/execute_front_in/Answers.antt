-- Without a front nothing waits; a front that waits is not performed.
use Rattle.std.proofs.Common.{◌≡◌, ◌∙◌, Bor, Some, refl, sym, ap}
use Rattle.std.specs.Prelude.{option_map, slice_get}
use Rattle.hmc_codes.specs.declared.command.Command.{Command}
use Rattle.hmc_packet.specs.Packet.{PacketFields}
use Rattle.hmc_tokens.specs.Queue.{packets_of, size_of}
use Rattle.hmc_vault.specs.Execute.{command_waits}
use Rattle.hmc_vault.proofs.VaultLemmas.{no_front}
use Rattle.hmc_vault.proofs.WaitLemmas.{full_where_waits, waits_by_command, command_carried}
use Rattle.hmc_vault.proofs.execute.execute_front_in.Goals as goal

pub returns-in_default-clause-empty : goal.returns-in_default-clause-empty
returns-in_default-clause-empty g c = (λ _. no_front (packets_of c.args.waiting.now) (sym c.front_ref.ensures ∙ ap (option_map (λ (p : Bor PacketFields). p.now)) c.in_default.is), λ _. refl)

pub returns-then-command_waits-clause-answer : goal.returns-then-command_waits-clause-answer
returns-then-command_waits-clause-answer g c =
    let some : slice_get (packets_of c.args.waiting.now) 0 ≡ Some c.in-Some.front.now = sym c.front_ref.ensures ∙ ap (option_map (λ (p : Bor PacketFields). p.now)) c.in-Some.is in
    sym (full_where_waits (packets_of c.args.waiting.now) (packets_of c.args.answers.now) (size_of c.args.answers.now) _ _ c.requires
    (waits_by_command (packets_of c.args.waiting.now) (packets_of c.args.answers.now) (size_of c.args.answers.now) c.in-Some.front.now c.front.inside.command _ some
    (ap (λ (p : PacketFields). p.command) c.front.view_is) (sym c.command_waits.ensures ∙ c.if-command_waits.true)))

pub put_reply-requires-clause-room : goal.put_reply-requires-clause-room
put_reply-requires-clause-room g c =
    ap (λ (k : Command). command_waits k (packets_of c.args.answers.now) (size_of c.args.answers.now))
    (sym (ap (λ (p : PacketFields). p.command) c.front.view_is ∙ command_carried c.in-Some.front.now c.unwrap-execution-inside.result (sym c.request_of.ensures.exact ∙ c.unwrap-execution-inside.ensures)))
    ∙ sym c.command_waits.ensures ∙ c.if-command_waits.false
