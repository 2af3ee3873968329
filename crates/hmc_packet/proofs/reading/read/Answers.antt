use Rattle.std.proofs.Common.{◌∙◌, Result, Ok, ap, sym, subst, arith}
use Rattle.std.proofs.lemmas.Result.{err_from_is_err_and}
use Rattle.hmc_packet.specs.declared.bad.Bad.{Bad}
use Rattle.hmc_packet.specs.declared.seen.Seen.{Seen}
use Rattle.hmc_packet.specs.Packet.{PacketFields}
use Rattle.hmc_packet.specs.Reading.{IsSpelled}
use Rattle.hmc_packet.proofs.ReadOf.{null_is_spelled, joined-bytes, joined-judged, joined-spelled, read_of-only, read_of-is_null, read_of-no_length, read_of-bad, read_of-seen}
use Rattle.hmc_packet.proofs.reading.read.Goals as goal

pub returns-then-is_null_alone-clause-found : goal.returns-then-is_null_alone-clause-found
returns-then-is_null_alone-clause-found c =
    subst (λ (p : PacketFields). IsSpelled c.args.profile c.args.flits.now (record { packet = p; rrp = 0 })) (sym c.null.ensures) (null_is_spelled c.args.profile c.args.flits.now (sym c.if-is_null_alone.ensures))

pub returns-then-is_null_alone-clause-only : goal.returns-then-is_null_alone-clause-only
returns-then-is_null_alone-clause-only c =
    let seen : PacketFields → Result Seen Bad = λ p. Ok (record { packet = p; rrp = 0 }) in
    read_of-only c.args.profile c.args.flits.now (seen c.null.result) (ap seen c.null.ensures ∙ sym (read_of-is_null c.args.profile c.args.flits.now c.if-is_null_alone.ensures))

pub returns-then-not-has_length-clause-only : goal.returns-then-not-has_length-clause-only
returns-then-not-has_length-clause-only c =
    read_of-only c.args.profile c.args.flits.now _ (sym (read_of-no_length c.args.profile c.args.flits.now c.if-is_null_alone.ensures c.if-not-has_length.ensures))

pub judgement_of-requires : goal.judgement_of-requires
judgement_of-requires c = (joined-bytes c.args.flits.now c.as_flattened-bytes.result.now c.told-flits c.if-not-has_length.ensures c.as_flattened-bytes.ensures.value).some

pub returns-in_err-command-clause-only : goal.returns-in_err-command-clause-only
returns-in_err-command-clause-only c =
    let are = joined-bytes c.args.flits.now c.as_flattened-bytes.result.now c.told-flits c.if-not-has_length.ensures c.as_flattened-bytes.ensures.value in
    let p = err_from_is_err_and c.from_residual.result c.from_residual.ensures.1 in
    rw (p.1, p.2) (read_of-only c.args.profile c.args.flits.now _ (sym (read_of-bad c.args.profile c.args.flits.now c.as_flattened-bytes.result.now _ c.if-is_null_alone.ensures c.if-not-has_length.ensures are c.in_err-command.ensures)))

pub seen_in-requires-clause-few : goal.seen_in-requires-clause-few
seen_in-requires-clause-few c = (joined-bytes c.args.flits.now c.as_flattened-bytes.result.now c.told-flits c.if-not-has_length.ensures c.as_flattened-bytes.ensures.value).few

pub seen_in-requires-clause-some : goal.seen_in-requires-clause-some
seen_in-requires-clause-some c = (joined-bytes c.args.flits.now c.as_flattened-bytes.result.now c.told-flits c.if-not-has_length.ensures c.as_flattened-bytes.ensures.value).some

pub seen_in-requires-clause-packet : goal.seen_in-requires-clause-packet
seen_in-requires-clause-packet c =
    let are = joined-bytes c.args.flits.now c.as_flattened-bytes.result.now c.told-flits c.if-not-has_length.ensures c.as_flattened-bytes.ensures.value in
    (joined-judged c.args.profile c.args.flits.now c.as_flattened-bytes.result.now c.in_ok-command.command c.in_ok-command.poisoned are (λ k. omega (arith, c.type_inv.bytes k)) c.in_ok-command.ensures).packet

pub returns-clause-found : goal.returns-clause-found
returns-clause-found c =
    let are = joined-bytes c.args.flits.now c.as_flattened-bytes.result.now c.told-flits c.if-not-has_length.ensures c.as_flattened-bytes.ensures.value in
    let found = joined-judged c.args.profile c.args.flits.now c.as_flattened-bytes.result.now c.in_ok-command.command c.in_ok-command.poisoned are c.seen_in.ensures.are_bytes c.in_ok-command.ensures in
    subst (λ (s : Seen). IsSpelled c.args.profile c.args.flits.now s) (sym c.seen_in.ensures.value) (joined-spelled c.args.profile c.args.flits.now c.as_flattened-bytes.result.now _ c.told-flits are found)

pub returns-clause-only : goal.returns-clause-only
returns-clause-only c =
    let are = joined-bytes c.args.flits.now c.as_flattened-bytes.result.now c.told-flits c.if-not-has_length.ensures c.as_flattened-bytes.ensures.value in
    let done : Seen → Result Seen Bad = λ seen. Ok seen in
    read_of-only c.args.profile c.args.flits.now (done c.seen_in.result) (ap done c.seen_in.ensures.value ∙ sym (read_of-seen c.args.profile c.args.flits.now c.as_flattened-bytes.result.now c.in_ok-command.command c.in_ok-command.poisoned c.if-is_null_alone.ensures c.if-not-has_length.ensures are c.in_ok-command.ensures))
