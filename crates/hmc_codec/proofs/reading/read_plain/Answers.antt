use Rattle.std.proofs.Common.{◌∙◌, Result, Ok, ap}
use Rattle.hmc_codes.specs.declared.profile.Profile.{Profile}
use Rattle.hmc_packet.specs.Reading.{read_of}
use Rattle.hmc_packet.specs.declared.bad.Bad.{Bad}
use Rattle.hmc_codec.specs.declared.plain.PlainPacket.{PlainPacket}
use Rattle.hmc_codec.specs.Plain.{plain_read}
use Rattle.hmc_codec.proofs.reading.read_plain.Goals as goal

pub returns-in-Ok : goal.returns-in-Ok
returns-in-Ok c =
    let done : PlainPacket → Result PlainPacket Bad = λ plain. Ok plain in
    ap done c.plain_of.ensures ∙ ap plain_read (c.in-Ok.ensures.exact
    ∙ ap (λ (profile : Profile). read_of profile c.args.flits.now) c.profile_of.ensures)
