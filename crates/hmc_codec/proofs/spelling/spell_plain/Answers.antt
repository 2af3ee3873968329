-- The packet that is named fits.
use Rattle.std.proofs.Common.{◌≡◌, ◌∙◌, true, Some, sym}
use Rattle.hmc_codec.specs.Plain.{fits_profile, packet_named}
use Rattle.hmc_codec.proofs.Packets.{fits_named}
use Rattle.hmc_codec.proofs.spelling.spell_plain.Goals as goal

pub spell-requires : goal.spell-requires
spell-requires c =
    let plain = c.args.plain.now in
    let profile = c.profile_of-profile.result in
    let named : packet_named plain ≡ Some c.in_ok-packet.packet =
    sym c.packet_named.ensures ∙ c.in_ok-packet.was in
    let test : fits_profile profile plain ≡ true = sym c.fits_profile.ensures ∙ c.if-not-fits_profile.false in
    fits_named profile plain c.in_ok-packet.packet named test
