-- The laws of packets that were sent.
use Rattle.std.proofs.Common.{◌≡◌, ◌≢◌, ◌∙◌, ◌<◌, ℕ, Some, Ok, Err, List, [], ◌∷◌, false, sym}
use Rattle.hmc_codes.specs.declared.profile.Profile.{Profile}
use Rattle.hmc_codes.specs.Commands.{layout_of, is_flow}
use Rattle.hmc_codes.specs.declared.layout.Layout.TheVariants as layouts
use Rattle.hmc_codes.specs.declared.command.Command.{Command}
use Rattle.hmc_codes.specs.declared.command.Command.TheVariants.{Null, Irtry}
use Rattle.hmc_packet.specs.declared.bad.Bad.TheVariants as bads
use Rattle.hmc_packet.specs.declared.seen.Seen.{Seen}
use Rattle.hmc_packet.specs.Packet.{PacketFields, flits_of}
use Rattle.hmc_codes.specs.Flit.{zero_flit}
use Rattle.hmc_packet.specs.Parts.{lng_of}
use Rattle.hmc_packet.specs.Reading.{read_of}
use Rattle.hmc_packet.specs.Head.{named_by, head_in, packet_head}
use Rattle.hmc_packet.specs.Laws.{IsSentAs}
use Rattle.hmc_packet.proofs.CommandLemmas.{null_layout-null}
use Rattle.hmc_packet.proofs.LinkLemmas.{lng_of-first, named_by-first, not_null-first, command-first, long-first}
use Rattle.hmc_packet.proofs.FrontLemmas.{head_in-first}

other : (c : Command) → c ≢ Null → layout_of c ≢ layouts.Null
other c some null = some (null_layout-null c null)

pub sent-lng : (profile : Profile) → (p : PacketFields) (rrp : ℕ) (first : List ℕ) (rest : List (List ℕ)) → IsSentAs profile p rrp first rest → p.command ≢ Null → lng_of first ≡ flits_of p
sent-lng profile p rrp first rest sent some = lng_of-first profile p rrp first rest sent.packet (other p.command some) sent.flits

pub sent-command : (profile : Profile) → (p : PacketFields) (rrp : ℕ) (first : List ℕ) (rest : List (List ℕ)) → IsSentAs profile p rrp first rest → p.command ≢ Null → named_by first ≡ Some p.command
sent-command profile p rrp first rest sent some = named_by-first profile p rrp first rest sent.packet sent.pointer (other p.command some) sent.flits

pub sent-some : (profile : Profile) → (p : PacketFields) (rrp : ℕ) (first : List ℕ) (rest : List (List ℕ)) → IsSentAs profile p rrp first rest → p.command ≢ Null → first ≢ zero_flit
sent-some profile p rrp first rest sent some = not_null-first profile p rrp first rest sent.packet (other p.command some) sent.flits

pub sent-head : (profile : Profile) → (p : PacketFields) (rrp : ℕ) (first : List ℕ) (rest : List (List ℕ)) → IsSentAs profile p rrp first rest → is_flow (layout_of p.command) ≡ false → head_in first ≡ Some (packet_head p)
sent-head profile p rrp first rest sent no_flow = head_in-first profile p rrp first rest sent.packet sent.pointer no_flow sent.flits

pub sent-alone : (profile : Profile) → (p : PacketFields) (rrp : ℕ) (first : List ℕ) (rest : List (List ℕ)) (seen : Seen) → IsSentAs profile p rrp first rest → read_of profile (first ∷ []) ≡ Ok seen → seen.packet.command ≡ p.command
sent-alone profile p rrp first rest seen sent read = command-first profile p rrp first rest seen sent.packet sent.pointer sent.flits read

pub sent-no_irtry : (profile : Profile) → (p : PacketFields) (rrp : ℕ) (first : List ℕ) (rest : List (List ℕ)) (seen : Seen) → IsSentAs profile p rrp first rest → p.command ≢ Irtry → read_of profile (first ∷ []) ≡ Ok seen → seen.packet.command ≢ Irtry
sent-no_irtry profile p rrp first rest seen sent no_irtry read is = no_irtry (sym (sent-alone profile p rrp first rest seen sent read) ∙ is)

pub sent-several : (profile : Profile) → (p : PacketFields) (rrp : ℕ) (first : List ℕ) (rest : List (List ℕ)) → IsSentAs profile p rrp first rest → 1 < flits_of p → read_of profile (first ∷ []) ≡ Err bads.Length
sent-several profile p rrp first rest sent several = long-first profile p rrp first rest sent.packet several sent.flits
