-- Which lists of entries a receiver stands for, and what its calls answer by such a list.
use Rattle.std.specs.Prelude.{◌≡◌, ◌≢◌, ℕ, ◌%◌, min, List, [], ◌∷◌, length}
use Rattle.hmc_codes.specs.declared.profile.Profile.{Profile}
use Rattle.hmc_irtry.specs.Runs.{run_of}
use Rattle.hmc_packet.specs.declared.kind.Kind.{Kind}
use Rattle.hmc_packet.specs.declared.reception.Reception.{Reception}
use Rattle.hmc_packet.specs.declared.view.Mode.TheVariants.{Train}
use Rattle.hmc_packet.specs.Landings.{ReceiverEntry, mode, pending, whole_run, run, whole_training, training, accepted_by, accepted, pointer_of}
use Rattle.hmc_packet.specs.Packet.{PacketFields, null_packet}
use Rattle.hmc_packet.specs.Receptions.{reception_of, landing_entry, landed_with}
use Rattle.hmc_receive.specs.declared.landing.Landing.{Landing}
use Rattle.hmc_receive.specs.Receiver.{ReceiverFields}

-- the packet accepted last, once these were accepted too
abbrev pub latest_of : (before : PacketFields) → List PacketFields → PacketFields
latest_of before [] = before
latest_of before (packet ∷ rest) = packet

-- the packet accepted last, a NULL where there is none
unfoldable pub latest : Profile → List ReceiverEntry → PacketFields
latest profile [] = null_packet
latest profile (entry ∷ past) =
    latest_of (latest profile past) (accepted_by profile (pending past) entry)

-- a receiver of this profile stands for these entries, the newest first
pub record ReceiverStandsFor (q : Profile) (r : ReceiverFields) (past : List ReceiverEntry) :
    Type 0 where
  pub profile : r.profile ≡ q
  pub mode : r.mode ≡ mode past
  -- while it is trained, it counts the flits in a row that train, up to a whole training
  pub train : r.mode ≡ Train →
      r.train ≡ record { profile = q; count = min (training q past) whole_training }
  -- afterwards, the IRTRYs of one kind in a row, up to a whole run
  pub runs : r.mode ≢ Train → (kind : Kind) →
      run_of kind r.runs ≡ min (run q kind past) whole_run
  pub frp : r.frp ≡ pointer_of q past
  pub seq : r.seq ≡ length (accepted q past) % 8
  pub packet : r.packet ≡ latest q past
  pub gathered : r.gathered ≡ pending past

-- a reception with the packet that it accepted
abbrev pub landing_with : Reception → PacketFields → Landing
landing_with reception packet = record {
  outcome = landed_with reception.outcome packet;
  rrp = reception.rrp;
  checked = reception.checked;
}

-- what the landing of a flit gives after these entries
abbrev pub landing_of : Profile → List ReceiverEntry → List ℕ → Landing
landing_of profile past flit =
    landing_with (reception_of profile past flit)
    (latest profile (landing_entry profile past flit ∷ past))
