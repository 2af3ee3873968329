use Rattle.std.proofs.Common.{[], ◌∷◌, ◌++◌, refl, ◌∙◌}
use borrow.Rule.Slice.PartMut.{put_mid}
use Rattle.hmc_packet.proofs.DraftLemmas.{second_half}
use Rattle.hmc_packet.proofs.draft.flit_of_halves.Goals as goal

pub returns : goal.returns
returns c =
    (λ i. put_mid 8 8 (c.copy_from_slice.ensures.after i ++ (0 ∷ 0 ∷ 0 ∷ 0 ∷ 0 ∷ 0 ∷ 0 ∷ 0 ∷ [])) (c.copy_from_slice-2.ensures.after i))
    ∙ second_half 8 c.args.first.now c.args.second.now (0 ∷ 0 ∷ 0 ∷ 0 ∷ 0 ∷ 0 ∷ 0 ∷ 0 ∷ []) c.told-first refl c.told-second
