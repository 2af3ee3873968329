-- After a round no line is full before its sends.
use Rattle.std.proofs.Common.{◌≡◌, ◌≤◌, inl, inr, length, ◌∙◌, ap, arith}
use Rattle.hmc_codes.specs.declared.profile.Profile.{Profile}
use Rattle.hmc_numbers.specs.Direction.{rest}
use Rattle.hmc_numbers.specs.Events.{Reading}
use Rattle.hmc_link_state.specs.State.{Setup, State, wire, IsSteady}
use Rattle.hmc_link_state.specs.Round.{sent, sent_both, landed_forth, link_round, costs_next, CubeRound, IsRound}
use Rattle.hmc_link_state.specs.EachRound.{Steadies, StaysSteady}
use Rattle.hmc_link_state.proofs.Lines.{sent_fits, rest_fits, lands_own, lands_other}

forth_line : (c : Setup) (l m : Reading) (s : State) →
    (wire (link_round c l m s).forth).line ≡ rest (wire (sent c s.forth s.back)).line
forth_line c l m s =
    let b : State = landed_forth l (sent_both c s) in
    lands_other b.back b.forth m
    ∙ lands_own (sent c s.forth s.back) (costs_next (sent c s.forth s.back)) l

back_line : (c : Setup) (l m : Reading) (s : State) →
    (wire (link_round c l m s).back).line ≡ rest
    (wire (sent c s.back (sent c s.forth s.back))).line
back_line c l m s =
    let b : State = landed_forth l (sent_both c s) in
    lands_own b.back (costs_next b.back) m
    ∙ ap rest (lands_other (sent c s.forth s.back) (sent c s.back (sent c s.forth s.back)) l)

cube_forth : (s t : State) → CubeRound s t → (wire t.forth).line ≡ (wire s.forth).line
cube_forth s t (inl m) = ap (λ x. (wire x).line) m.forth
cube_forth s t (inr i) = ap (λ x. (wire x.forth).line) i.0

cube_back : (s t : State) → CubeRound s t → (wire t.back).line ≡ (wire s.back).line
cube_back s t (inl m) = ap (λ x. (wire x).line) m.back
cube_back s t (inr i) = ap (λ x. (wire x.back).line) i.0

round_steadies : (c : Setup) (s t : State) → IsRound c s t → length (wire s.forth).line ≤ c.line →
    length (wire s.back).line ≤ c.line → 1 ≤ c.line → IsSteady c t
round_steadies c s t r f b k = (
  rest_fits c (wire (sent c s.forth s.back)).line (wire t.forth).line
      (sent_fits c s.forth s.back f k) (cube_forth (link_round c r.0 r.1 s) t r.4
      ∙ forth_line c r.0 r.1 s),
  rest_fits c (wire (sent c s.back (sent c s.forth s.back))).line (wire t.back).line
      (sent_fits c s.back (sent c s.forth s.back) b k) (cube_back (link_round c r.0 r.1 s) t r.4
      ∙ back_line c r.0 r.1 s),
)

pub steadies : (p : Profile) (c : Setup) → Steadies p c
steadies p c =
    λ f run r a b. round_steadies c (run 0) (run 1) (r 0 (omega arith)) a.forth.short a.back.short
    f.line.0

pub stays_steady : (p : Profile) (c : Setup) → StaysSteady p c
stays_steady p c = λ f run r a b. steadies p c f run r a tt
