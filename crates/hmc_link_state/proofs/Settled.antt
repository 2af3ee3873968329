-- A round keeps a settled link settled.
use Rattle.std.proofs.Common.{◌≤◌, inl, inr, length, sym, subst, arith}
use Rattle.hmc_codes.specs.declared.profile.Profile.{Profile}
use Rattle.hmc_numbers.specs.Events.{Reading}
use Rattle.hmc_link_state.specs.State.{Setup, Side, State, wire, IsSettled, IsSettledSide}
use Rattle.hmc_link_state.specs.Round.{sent, landed_own, landed_other, link_round, costs_next, CubeRound, IsRound}
use Rattle.hmc_link_state.specs.EachRound.{StaysSettled}
use Rattle.hmc_link_state.proofs.Lines.{IsHalfFull, sent_fits, lands_other}
use Rattle.hmc_link_state.proofs.Calm.{sent_settled, landed_own_settled, landed_other_settled}

link_settled : (c : Setup) (l m : Reading) (s : State) → IsSettled s →
    length (wire s.forth).line ≤ c.line → length (wire s.back).line ≤ c.line → 1 ≤ c.line →
    IsSettled (link_round c l m s)
link_settled c l m s h f b k =
    let a : Side = sent c s.forth s.back in
    let d : Side = sent c s.back a in
    let sa : IsSettledSide a = sent_settled c s.forth s.back h.0 h.1.good in
    let sd : IsSettledSide d = sent_settled c s.back a h.1 sa.good in
    let la : IsHalfFull c (wire a).line = sent_fits c s.forth s.back f k in
    let ld : IsHalfFull c (wire d).line = sent_fits c s.back a b k in
    let e : Side = landed_own a (costs_next a) l in
    let g : Side = landed_other a d l in
    let se : IsSettledSide e = landed_own_settled a (costs_next a) l sa in
    let sg : IsSettledSide g = landed_other_settled a d l sa la.1 sd in
    let n : 1 ≤ length (wire g).line =
    subst (λ xs. 1 ≤ length xs) (sym (lands_other a d l)) ld.1 in
    (landed_other_settled g e m sg n se, landed_own_settled g (costs_next g) m sg)

moved_settled : (s t : State) → CubeRound s t → IsSettled s → IsSettled t
moved_settled s t (inl m) h = (
  subst IsSettledSide (sym m.forth)
      (record {
        good = h.0.good;
        opened = h.0.opened;
        clears = h.0.clears;
        starts = h.0.starts;
        back = h.0.back;
        line = h.0.line;
      }),
  subst IsSettledSide (sym m.back)
      (record {
        good = h.1.good;
        opened = h.1.opened;
        clears = h.1.clears;
        starts = h.1.starts;
        back = h.1.back;
        line = h.1.line;
      }),
)
moved_settled s t (inr i) h = subst IsSettled (sym i.0) h

pub stays_settled : (p : Profile) (c : Setup) → StaysSettled p c
stays_settled p c = λ f run r a h.
    let x : IsRound c (run 0) (run 1) = r 0 (omega arith) in
    moved_settled (link_round c x.0 x.1 (run 0)) (run 1) x.4
    (link_settled c x.0 x.1 (run 0) h a.forth.short a.back.short f.line.0)
