-- What the cube's moves change of the two sides of a link.
use Rattle.std.proofs.Common.{◌≡◌, ◌≤◌, ◌+◌, ◌∙◌, ℕ, List, [], ◌∷◌, ◌++◌, refl, sym, ap, subst, arith, append-nil, append_assoc}
use Rattle.hmc_packet.specs.Packet.{PacketFields, flits_of}
use Rattle.hmc_codes.specs.Link.{LinkFields}
use Rattle.hmc_send.specs.declared.toward.Toward.{Toward}
use Rattle.hmc_send.specs.declared.toward.Toward.TheVariants.{Forth, Back}
use Rattle.hmc_send.specs.LinkEntries.{LinkEntry, other}
use Rattle.hmc_send.specs.LinkEntries.LinkEntry.{handed, taken}
use Rattle.hmc_link_state.specs.State as drain
use Rattle.hmc_link_state.specs.State.{Side, AreFairSizes}
use Rattle.hmc_link_state.specs.Steps.{Step, Doing, Link, MayAll, link_after}
use Rattle.hmc_link_state.specs.Steps.Step.{leaves, queues}
use Rattle.hmc_link_state.proofs.Keeps.{fair_append}
use Rattle.hmc_rounds.specs.LinkPart.{sizes_by, doing_on, IsPlain, LinkPart}

-- the parts of `Moves` that speak of the sides alone
pub record SidesMoved (f b g c : Side) : Type 0 where
  pub rises : (f.half.moved ≤ g.half.moved) × (b.half.moved ≤ c.half.moved)
  pub forth : g ≡ record f { half = record f.half { moved = g.half.moved }; buffer = g.buffer }
  pub back : c ≡ record b {
    half = record b.half { moved = c.half.moved };
    buffer = c.buffer;
    queue = c.queue;
  }
  pub shifted : g.half.moved + drain.flits_of g.buffer ≡ f.half.moved + drain.flits_of f.buffer
  pub took : c.half.moved + drain.flits_of c.buffer ≡ b.half.moved + drain.flits_of b.buffer
  pub lifted : (more : List ℕ) × AreFairSizes more × (c.queue ≡ b.queue ++ more)

pub sides_same : (f b : Side) → SidesMoved f b f b
sides_same f b =
    record {
      rises = (omega arith, omega arith);
      forth = refl;
      back = refl;
      shifted = refl;
      took = refl;
      lifted = ([], tt, sym (append-nil b.queue));
    }

pub sides_on : (f b g c h d : Side) → SidesMoved f b g c → SidesMoved g c h d → SidesMoved f b h d
sides_on f b g c h d x y = record {
  rises = (omega (arith, x.rises, y.rises), omega (arith, x.rises, y.rises));
  forth =
      y.forth ∙ ap
      (λ (z : Side). record z { half = record z.half { moved = h.half.moved }; buffer = h.buffer })
      x.forth;
  back =
      y.back ∙ ap
      (λ (z : Side). record z {
        half = record z.half { moved = d.half.moved };
        buffer = d.buffer;
        queue = d.queue;
      }) x.back;
  shifted = y.shifted ∙ x.shifted;
  took = y.took ∙ x.took;
  lifted = (
    x.lifted.0 ++ y.lifted.0,
    fair_append x.lifted.0 y.lifted.0 x.lifted.1 y.lifted.1,
    y.lifted.2
        ∙ ap (λ q. q ++ y.lifted.0) x.lifted.2 ∙ append_assoc b.queue x.lifted.0 y.lifted.0,
  );
}

doing_same : (way : Toward) (step : Step) → doing_on way way step ≡ Doing.forth step
doing_same Forth step = refl
doing_same Back step = refl

doing_other : (way : Toward) (step : Step) → doing_on way (other way) step ≡ Doing.back step
doing_other Forth step = refl
doing_other Back step = refl

abbrev pub LinkMoved : Link → Link → Type 0
LinkMoved l k = SidesMoved l.forth l.back k.forth k.back

leave_forth : (c : drain.Setup) (way : Toward) (n : ℕ) (bf : List ℕ) (past now : List Doing) →
    MayAll c now → now ≡ doing_on way way (leaves n bf) ∷ past →
    LinkMoved (link_after c past) (link_after c now)
leave_forth c way n bf past now may is =
    let e : now ≡ Doing.forth (leaves n bf) ∷ past =
    is ∙ ap (λ d. d ∷ past) (doing_same way (leaves n bf)) in
    let m : MayAll c (Doing.forth (leaves n bf) ∷ past) = subst (MayAll c) e may in
    subst (λ (ds : List Doing). LinkMoved (link_after c past) (link_after c ds)) (sym e)
    (record {
      rises = (m.0.0, omega arith);
      forth = refl;
      back = refl;
      shifted = m.0.1;
      took = refl;
      lifted = ([], tt, sym (append-nil (link_after c past).back.queue));
    })

leave_back : (c : drain.Setup) (way : Toward) (n : ℕ) (bf : List ℕ) (past now : List Doing) →
    MayAll c now → now ≡ doing_on way (other way) (leaves n bf) ∷ past →
    LinkMoved (link_after c past) (link_after c now)
leave_back c way n bf past now may is =
    let e : now ≡ Doing.back (leaves n bf) ∷ past =
    is ∙ ap (λ d. d ∷ past) (doing_other way (leaves n bf)) in
    let m : MayAll c (Doing.back (leaves n bf) ∷ past) = subst (MayAll c) e may in
    subst (λ (ds : List Doing). LinkMoved (link_after c past) (link_after c ds)) (sym e)
    (record {
      rises = (omega arith, m.0.0);
      forth = refl;
      back = refl;
      shifted = refl;
      took = m.0.1;
      lifted = ([], tt, sym (append-nil (link_after c past).back.queue));
    })

hand_back : (c : drain.Setup) (way : Toward) (n : ℕ) (past now : List Doing) → MayAll c now →
    now ≡ doing_on way (other way) (queues n) ∷ past →
    LinkMoved (link_after c past) (link_after c now)
hand_back c way n past now may is =
    let e : now ≡ Doing.back (queues n) ∷ past =
    is ∙ ap (λ d. d ∷ past) (doing_other way (queues n)) in
    let m : MayAll c (Doing.back (queues n) ∷ past) = subst (MayAll c) e may in
    subst (λ (ds : List Doing). LinkMoved (link_after c past) (link_after c ds)) (sym e)
    (record {
      rises = (omega arith, omega arith);
      forth = refl;
      back = refl;
      shifted = refl;
      took = refl;
      lifted = (n ∷ [], (m.0.0, m.0.1, tt), refl);
    })

-- of a link's entries
abbrev pub numbers_of : LinkFields → (List LinkEntry → List Doing) → List LinkEntry → Link
numbers_of link doings past = link_after (sizes_by link) (doings past)

pub taken_forth : (link : LinkFields) (way : Toward) (doings : List LinkEntry → List Doing) →
    LinkPart link way doings → (past : List LinkEntry) → IsPlain link (taken way ∷ past)
    → LinkMoved (numbers_of link doings past) (numbers_of link doings (taken way ∷ past))
taken_forth link way doings part past kept =
    let is = part.taken_is way past kept in
    leave_forth (sizes_by link) way is.0 is.1 (doings past) (doings (taken way ∷ past))
    (part.may (taken way ∷ past) kept) is.2

pub taken_back : (link : LinkFields) (way : Toward) (doings : List LinkEntry → List Doing) →
    LinkPart link way doings → (past : List LinkEntry) → IsPlain link (taken (other way) ∷ past)
    → LinkMoved (numbers_of link doings past) (numbers_of link doings (taken (other way) ∷ past))
taken_back link way doings part past kept =
    let is = part.taken_is (other way) past kept in
    leave_back (sizes_by link) way is.0 is.1 (doings past) (doings (taken (other way) ∷ past))
    (part.may (taken (other way) ∷ past) kept) is.2

pub handed_back : (link : LinkFields) (way : Toward) (doings : List LinkEntry → List Doing) →
    LinkPart link way doings → (packet : PacketFields) (past : List LinkEntry) →
    IsPlain link (handed (other way) packet ∷ past)
    → LinkMoved (numbers_of link doings past)
    (numbers_of link doings (handed (other way) packet ∷ past))
handed_back link way doings part packet past kept =
    hand_back (sizes_by link) way (flits_of packet) (doings past)
    (doings (handed (other way) packet ∷ past)) (part.may (handed (other way) packet ∷ past) kept)
    (part.handed_is (other way) packet past kept)
