-- What each entry leaves of the packet under way on a direction, where it is forwarded.
use Rattle.std.proofs.Common.{◌≡◌, ◌≤◌, ◌∙◌, ◌/◌, ◌==◌, ℕ, suc, Bool, true, false, Option, Some, List, [], ◌∷◌, length, refl, sym, ap, subst, arith, eqb-true, eq-eqb}
use Rattle.std.specs.Prelude.{option_map, slice_index_or}
use Rattle.hmc_codes.specs.Flit.{zero_flit, IsFlit}
use Rattle.hmc_codes.specs.declared.profile.Profile.{Profile}
use Rattle.hmc_codes.specs.declared.place.Place.TheVariants as places
use Rattle.hmc_packet.specs.declared.outcome.Outcome.{Outcome}
use Rattle.hmc_packet.specs.declared.outcome.Outcome.TheVariants as outcomes
use Rattle.hmc_packet.specs.declared.what.What.{What}
use Rattle.hmc_packet.specs.Landings.{ReceiverEntry, pending, gathered_after}
use Rattle.hmc_packet.specs.Parts.{lng_of}
use Rattle.hmc_tokens.specs.Account.{code_for}
use Rattle.hmc_send.specs.Entries.{SenderEntry, UnderWay, with_place, under_way}
use Rattle.hmc_send.specs.Entries as entries
use Rattle.hmc_send.specs.LinkEntries.{LinkEntry, put_if}
use Rattle.hmc_send.specs.LinkSenders.{sender_entries}
use Rattle.hmc_send.specs.Places.{Place, pointer_of, number_of, numbers_after}
use Rattle.hmc_send.proofs.Lists.{place-push}
use Rattle.hmc_send.proofs.LinkLawful.{lawful-through}
use Rattle.hmc_send.proofs.LinkProjections.{sender-sent, sender-through}
use Rattle.hmc_wire.specs.LinkLaws.{IsKept}
use Rattle.hmc_wire.proofs.Filled.{heads}
use Rattle.hmc_journal.specs.Choice.{choose}
use Rattle.hmc_entries.specs.declared.entry.Entry.{Entry}
use Rattle.hmc_entries.specs.declared.entry.Entry.TheVariants.{Gave, Sent, Landed, Shifted, Dropped, Spread, Executed, Lifted, Took, Discarded, Through, Unlocked, Retired, Passed, Idle}
use Rattle.hmc_journal.specs.Directions.{receiver_of}
use Rattle.hmc_journal.specs.Links.{toward, link_entries, sizes_on, entries_on, direction_to, gathered_at}
use Rattle.hmc_journal.specs.Piped.{PipeFrom, pipe_onto, pipe_of, with_landing, with_unlock, while_gathering}
use Rattle.hmc_journal.specs.Setup.{Topology}
use Rattle.hmc_journal.proofs.Projections.{feed_in, came_at}
use Rattle.hmc_laws.proofs.NoSends.{IsOfSends, IsNoSend, no-send, sent-elsewhere, sent-here, through-elsewhere, through-here}
use Rattle.hmc_laws.proofs.OpenSends.{sent_on, open_sent}
use Rattle.hmc_codes.proofs.BytesLemmas.{zero_is_flit}
use Rattle.hmc_laws.proofs.Piping.{up_on, IsPiped, UpPiped, each-push, up_landed, up_unlocked, up_sent}

-- the packet under way on a direction takes what its pipe gives
abbrev pub IsUp : Topology → ℕ → List Entry → Type 0
IsUp topology d past = UpPiped (pipe_onto topology d past) (up_on topology d past)

pub of_sends-up : (topology : Topology) (d : ℕ) → IsOfSends (under_way (sizes_on topology d).profile)
unfolding entries.places entries.last_begun entries.unfinished
of_sends-up topology d = record { acknowledged = λ past n. refl; ran = λ past. refl }

-- ---- entries that leave the pipe

-- an entry that changes no pipe
abbrev pub IsNoPipe : Entry → Type 0
IsNoPipe (Landed direction flit outcome) = ⊥
IsNoPipe (Unlocked direction) = ⊥
IsNoPipe (Through cube port direction) = ⊥
IsNoPipe _ = Unit {0}

pub pipe_same : (topology : Topology) (d : ℕ) (entry : Entry) (past : List Entry) → IsNoPipe entry → pipe_onto topology d (entry ∷ past) ≡ pipe_onto topology d past
unfolding pipe_onto
pipe_same topology d (Landed direction flit outcome) past quiet = absurd quiet
pipe_same topology d (Unlocked direction) past quiet = absurd quiet
pipe_same topology d (Through cube port direction) past quiet = absurd quiet
pipe_same topology d _ past quiet = refl

pub pipe_landed : (topology : Topology) (d direction : ℕ) (flit : List ℕ) (outcome : Outcome) (past : List Entry) → pipe_onto topology d (Landed direction flit outcome ∷ past) ≡ option_map (while_gathering direction (with_landing flit outcome)) (pipe_onto topology d past)
unfolding pipe_onto
pipe_landed topology d direction flit outcome past = refl

pub pipe_unlocked : (topology : Topology) (d direction : ℕ) (past : List Entry) → pipe_onto topology d (Unlocked direction ∷ past) ≡ option_map (while_gathering direction with_unlock) (pipe_onto topology d past)
unfolding pipe_onto
pipe_unlocked topology d direction past = refl

pub pipe_through : (topology : Topology) (d cube port direction : ℕ) (past : List Entry) → pipe_onto topology d (Through cube port direction ∷ past)
    ≡ choose (direction == d) (option_map (λ from. pipe_of topology from (pending (receiver_of from past))) (direction_to topology (places.Port cube port))) (pipe_onto topology d past)
unfolding pipe_onto
pipe_through topology d cube port direction past = refl

-- the same pipe, or the same packet under way
moved : (pipe before : Option PipeFrom) (up was : Option UnderWay) → pipe ≡ before → up ≡ was → UpPiped before was → UpPiped pipe up
moved pipe before up was same still is = subst (λ (p : Option PipeFrom). UpPiped p up) (sym same) (subst (UpPiped before) (sym still) is)

up_quiet : (topology : Topology) (d : ℕ) (entry : Entry) (past : List Entry) → IsNoSend entry → IsNoPipe entry → IsUp topology d past → IsUp topology d (entry ∷ past)
up_quiet topology d entry past quiet none is =
    moved (pipe_onto topology d (entry ∷ past)) (pipe_onto topology d past) (up_on topology d (entry ∷ past)) (up_on topology d past) (pipe_same topology d entry past none)
    (no-send (under_way (sizes_on topology d).profile) (of_sends-up topology d) topology d entry past quiet) is

-- ---- landings and unlocks

up_landing : (topology : Topology) (d direction : ℕ) (flit : List ℕ) (outcome : Outcome) (past : List Entry) → IsFlit flit → IsUp topology d past → IsUp topology d (Landed direction flit outcome ∷ past)
up_landing topology d direction flit outcome past is_flit is =
    moved (pipe_onto topology d (Landed direction flit outcome ∷ past)) (option_map (while_gathering direction (with_landing flit outcome)) (pipe_onto topology d past)) (up_on topology d (Landed direction flit outcome ∷ past)) (up_on topology d past)
    (pipe_landed topology d direction flit outcome past) (no-send (under_way (sizes_on topology d).profile) (of_sends-up topology d) topology d (Landed direction flit outcome) past tt)
    (up_landed (pipe_onto topology d past) (up_on topology d past) direction flit outcome is_flit is)

up_unlock : (topology : Topology) (d direction : ℕ) (past : List Entry) → IsUp topology d past → IsUp topology d (Unlocked direction ∷ past)
up_unlock topology d direction past is =
    moved (pipe_onto topology d (Unlocked direction ∷ past)) (option_map (while_gathering direction with_unlock) (pipe_onto topology d past)) (up_on topology d (Unlocked direction ∷ past)) (up_on topology d past)
    (pipe_unlocked topology d direction past) (no-send (under_way (sizes_on topology d).profile) (of_sends-up topology d) topology d (Unlocked direction) past tt)
    (up_unlocked (pipe_onto topology d past) (up_on topology d past) direction is)

-- ---- sends

up_send : (topology : Topology) (d direction : ℕ) (as_what : What) (flit : List ℕ) (past : List Entry) (here : Bool) → (direction == d) ≡ here → IsKept (sizes_on topology d) (entries_on topology d (Sent direction as_what flit ∷ past)) → IsUp topology d past
    → IsUp topology d (Sent direction as_what flit ∷ past)
up_send topology d direction as_what flit past false here kept is =
    moved (pipe_onto topology d (Sent direction as_what flit ∷ past)) (pipe_onto topology d past) (up_on topology d (Sent direction as_what flit ∷ past)) (up_on topology d past) (pipe_same topology d (Sent direction as_what flit) past tt)
    (sent-elsewhere (under_way (sizes_on topology d).profile) topology d direction as_what flit past here) is
up_send topology d direction as_what flit past true here kept is =
    let one : direction ≡ d = eqb-true direction d here in
    subst (λ (e : ℕ). IsUp topology d (Sent e as_what flit ∷ past)) (sym one) (up_here (subst (λ (e : ℕ). IsKept (sizes_on topology d) (entries_on topology d (Sent e as_what flit ∷ past))) one kept))
  where
    up_here : IsKept (sizes_on topology d) (entries_on topology d (Sent d as_what flit ∷ past)) → IsUp topology d (Sent d as_what flit ∷ past)
    up_here now =
        let sizes = sizes_on topology d in
        let before = entries_on topology d past in
        let feed = feed_in topology (d / 2) d past (toward d) in
        let at = sent-here topology d as_what flit past in
        let kept_now : IsKept sizes (LinkEntry.sent (toward d) feed as_what flit ∷ before) = subst (IsKept sizes) at now in
        moved (pipe_onto topology d (Sent d as_what flit ∷ past)) (pipe_onto topology d past) (up_on topology d (Sent d as_what flit ∷ past)) (under_way sizes.profile (sent_on sizes (toward d) feed as_what flit before))
        (pipe_same topology d (Sent d as_what flit) past tt) (ap (λ l. under_way sizes.profile (sender_entries sizes (toward d) l)) at ∙ ap (under_way sizes.profile) (sender-sent sizes (toward d) feed as_what flit before))
        (up_sent sizes (toward d) as_what flit before (pipe_onto topology d past) feed refl (open_sent sizes (toward d) feed as_what flit before kept_now) is)

-- ---- cut-throughs

-- the flits that are gathered at the end of a direction
abbrev pub ArePending : Topology → List Entry → Type 0
ArePending topology past = (e k : ℕ) → IsFlit (slice_index_or (pending (receiver_of e past)) k zero_flit)

-- what is known of a packet that is forwarded
pub record IsThrough (topology : Topology) (past : List Entry) (cube port : ℕ) : Type 0 where
  pub from : ℕ
  pub arrives : direction_to topology (places.Port cube port) ≡ Some from
  pub head : List ℕ
  pub rest : List (List ℕ)
  pub came : pending (receiver_of from past) ≡ head ∷ rest

pub came_is : (topology : Topology) (past : List Entry) (cube port : ℕ) (is : IsThrough topology past cube port) → came_at topology cube port past ≡ is.head ∷ is.rest
came_is topology past cube port is = ap (λ (found : Option ℕ). gathered_at found past) is.arrives ∙ is.came

pub under_through : (q : Profile) (head : List ℕ) (flits due : ℕ) (T : List SenderEntry)
    → under_way q (SenderEntry.through head flits due ∷ T) ≡ Some (record {
      part = record { again = false; flits = flits; sent = [] };
      place = Place.awaited head flits (numbers_after q (pointer_of q (entries.places q T)) (number_of (entries.places q T)) flits (code_for due));
    })
unfolding entries.places entries.unfinished entries.last_begun
under_through q head flits due T =
    let l = entries.places q T in
    let x : Place = Place.awaited head flits (numbers_after q (pointer_of q l) (number_of l) flits (code_for due)) in
    ap (λ (y : Place). with_place y (Some (record { again = false; flits = flits; sent = [] }))) (place-push l x)

-- the pipe of what is gathered fits a packet of which no flit was sent
new_pipe : (topology : Topology) (past : List Entry) (from : ℕ) (head : List ℕ) (rest came : List (List ℕ)) → came ≡ head ∷ rest → ((k : ℕ) → IsFlit (slice_index_or came k zero_flit)) → 2 ≤ lng_of head
    → IsPiped (pipe_of topology from came).pipe (record { again = false; flits = lng_of head; sent = [] }) head (lng_of head)
new_pipe topology past from head rest came is each many =
    let long : length came ≡ suc (length rest) = ap length is in record {
      for = record {
        flits = ap (λ (c : List (List ℕ)). lng_of (slice_index_or c 0 [])) is;
        some = omega arith;
        first = ap (λ (c : List (List ℕ)). slice_index_or c 0 zero_flit) is;
        each = each;
      };
      flits = refl;
      many = many;
      new = refl;
      sent = λ k less. absurd (omega arith);
      inside = λ none. omega arith;
    }

up_forwarded : (topology : Topology) (d cube port direction : ℕ) (past : List Entry) (here : Bool) → (direction == d) ≡ here → IsThrough topology past cube port → ArePending topology past
    → IsKept (sizes_on topology d) (entries_on topology d (Through cube port direction ∷ past)) → IsUp topology d past → IsUp topology d (Through cube port direction ∷ past)
up_forwarded topology d cube port direction past false here through pendings kept is =
    moved (pipe_onto topology d (Through cube port direction ∷ past)) (pipe_onto topology d past) (up_on topology d (Through cube port direction ∷ past)) (up_on topology d past)
    (pipe_through topology d cube port direction past
    ∙ ap (λ (b : Bool). choose b (option_map (λ from. pipe_of topology from (pending (receiver_of from past))) (direction_to topology (places.Port cube port))) (pipe_onto topology d past)) here)
    (through-elsewhere (under_way (sizes_on topology d).profile) topology d cube port direction past here) is
up_forwarded topology d cube port direction past true here through pendings kept is =
    let one : direction ≡ d = eqb-true direction d here in
    subst (λ (e : ℕ). IsUp topology d (Through cube port e ∷ past)) (sym one) (up_here (subst (λ (e : ℕ). IsKept (sizes_on topology d) (entries_on topology d (Through cube port e ∷ past))) one kept))
  where
    up_here : IsKept (sizes_on topology d) (entries_on topology d (Through cube port d ∷ past)) → IsUp topology d (Through cube port d ∷ past)
    up_here now =
        let sizes = sizes_on topology d in
        let before = entries_on topology d past in
        let head = through.head in
        let at = through-here topology d cube port head through.rest past (came_is topology past cube port through) in
        let kept_now : IsKept sizes (LinkEntry.through (toward d) head (lng_of head) ∷ before) = subst (IsKept sizes) at now in
        let named = heads (lng_of head) head (lawful-through sizes before (toward d) head (lng_of head) kept_now.lawful).1 in
        let came = pending (receiver_of through.from past) in
        let pipe : pipe_onto topology d (Through cube port d ∷ past) ≡ Some (pipe_of topology through.from came) =
        pipe_through topology d cube port d past
        ∙ ap (λ (b : Bool). choose b (option_map (λ from. pipe_of topology from (pending (receiver_of from past))) (direction_to topology (places.Port cube port))) (pipe_onto topology d past)) (eq-eqb d d refl)
        ∙ ap (option_map (λ from. pipe_of topology from (pending (receiver_of from past)))) through.arrives in
        let up = ap (λ l. under_way sizes.profile (sender_entries sizes (toward d) l)) at ∙ ap (under_way sizes.profile) (sender-through sizes (toward d) head (lng_of head) before) ∙ under_through sizes.profile head (lng_of head) _ _ in
        moved (pipe_onto topology d (Through cube port d ∷ past)) (Some (pipe_of topology through.from came)) (up_on topology d (Through cube port d ∷ past)) _ pipe up
        (new_pipe topology past through.from head through.rest came through.came (pendings through.from) named.some)

-- ---- every entry

-- what an entry brings: a flit that lands is one, and a packet that is forwarded was being gathered
abbrev pub Brings : Topology → List Entry → Entry → Type 0
Brings topology past (Landed direction flit outcome) = IsFlit flit
Brings topology past (Through cube port direction) = IsThrough topology past cube port
Brings topology past _ = Unit {0}

pub up_step : (topology : Topology) (d : ℕ) (entry : Entry) (past : List Entry) → Brings topology past entry → ArePending topology past → IsKept (sizes_on topology d) (entries_on topology d (entry ∷ past)) → IsUp topology d past → IsUp topology d (entry ∷ past)
up_step topology d (Landed direction flit outcome) past brings pendings kept is = up_landing topology d direction flit outcome past brings is
up_step topology d (Unlocked direction) past brings pendings kept is = up_unlock topology d direction past is
up_step topology d (Sent direction as_what flit) past brings pendings kept is = up_send topology d direction as_what flit past (direction == d) refl kept is
up_step topology d (Through cube port direction) past brings pendings kept is = up_forwarded topology d cube port direction past (direction == d) refl brings pendings kept is
up_step topology d (Gave host tag poisoned request) past brings pendings kept is = up_quiet topology d (Gave host tag poisoned request) past tt tt is
up_step topology d (Shifted cube port goal) past brings pendings kept is = up_quiet topology d (Shifted cube port goal) past tt tt is
up_step topology d (Dropped cube port) past brings pendings kept is = up_quiet topology d (Dropped cube port) past tt tt is
up_step topology d (Spread cube vault bank) past brings pendings kept is = up_quiet topology d (Spread cube vault bank) past tt tt is
up_step topology d (Executed unit host tag request answer) past brings pendings kept is = up_quiet topology d (Executed unit host tag request answer) past tt tt is
up_step topology d (Lifted cube from port) past brings pendings kept is = up_quiet topology d (Lifted cube from port) past tt tt is
up_step topology d (Took host tag answer) past brings pendings kept is = up_quiet topology d (Took host tag answer) past tt tt is
up_step topology d (Discarded host) past brings pendings kept is = up_quiet topology d (Discarded host) past tt tt is
up_step topology d (Retired slot) past brings pendings kept is = up_quiet topology d (Retired slot) past tt tt is
up_step topology d (Passed direction flit) past brings pendings kept is = up_quiet topology d (Passed direction flit) past tt tt is
up_step topology d (Idle step cause) past brings pendings kept is = up_quiet topology d (Idle step cause) past tt tt is

-- nothing is under way at first
pub up_first : (topology : Topology) (d : ℕ) → IsUp topology d []
unfolding pipe_onto link_entries sender_entries entries.places entries.unfinished entries.last_begun
up_first topology d = tt

-- ---- the flits that are gathered

pending_landed : (flits : List (List ℕ)) (flit : List ℕ) (outcome : Outcome) → IsFlit flit → ((k : ℕ) → IsFlit (slice_index_or flits k zero_flit)) → (k : ℕ) → IsFlit (slice_index_or (gathered_after flits (ReceiverEntry.Land flit outcome)) k zero_flit)
pending_landed flits flit outcomes.Gathered is_flit each k = each-push flits flit each is_flit k
pending_landed flits flit outcomes.Quiet is_flit each k = zero_is_flit
pending_landed flits flit outcomes.Trained is_flit each k = zero_is_flit
pending_landed flits flit outcomes.Accepted is_flit each k = zero_is_flit
pending_landed flits flit outcomes.Poisoned is_flit each k = zero_is_flit
pending_landed flits flit outcomes.Repeat is_flit each k = zero_is_flit
pending_landed flits flit (outcomes.AbortedBad bad) is_flit each k = zero_is_flit
pending_landed flits flit outcomes.AbortedOrder is_flit each k = zero_is_flit
pending_landed flits flit (outcomes.Ran kind) is_flit each k = zero_is_flit

put_landed : (here : Bool) (past : List ReceiverEntry) (flit : List ℕ) (outcome : Outcome) → IsFlit flit → ((k : ℕ) → IsFlit (slice_index_or (pending past) k zero_flit)) → (k : ℕ) → IsFlit (slice_index_or (pending (put_if here (ReceiverEntry.Land flit outcome) past)) k zero_flit)
unfolding pending
put_landed true past flit outcome is_flit each k = pending_landed (pending past) flit outcome is_flit each k
put_landed false past flit outcome is_flit each k = each k

put_unlocked : (here : Bool) (past : List ReceiverEntry) → ((k : ℕ) → IsFlit (slice_index_or (pending past) k zero_flit)) → (k : ℕ) → IsFlit (slice_index_or (pending (put_if here ReceiverEntry.Unlock past)) k zero_flit)
unfolding pending
put_unlocked true past each k = zero_is_flit
put_unlocked false past each k = each k

pub pending_step : (topology : Topology) (entry : Entry) (past : List Entry) → Brings topology past entry → ArePending topology past → ArePending topology (entry ∷ past)
unfolding receiver_of
pending_step topology (Landed direction flit outcome) past brings each e k = put_landed (direction == e) (receiver_of e past) flit outcome brings (each e) k
pending_step topology (Unlocked direction) past brings each e k = put_unlocked (direction == e) (receiver_of e past) (each e) k
pending_step topology _ past brings each e k = each e k

pub pending_first : (topology : Topology) → ArePending topology []
unfolding receiver_of pending
pending_first topology e k = zero_is_flit
