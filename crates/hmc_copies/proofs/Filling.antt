-- After any calls the place of a cut-through is open, or has the copy of the flits that came.
use Rattle.std.proofs.Common.{◌≡◌, ◌∙◌, ◌<◌, ◌+◌, ◌-◌, inl, inr, ℕ, zero, suc, Bool, false, List, [], ◌∷◌, ◌++◌, length, take, get_or, Some, None, refl, sym, ap, subst, arith}
use Rattle.std.specs.Prelude.{slice_get, slice_index_or}
use Rattle.std.proofs.lemmas.List.{ext_get_or, get_or-take, length-take}
use Rattle.std.proofs.lemmas.List.FromFn.{length-map-range_with_len, get_or-map-range_with_len}
use Rattle.hmc_codes.proofs.General.{mod_small}
use Rattle.hmc_packet.specs.Packet.{null_packet}
use Rattle.hmc_send.specs.Entries as entries
use Rattle.hmc_send.specs.Entries.{SenderEntry, unfinished, last_begun}
use Rattle.hmc_send.specs.Places.{Place, pointer_of}
use Rattle.hmc_send.proofs.KeptLemmas.{code-few}
use Rattle.hmc_send.proofs.Lists.{get-push}
use Rattle.hmc_through.specs.Pipe.{PipeFields, flit_at, front_flits, is_accepted}
use Rattle.hmc_wire.proofs.Filled.{heads}
use Rattle.hmc_wire.proofs.OpenPlaces.{whole_flits-none}
use Rattle.hmc_copies.specs.Calls.{Forwarding, CanBeForwarded, Call, pipe_after, sender_after, AreCalls, copy_numbers, copy_place, IsPlaceOfCopy}
use Rattle.hmc_copies.proofs.Going.{Fixed, AreFixed, open_place, Goes, Stage, stage-same, ends-stay, stage-sent}
use Rattle.hmc_copies.proofs.Pipes.{IsPipeOf, pipe-new, pipe-more, pipe-end, AreSent, sent-none, sent-more, sent-end}

abbrev fixed : Forwarding → Fixed
fixed f = record { q = f.profile; retry = f.retry; before = entries.places f.profile f.past; head = f.head; count = f.flits; n = copy_numbers f }

are-fixed : (f : Forwarding) → CanBeForwarded f → AreFixed (fixed f)
are-fixed f can = record {
  named = can.named;
  many = (heads f.flits f.head can.named).some;
  fit = record { frp = mod_small f.profile (pointer_of f.profile (entries.places f.profile f.past) + f.flits); seq = omega arith; rtc = code-few f.due };
}

-- ---- the pipe

pipe-is : (f : Forwarding) (calls : List Call) → CanBeForwarded f → AreCalls f calls → IsPipeOf (pipe_after f calls) f.head f.flits
unfolding pipe_after AreCalls
pipe-is f [] can are = pipe-new f.head f.flits f.inbound can.is_flit
pipe-is f (Call.comes flit ∷ calls) can are = pipe-more (pipe_after f calls) f.head f.flits flit are.0.is_flit (pipe-is f calls can are.1)
pipe-is f (Call.ends outcome ∷ calls) can are = pipe-end (pipe_after f calls) f.head f.flits (is_accepted outcome) (pipe-is f calls can are.1)
pipe-is f (Call.sends given w flit ∷ calls) can are = pipe-is f calls can are.1
pipe-is f (Call.counts_run ∷ calls) can are = pipe-is f calls can are.1
pipe-is f (Call.acknowledges packets ∷ calls) can are = pipe-is f calls can are.1

-- ---- a call that is no send

goes-pipe : (x : Fixed) (t : List SenderEntry) (pipe next : PipeFields) (g : Goes x t pipe) → AreSent next g.part.sent → Goes x t next
goes-pipe x t pipe next g sent = record {
  part = g.part;
  places = g.places;
  under = g.under;
  new = g.new;
  flits = g.flits;
  last = g.last;
  more = g.more;
  whole_flits = g.whole_flits;
  sent = sent;
}

came : (x : Fixed) (t : List SenderEntry) (pipe : PipeFields) (flit : List ℕ) → pipe.good ≡ None → Stage x t pipe → Stage x t (record pipe { came = pipe.came ++ flit ∷ [] })
came x t pipe flit none (inl g) = inl (goes-pipe x t pipe (record pipe { came = pipe.came ++ flit ∷ [] }) g (sent-more pipe g.part.sent flit none g.sent))
came x t pipe flit none (inr e) = absurd (let clash : None ≡ Some e.good = sym none ∙ e.ended in cc)

ended : (x : Fixed) (t : List SenderEntry) (pipe : PipeFields) (good : Bool) → pipe.good ≡ None → Stage x t pipe → Stage x t (record pipe { good = Some good })
ended x t pipe good none (inl g) = inl (goes-pipe x t pipe (record pipe { good = Some good }) g (sent-end pipe g.part.sent good g.sent))
ended x t pipe good none (inr e) = absurd (let clash : None ≡ Some e.good = sym none ∙ e.ended in cc)

ran : (x : Fixed) (t : List SenderEntry) (pipe : PipeFields) → Stage x t pipe → Stage x (SenderEntry.ran ∷ t) pipe
unfolding entries.places unfinished last_begun
ran x t pipe (inl g) = inl (stage-same x t (SenderEntry.ran ∷ t) pipe refl refl refl g)
ran x t pipe (inr e) = inr (ends-stay x t SenderEntry.ran pipe e)

acknowledged : (x : Fixed) (t : List SenderEntry) (packets : ℕ) (pipe : PipeFields) → Stage x t pipe → Stage x (SenderEntry.acknowledged packets ∷ t) pipe
unfolding entries.places unfinished last_begun
acknowledged x t packets pipe (inl g) = inl (stage-same x t (SenderEntry.acknowledged packets ∷ t) pipe refl refl refl g)
acknowledged x t packets pipe (inr e) = inr (ends-stay x t (SenderEntry.acknowledged packets) pipe e)

begun : (f : Forwarding) (pipe : PipeFields) → CanBeForwarded f → Stage (fixed f) (SenderEntry.through f.head f.flits f.due ∷ f.past) pipe
unfolding entries.places unfinished last_begun
begun f pipe can =
    let many = (heads f.flits f.head can.named).some in
    inl (record {
      part = record { again = false; flits = f.flits; sent = [] };
      places = refl;
      under = refl;
      new = refl;
      flits = refl;
      last = refl;
      more = omega arith;
      whole_flits = whole_flits-none f.flits;
      sent = sent-none pipe;
    })

-- ---- all calls

stage : (f : Forwarding) (calls : List Call) → CanBeForwarded f → AreCalls f calls → Stage (fixed f) (sender_after f calls) (pipe_after f calls)
unfolding pipe_after sender_after AreCalls
stage f [] can are = begun f (record { flits = f.flits; profile = f.inbound; came = f.head ∷ []; good = None }) can
stage f (Call.sends given w flit ∷ calls) can are =
    stage-sent (fixed f) (sender_after f calls) (pipe_after f calls) given w flit (are-fixed f can) (pipe-is f calls can are.1) are.0.chosen are.0.fed (stage f calls can are.1)
stage f (Call.counts_run ∷ calls) can are = ran (fixed f) (sender_after f calls) (pipe_after f calls) (stage f calls can are.1)
stage f (Call.acknowledges packets ∷ calls) can are = acknowledged (fixed f) (sender_after f calls) packets (pipe_after f calls) (stage f calls can are.1)
stage f (Call.comes flit ∷ calls) can are = came (fixed f) (sender_after f calls) (pipe_after f calls) flit are.0.gathers (stage f calls can are.1)
stage f (Call.ends outcome ∷ calls) can are = ended (fixed f) (sender_after f calls) (pipe_after f calls) (is_accepted outcome) are.0.gathers (stage f calls can are.1)

-- ---- its place

first-sent : (pipe : PipeFields) (sent : List (List ℕ)) → length sent < pipe.flits → AreSent pipe sent → sent ≡ take (length sent) (front_flits pipe)
first-sent pipe sent few are =
    let k = length sent in
    let count : length (front_flits pipe) ≡ pipe.flits - 1 = length-map-range_with_len (flit_at pipe) 0 (pipe.flits - 1) in
    let size = length-take k (front_flits pipe) in
    ext_get_or [] sent (take k (front_flits pipe)) (omega arith)
    (λ i lt. are.same i lt ∙ sym (get_or-take k (front_flits pipe) i [] lt ∙ get_or-map-range_with_len (flit_at pipe) 0 (pipe.flits - 1) i i [] (omega arith) (omega arith)))

get-of : (l : List Place) (n : ℕ) (p d : Place) → slice_get l n ≡ Some p → get_or l n d ≡ p
get-of [] n p d is = absurd cc
get-of (x ∷ l) zero p d is = let e : x ≡ p = cc in e
get-of (x ∷ l) (suc n) p d is = get-of l n p d is

place-of : (f : Forwarding) (t : List SenderEntry) (pipe : PipeFields) → IsPipeOf pipe f.head f.flits → Stage (fixed f) t pipe → IsPlaceOfCopy f t pipe (slice_index_or (entries.places f.profile t) (length (entries.places f.profile f.past)) (Place.known null_packet))
place-of f t pipe of (inl g) =
    let before = entries.places f.profile f.past in
    let at : slice_index_or (entries.places f.profile t) (length before) (Place.known null_packet) ≡ open_place (fixed f) = ap (λ (l : List Place). slice_index_or l (length before) (Place.known null_packet)) g.places ∙ get-push before (open_place (fixed f)) (Place.known null_packet) in
    let more = g.more in
    let size = of.flits in
    subst (IsPlaceOfCopy f t pipe) (sym at) (refl, refl, refl, record { part = g.part; under = g.under; sent = first-sent pipe g.part.sent (omega arith) g.sent })
place-of f t pipe of (inr e) =
    let at = get-of (entries.places f.profile t) (length (entries.places f.profile f.past)) (Place.known e.packet) (Place.known null_packet) e.at in
    subst (IsPlaceOfCopy f t pipe) (sym at) e.copy

pub copies-are : (f : Forwarding) (calls : List Call) → CanBeForwarded f → AreCalls f calls → IsPlaceOfCopy f (sender_after f calls) (pipe_after f calls) (copy_place f calls)
copies-are f calls can are = place-of f (sender_after f calls) (pipe_after f calls) (pipe-is f calls can are) (stage f calls can are)
