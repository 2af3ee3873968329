-- A place that has its packet keeps it.
use Rattle.std.proofs.Common.{◌≡◌, ◌∙◌, ℕ, zero, suc, List, [], ◌∷◌, ◌++◌, Option, Some, None, refl, ap}
use Rattle.std.specs.Prelude.{slice_get}
use Rattle.hmc_codes.specs.declared.profile.Profile.{Profile}
use Rattle.hmc_packet.specs.declared.what.What.TheVariants as what
use Rattle.hmc_packet.specs.Packet.{PacketFields}
use Rattle.hmc_tokens.specs.Account.{code_for}
use Rattle.hmc_send.specs.Copies.{place_fed}
use Rattle.hmc_send.specs.Entries.{SenderEntry, Given, Part, or_null, places_with, unfinished, places}
use Rattle.hmc_send.specs.Places.{Place, pointer_of, number_of, numbers_after, next_packet, tret_packet, with_last}

pub stays-push : (l : List Place) (x y : Place) (n : ℕ) → slice_get l n ≡ Some y → slice_get (l ++ x ∷ []) n ≡ Some y
stays-push [] x y n is = absurd cc
stays-push (z ∷ l) x y zero is = is
stays-push (z ∷ l) x y (suc n) is = stays-push l x y n is

stays-last : (f : Place → Place) (l : List Place) (p : PacketFields) (n : ℕ) → f (Place.known p) ≡ Place.known p → slice_get l n ≡ Some (Place.known p) → slice_get (with_last f l) n ≡ Some (Place.known p)
stays-last f [] p n same is = absurd cc
stays-last f (x ∷ []) p zero same is =
    let e : x ≡ Place.known p = cc in
    ap (λ (y : Place). Some y) (ap f e ∙ same)
stays-last f (x ∷ []) p (suc n) same is = absurd cc
stays-last f (x ∷ y ∷ l) p zero same is = is
stays-last f (x ∷ y ∷ l) p (suc n) same is = stays-last f (y ∷ l) p n same is

stays-new : (q : Profile) (u : Option Part) (given : Given) (l : List Place) (p : PacketFields) (n : ℕ) → slice_get l n ≡ Some (Place.known p) → slice_get (places_with q u given l) n ≡ Some (Place.known p)
stays-new q None given l p n is = stays-push l (Place.known (next_packet q (pointer_of q l) (number_of l) (code_for given.due) (or_null given.front))) (Place.known p) n is
stays-new q (Some part) given l p n is = stays-last (place_fed q part.sent given.feed) l p n refl is

pub place-stays : (q : Profile) (past : List SenderEntry) (entry : SenderEntry) (n : ℕ) (p : PacketFields) → slice_get (places q past) n ≡ Some (Place.known p) → slice_get (places q (entry ∷ past)) n ≡ Some (Place.known p)
unfolding places
place-stays q past (SenderEntry.sent given what.New flit) n p is = stays-new q (unfinished past) given (places q past) p n is
place-stays q past (SenderEntry.sent given what.Tret flit) n p is =
    let l = places q past in
    stays-push l (Place.known (next_packet q (pointer_of q l) (number_of l) (code_for given.due) tret_packet)) (Place.known p) n is
place-stays q past (SenderEntry.sent given what.Train flit) n p is = is
place-stays q past (SenderEntry.sent given what.Clear flit) n p is = is
place-stays q past (SenderEntry.sent given what.Start flit) n p is = is
place-stays q past (SenderEntry.sent given what.Null flit) n p is = is
place-stays q past (SenderEntry.sent given what.Pret flit) n p is = is
place-stays q past (SenderEntry.sent given what.Again flit) n p is = is
place-stays q past SenderEntry.ran n p is = is
place-stays q past (SenderEntry.acknowledged packets) n p is = is
place-stays q past (SenderEntry.through head flits due) n p is =
    let l = places q past in
    stays-push l (Place.awaited head flits (numbers_after q (pointer_of q l) (number_of l) flits (code_for due))) (Place.known p) n is
