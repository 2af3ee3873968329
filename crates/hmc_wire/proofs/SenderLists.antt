-- Laws of the lists of a sender whose sends are the choice. Used by Senders and Choices.
use Rattle.std.proofs.Common.{◌≡◌, ◌≢◌, ◌∙◌, ◌<◌, ◌≤◌, ℕ, suc, max, Bool, true, false, List, [], ◌∷◌, length, Option, Some, None, refl, sym, ap, arith}
use Rattle.std.specs.Prelude.{not, is_none, if◌then◌else◌}
use Rattle.std.proofs.lemmas.Option.{slice_get_within}
use Rattle.hmc_codes.proofs.General.{back-within}
use Rattle.hmc_codes.specs.declared.profile.Profile.{Profile}
use Rattle.hmc_packet.specs.declared.kind.Kind.{Kind}
use Rattle.hmc_packet.specs.declared.kind.Kind.TheVariants as kinds
use Rattle.hmc_packet.specs.declared.view.Mode.{Mode}
use Rattle.hmc_packet.specs.declared.what.What.{What}
use Rattle.hmc_packet.specs.declared.what.What.TheVariants.{Train, Clear, Start, Pret, Tret, New, Again}
use Rattle.hmc_packet.specs.declared.what.What.TheVariants.{Null as NullFlit}
use Rattle.hmc_packet.specs.Head.{head_in}
use Rattle.hmc_send.specs.declared.sent.Sent.{Sent}
use Rattle.hmc_send.specs.declared.sent.Sent.TheVariants.{Out}
use Rattle.hmc_send.specs.Choice.{SendView, view_after, choice, part_what, what_of, burst_of, irtry_due}
use Rattle.hmc_send.specs.Copies.{place_fed}
use Rattle.hmc_send.specs.Entries.{Given, Part, SenderEntry, with_place, places_with, or_null, unfinished, places, acked, clears, starts, are_bursts, last_begun, position}
use Rattle.hmc_send.specs.Entries.SenderEntry.{sent, ran, acknowledged, through}
use Rattle.hmc_send.specs.LinkCalls.{names_flits}
use Rattle.hmc_send.specs.Places.{Place, pointer_of, number_of, numbers_after, next_packet, tret_packet, place_at}
use Rattle.hmc_send.proofs.Cases.{Case, IsBetween, case_of}
use Rattle.hmc_send.proofs.Cases.Case.{trains, goes_on, starves, steers, repeats, begins, returns, points, idles}
use Rattle.hmc_send.proofs.Lists.{length-push, length-last}
use Rattle.hmc_tokens.specs.Account.{code_for}

-- each flit is the choice after the entries before it; a cut-through begins where nothing
-- is under way, and its first flit names its length
unfoldable pub Chosen : Profile → (retry : ℕ) → List SenderEntry → Type 0
Chosen q retry [] = Unit {0}
Chosen q retry (sent given what flit ∷ past) = (choice q (view_after q retry past given) ≡ Out flit what) × Chosen q retry past
Chosen q retry (ran ∷ past) = Chosen q retry past
Chosen q retry (acknowledged packets ∷ past) = (acked past ≤ packets) × (packets ≤ length (places q past)) × Chosen q retry past
Chosen q retry (through head flits due ∷ past) = (unfinished past ≡ None) × (are_bursts (clears past) ≡ true) × (are_bursts (starts past) ≡ true) × Chosen q retry past × (names_flits flits (head_in head) ≡ true)

-- what carries a flit of a sequenced packet
abbrev pub carries : What → Bool
carries New = true
carries Tret = true
carries Again = true
carries _ = false

pub what_is : (f g : List ℕ) (v w : What) → Out f v ≡ Out g w → v ≡ w
what_is f g v w is = cc

-- a flit of a packet under way is one of a sequenced packet
pub carries-part : (part : Part) → carries (part_what part) ≡ true
carries-part part = by_again part.again
  where
    by_again : (b : Bool) → carries (if b then Again else New) ≡ true
    by_again true = refl
    by_again false = refl

-- an IRTRY is none
pub carries-irtry : (kind : Kind) → carries (what_of kind) ≡ false
carries-irtry kinds.Clear = refl
carries-irtry kinds.Start = refl

pub irtry_other : (kind : Kind) (w : What) → what_of kind ≡ w → carries w ≡ true → ⊥
irtry_other kind w is carry = let clash : false ≡ true = sym (carries-irtry kind) ∙ ap carries is ∙ carry in cc

-- a packet is under way in a view where one is in the list
pub none-under : (place : Place) (u : Option Part) → with_place place u ≡ None → u ≡ None
none-under place None is = refl
none-under place (Some part) is = absurd cc

-- what was sent where it carries nothing, but for training: nothing was under way
calm-by : (q : Profile) (s : SendView) (x : Sent) → Case q s x → (flit : List ℕ) (what : What) → x ≡ Out flit what → carries what ≡ false → what ≢ Train → s.under_way ≡ None
calm-by q s x (trains t) flit what is none other = absurd (other (sym (what_is _ flit Train what is)))
calm-by q s x (goes_on t begun some f next) flit what is none other =
    let clash : true ≡ false = sym (carries-part begun.part) ∙ ap carries (what_is f flit (part_what begun.part) what is) ∙ none in absurd cc
calm-by q s x (starves t begun some next) flit what is none other = absurd cc
calm-by q s x (steers t nothing kind due) flit what is none other = nothing
calm-by q s x (repeats b place again) flit what is none other = b.nothing
calm-by q s x (begins f can) flit what is none other = f.between.nothing
calm-by q s x (returns f opened due) flit what is none other = f.between.nothing
calm-by q s x (points f other_rrp) flit what is none other = f.between.nothing
calm-by q s x (idles f same_rrp) flit what is none other = f.between.nothing

-- a Clear is sent only where nothing is unfinished
pub clear-calm : (q : Profile) (retry : ℕ) (past : List SenderEntry) (given : Given) (flit : List ℕ) → Chosen q retry (sent given Clear flit ∷ past) → unfinished past ≡ None
unfolding Chosen view_after
clear-calm q retry past given flit chosen =
    none-under (place_at (places q past) (last_begun q past)) (unfinished past)
    (calm-by q (view_after q retry past given) (choice q (view_after q retry past given)) (case_of q (view_after q retry past given)) flit Clear chosen.0 refl (λ is. let clash : Clear ≡ Train = is in cc))

-- a flit of a packet is sent where one is under way or where nothing goes before a packet
carried-by : (q : Profile) (s : SendView) (x : Sent) → Case q s x → (flit : List ℕ) (what : What) → x ≡ Out flit what → carries what ≡ true → s.under_way ≡ None → IsBetween s
carried-by q s x (trains t) flit what is carry none = let clash : false ≡ true = ap carries (what_is _ flit Train what is) ∙ carry in absurd cc
carried-by q s x (goes_on t begun some f next) flit what is carry none = let clash : None ≡ Some begun = sym none ∙ some in absurd cc
carried-by q s x (starves t begun some next) flit what is carry none = absurd cc
carried-by q s x (steers t nothing kind due) flit what is carry none = absurd (irtry_other kind what (what_is _ flit (what_of kind) what is) carry)
carried-by q s x (repeats b place again) flit what is carry none = b
carried-by q s x (begins f can) flit what is carry none = f.between
carried-by q s x (returns f opened due) flit what is carry none = f.between
carried-by q s x (points f other_rrp) flit what is carry none = f.between
carried-by q s x (idles f same_rrp) flit what is carry none = f.between

-- where no IRTRY goes before packets, both bursts are whole and no go-back is due
pub calm-bursts : (clears starts : ℕ) (mode : Mode) (go_back may_start : Bool) → irtry_due (burst_of clears starts) mode go_back may_start ≡ None →
    (are_bursts clears ≡ true) × (are_bursts starts ≡ true)
calm-bursts clears starts mode go_back may_start is = by_tests (are_bursts clears) (are_bursts starts) is
  where
    by_tests : (a b : Bool) → irtry_due (if not a then Some kinds.Clear else if not b then Some kinds.Start else None) mode go_back may_start ≡ None → (a ≡ true) × (b ≡ true)
    by_tests true true is = (refl, refl)
    by_tests true false is = absurd cc
    by_tests false b is = absurd cc

-- of a view in which nothing goes before a packet
pub between-bursts : (q : Profile) (retry : ℕ) (past : List SenderEntry) (given : Given) → IsBetween (view_after q retry past given) →
    (are_bursts (clears past) ≡ true) × (are_bursts (starts past) ≡ true)
unfolding view_after
between-bursts q retry past given b = calm-bursts (clears past) (starts past) given.own.mode _ _ b.calm

view-between : (q : Profile) (retry : ℕ) (past : List SenderEntry) (given : Given) (flit : List ℕ) (what : What) → choice q (view_after q retry past given) ≡ Out flit what → carries what ≡ true → unfinished past ≡ None →
    (are_bursts (clears past) ≡ true) × (are_bursts (starts past) ≡ true)
unfolding view_after
view-between q retry past given flit what is carry none =
    between-bursts q retry past given
    (carried-by q (view_after q retry past given) (choice q (view_after q retry past given)) (case_of q (view_after q retry past given)) flit what is carry
    (ap (with_place (place_at (places q past) (last_begun q past))) none))

-- within a burst of Clears nothing is unfinished, and nothing was begun since it began
pub record InBurst (q : Profile) (past : List SenderEntry) : Type 0 where
  pub last : last_begun q past ≡ 0
  pub nothing : unfinished past ≡ None

no_packet : (q : Profile) (retry : ℕ) (past : List SenderEntry) (given : Given) (flit : List ℕ) (what : What) → choice q (view_after q retry past given) ≡ Out flit what → carries what ≡ true →
    are_bursts (clears past) ≡ false → InBurst q past → ⊥
no_packet q retry past given flit what is carry whole burst =
    let clash : true ≡ false = sym (view-between q retry past given flit what is carry burst.nothing).0 ∙ whole in cc

last-cleared : (b : Bool) (last : ℕ) → (b ≡ false → last ≡ 0) → (if b then 0 else last) ≡ 0
last-cleared true last before = refl
last-cleared false last before = before refl

pub in-burst : (q : Profile) (retry : ℕ) (past : List SenderEntry) → Chosen q retry past → are_bursts (clears past) ≡ false → InBurst q past
unfolding Chosen clears last_begun unfinished
in-burst q retry [] chosen whole = absurd cc
in-burst q retry (sent given Clear flit ∷ past) chosen whole = record {
  last = last-cleared (are_bursts (clears past)) (last_begun q past) (λ before. (in-burst q retry past chosen.1 before).last);
  nothing = clear-calm q retry past given flit chosen;
}
in-burst q retry (sent given New flit ∷ past) chosen whole = absurd (no_packet q retry past given flit New chosen.0 refl whole (in-burst q retry past chosen.1 whole))
in-burst q retry (sent given Tret flit ∷ past) chosen whole = absurd (no_packet q retry past given flit Tret chosen.0 refl whole (in-burst q retry past chosen.1 whole))
in-burst q retry (sent given Again flit ∷ past) chosen whole = absurd (no_packet q retry past given flit Again chosen.0 refl whole (in-burst q retry past chosen.1 whole))
in-burst q retry (sent given Train flit ∷ past) chosen whole = let before = in-burst q retry past chosen.1 whole in record { last = before.last; nothing = before.nothing }
in-burst q retry (sent given NullFlit flit ∷ past) chosen whole = let before = in-burst q retry past chosen.1 whole in record { last = before.last; nothing = before.nothing }
in-burst q retry (sent given Pret flit ∷ past) chosen whole = let before = in-burst q retry past chosen.1 whole in record { last = before.last; nothing = before.nothing }
in-burst q retry (sent given Start flit ∷ past) chosen whole = let before = in-burst q retry past chosen.1 whole in record { last = before.last; nothing = before.nothing }
in-burst q retry (ran ∷ past) chosen whole = let before = in-burst q retry past chosen whole in record { last = before.last; nothing = before.nothing }
in-burst q retry (acknowledged packets ∷ past) chosen whole = let before = in-burst q retry past chosen.2 whole in record { last = before.last; nothing = before.nothing }
in-burst q retry (through head flits due ∷ past) chosen whole = let clash : true ≡ false = sym chosen.1 ∙ whole in absurd cc

-- ---- bounds

again-by : (q : Profile) (s : SendView) (x : Sent) → Case q s x → (flit : List ℕ) → x ≡ Out flit Again → s.under_way ≡ None → (place : Place) × (s.again ≡ Some place)
again-by q s x (repeats b place again) flit is none = (place, again)
again-by q s x (goes_on t begun some f next) flit is none = let clash : None ≡ Some begun = sym none ∙ some in absurd cc
again-by q s x (trains t) flit is none = let clash : Train ≡ Again = what_is _ flit Train Again is in absurd cc
again-by q s x (starves t begun some next) flit is none = absurd cc
again-by q s x (steers t nothing kind due) flit is none = absurd (irtry_other kind Again (what_is _ flit (what_of kind) Again is) refl)
again-by q s x (begins f can) flit is none = let clash : New ≡ Again = what_is _ flit New Again is in absurd cc
again-by q s x (returns f opened due) flit is none = let clash : Tret ≡ Again = what_is _ flit Tret Again is in absurd cc
again-by q s x (points f other_rrp) flit is none = let clash : Pret ≡ Again = what_is _ flit Pret Again is in absurd cc
again-by q s x (idles f same_rrp) flit is none = let clash : NullFlit ≡ Again = what_is _ flit NullFlit Again is in absurd cc

-- a packet is sent again only where one was begun after the position
again-within : (q : Profile) (retry : ℕ) (past : List SenderEntry) (given : Given) (flit : List ℕ) → choice q (view_after q retry past given) ≡ Out flit Again → unfinished past ≡ None → position q past < length (places q past)
unfolding view_after
again-within q retry past given flit is none =
    let found = again-by q (view_after q retry past given) (choice q (view_after q retry past given)) (case_of q (view_after q retry past given)) flit is
    (ap (with_place (place_at (places q past) (last_begun q past))) none) in
    slice_get_within (places q past) (position q past) found.0 found.1

-- no number passes those begun
pub record IsWithin (q : Profile) (past : List SenderEntry) : Type 0 where
  pub acked : acked past ≤ length (places q past)
  pub last : last_begun q past ≤ length (places q past)

new-within : (q : Profile) (given : Given) (a last : ℕ) (l : List Place) (u : Option Part) → a ≤ length l → last ≤ length l →
    (a ≤ length (places_with q u given l)) × ((if is_none u then suc (length l) else last) ≤ length (places_with q u given l))
new-within q given a last l None le lt =
    let len = length-push l (Place.known (next_packet q (pointer_of q l) (number_of l) (code_for given.due) (or_null given.front))) in (omega arith, omega arith)
new-within q given a last l (Some part) le lt = let len = length-last (place_fed q part.sent given.feed) l in (omega arith, omega arith)

again-last : (a last n : ℕ) (u : Option Part) → last ≤ n → (u ≡ None → max a last < n) → (if is_none u then suc (max a last) else last) ≤ n
again-last a last n None le lt = lt refl
again-last a last n (Some part) le lt = le

pub within : (q : Profile) (retry : ℕ) (past : List SenderEntry) → Chosen q retry past → IsWithin q past
unfolding Chosen acked last_begun places
within q retry [] chosen = record { acked = omega arith; last = omega arith }
within q retry (sent given New flit ∷ past) chosen =
    let before = within q retry past chosen.1 in
    let both = new-within q given (acked past) (last_begun q past) (places q past) (unfinished past) before.acked before.last in
    record { acked = both.0; last = both.1 }
within q retry (sent given Tret flit ∷ past) chosen =
    let before = within q retry past chosen.1 in
    let le = before.acked in
    let len = length-push (places q past) (Place.known (next_packet q (pointer_of q (places q past)) (number_of (places q past)) (code_for given.due) tret_packet)) in
    record { acked = omega arith; last = omega arith }
within q retry (sent given Again flit ∷ past) chosen =
    let before = within q retry past chosen.1 in
    record { acked = before.acked; last = again-last (acked past) (last_begun q past) (length (places q past)) (unfinished past) before.last (again-within q retry past given flit chosen.0) }
within q retry (sent given Clear flit ∷ past) chosen =
    let before = within q retry past chosen.1 in
    record { acked = before.acked; last = back-within (are_bursts (clears past)) (last_begun q past) (length (places q past)) before.last }
within q retry (sent given Train flit ∷ past) chosen = let before = within q retry past chosen.1 in record { acked = before.acked; last = before.last }
within q retry (sent given NullFlit flit ∷ past) chosen = let before = within q retry past chosen.1 in record { acked = before.acked; last = before.last }
within q retry (sent given Pret flit ∷ past) chosen = let before = within q retry past chosen.1 in record { acked = before.acked; last = before.last }
within q retry (sent given Start flit ∷ past) chosen = let before = within q retry past chosen.1 in record { acked = before.acked; last = before.last }
within q retry (ran ∷ past) chosen = let before = within q retry past chosen in record { acked = before.acked; last = before.last }
within q retry (acknowledged packets ∷ past) chosen = let before = within q retry past chosen.2 in record { acked = chosen.1; last = before.last }
within q retry (through head flits due ∷ past) chosen =
    let before = within q retry past chosen.3 in
    let le = before.acked in
    let len = length-push (places q past) (Place.awaited head flits (numbers_after q (pointer_of q (places q past)) (number_of (places q past)) flits (code_for due))) in
    record { acked = omega arith; last = omega arith }
