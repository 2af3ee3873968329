-- What the flits of a direction were sent as, and what the numbers of the direction (hmc_numbers)
-- say of its line and of its receiver.
use Rattle.std.specs.Prelude.{◌≡◌, ℕ, Bool, true, false, List, [], ◌∷◌, length, drop}
use Rattle.hmc_packet.specs.declared.kind.Kind.{Kind}
use Rattle.hmc_packet.specs.declared.kind.Kind.TheVariants as kinds
use Rattle.hmc_packet.specs.declared.view.Mode.{Mode}
use Rattle.hmc_packet.specs.declared.view.Mode.TheVariants.{Train, Abort, Good}
use Rattle.hmc_packet.specs.declared.what.What.{What}
use Rattle.hmc_packet.specs.declared.what.What.TheVariants as what
use Rattle.hmc_packet.specs.Landings.{mode, pending}
use Rattle.hmc_codes.specs.Link.{LinkFields}
use Rattle.hmc_numbers.specs.Direction.{Item, Reached}
use Rattle.hmc_numbers.specs.Direction.{Filler as fillers}
use Rattle.hmc_numbers.specs.Direction.Item.{filler, clear, part}
use Rattle.hmc_numbers.specs.Direction.Reached.{training, aborting, between, inside, spoilt}
use Rattle.hmc_numbers.specs.Pair.{Half}
use Rattle.hmc_send.specs.LinkEntries.{LinkEntry, same_way, push_if, receiver_entries}
use Rattle.hmc_send.specs.LinkLines.{landings, is_pending_changed}
use Rattle.hmc_send.specs.declared.toward.Toward.{Toward}

-- what each flit of a direction was sent as, in order
unfoldable pub sent_as : Toward → List LinkEntry → List What
sent_as d [] = []
sent_as d (LinkEntry.sent way feed as_what flit ∷ past) =
    push_if (same_way d way) as_what (sent_as d past)
sent_as d (_ ∷ past) = sent_as d past

-- what the flits were sent as that are on the line
abbrev pub line_as : Toward → List LinkEntry → List What
line_as d past = drop (landings d past) (sent_as d past)

-- what an IRTRY of a kind is sent as
abbrev pub irtry_as : Kind → What
irtry_as kinds.Start = what.Start
irtry_as kinds.Clear = what.Clear

-- an item of the numbers is a flit that was sent as this
abbrev pub IsItem : Item → What → Type 0
IsItem (filler fillers.null) what.Null = Unit {0}
IsItem (filler fillers.train) what.Train = Unit {0}
IsItem (filler fillers.pret) what.Pret = Unit {0}
IsItem (filler fillers.start) what.Start = Unit {0}
IsItem clear what.Clear = Unit {0}
IsItem (part n k more) what.New = Unit {0}
IsItem (part n k more) what.Tret = Unit {0}
IsItem (part n k more) what.Again = Unit {0}
IsItem item as_what = ⊥

-- each one is, in order
abbrev pub AreItems : List Item → List What → Type 0
AreItems [] [] = Unit {0}
AreItems (item ∷ items) (as_what ∷ next) = IsItem item as_what × AreItems items next
AreItems items next = ⊥

-- what a receiver has reached: its mode, the flits that it has gathered, and whether one of them is
-- changed
abbrev pub IsReached : Reached → Mode → List (List ℕ) → (changed : Bool) → Type 0
IsReached training mode flits changed = (mode ≡ Train) × (flits ≡ []) × (changed ≡ false)
IsReached aborting mode flits changed = (mode ≡ Abort) × (flits ≡ []) × (changed ≡ false)
IsReached between mode flits changed = (mode ≡ Good) × (flits ≡ []) × (changed ≡ false)
IsReached (inside n k) mode flits changed = (mode ≡ Good) × (length flits ≡ k) × (changed ≡ false)
IsReached spoilt mode flits changed = (mode ≡ Good) × (changed ≡ true)

-- The line and the receiver of a direction by numbers are those of the list.
pub record LineIs (link : LinkFields) (d : Toward) (past : List LinkEntry) (half : Half) : Type 0
  where
    pub items : AreItems half.direction.line (line_as d past)
    pub far : IsReached half.direction.far (mode (receiver_entries d past))
        (pending (receiver_entries d past)) (is_pending_changed d past)
