-- The step spread.
use Rattle.std.proofs.Common.{◌≡◌, ◌<◌, ◌^◌, ◌/◌, ◌∙◌, ◌&&◌, ℕ, Bool, true, false, not, nat_le, nat_lt, Some, None, List, [], ◌∷◌, ◌++◌, length, drop, refl, sym, ap, ap₂, subst, arith}
use Rattle.std.specs.Prelude.{slice_get}
use Rattle.std.proofs.lemmas.Nat.{mod_below, pow_pos}
use Rattle.hmc_codes.specs.declared.lift.Lift.TheVariants as lifts
use Rattle.hmc_codes.specs.Shape.{ShapeFields, bank_of}
use Rattle.hmc_packet.specs.Packet.{PacketFields}
use Rattle.hmc_serial.specs.Machine.{machine_of}
use Rattle.hmc_schedule.specs.declared.step.Step.{Step}
use Rattle.hmc_schedule.specs.declared.step.Step.TheVariants as steps
use Rattle.hmc_entries.specs.declared.outcome.Cause.TheVariants as causes
use Rattle.hmc_entries.specs.declared.entry.Entry.{Entry}
use Rattle.hmc_entries.specs.declared.entry.Entry.TheVariants.{Spread, Idle}
use Rattle.hmc_journal.specs.Basics.{packet_if, front_of}
use Rattle.hmc_journal.specs.Next.{next}
use Rattle.hmc_journal.specs.Queues.{QueueId, same_queue, leaves, enters, contents, QueueId as ids}
use Rattle.hmc_journal.specs.Setup.{Topology, Setup, cube_setup, shape_of, cubes_in}
use Rattle.hmc_journal.specs.Waiting.{unless_full}
use Rattle.hmc_journal.proofs.Moves.{arrives}
use Rattle.hmc_wiring.specs.Ready.{IsVaultIn, IsStepFor}
use Rattle.hmc_kept.proofs.Fronts.{front_some, front_none}
use Rattle.hmc_journal.proofs.Packets.{front_is_first}
use Rattle.hmc_queues.specs.declared.queue_name.QueueName.{QueueName}
use Rattle.hmc_queues.specs.declared.queue_name.QueueName.TheVariants as names
use Rattle.hmc_queues.specs.Queues.{CubeQueuesFields, IsQueue, is_there, packets_at, queues_at, size_at, with_packets}
use Rattle.hmc_check.specs.Inside.{inside_of, IsOpen}
use Rattle.hmc_check.specs.Kept.{InnerKept, moved}
use Rattle.hmc_check.specs.Past.{PastFields, IsSized, Holds, IsNextStep, TakesStep, IsNextOfSome}
use Rattle.hmc_check.proofs.Chosen.{spread_next}
use Rattle.hmc_check.proofs.Holding.{takes, idle_takes, ends_stay}
use Rattle.hmc_check.proofs.QueuesLaw.{popped, pushed, at_with, fits_with, length_with}
use Rattle.hmc_wiring.proofs.Cases.{step_at}
use Rattle.hmc_check.proofs.Tests.{lt_is, below, le_not}
use Rattle.std.proofs.lemmas.Bool.{and_from}

-- ---- queues that are there

-- a step is one of a part that is there
pub step_there : (setup : Setup) (past : List Entry) (p : PastFields) (step : Step) → IsNextStep setup past p step → IsStepFor p.topology step
step_there setup past p step is =
    subst (λ (t : Topology). IsStepFor t step) (sym is.holds.topology) (step_at (IsStepFor setup.topology) setup.schedule (length past) step is.holds.steps is.step_is)

pub some_there : (p : PastFields) (step : Step) → IsNextOfSome p step → IsStepFor p.topology step
some_there p step some = step_there some.setup some.past p step some.is

pub cube_there : (p : PastFields) (cube : ℕ) → IsSized p → cube < cubes_in p.topology → cube < length p.queues
cube_there p cube sized there = omega (arith, sized.queues)

pub vault_queue : (p : PastFields) (cube vault : ℕ) → IsSized p → IsVaultIn p.topology cube vault → IsQueue p.queues cube (names.Vault vault)
vault_queue p cube vault sized there =
    let less = cube_there p cube sized there.some_cube in
    record { some_cube = less; there = lt_is vault (queues_at p.queues cube).vaults (omega (arith, there.some_vault, (sized.fits cube less).vaults)) }

pub bank_queue : (p : PastFields) (cube vault bank : ℕ) → IsSized p → IsVaultIn p.topology cube vault → bank < 2 ^ (shape_of p.topology cube).bank_bits → IsQueue p.queues cube (names.Bank vault bank)
bank_queue p cube vault bank sized there few =
    let less = cube_there p cube sized there.some_cube in
    let fit = sized.fits cube less in
    record { some_cube = less; there = and_from _ _ (lt_is vault (queues_at p.queues cube).vaults (omega (arith, there.some_vault, fit.vaults))) (lt_is bank (queues_at p.queues cube).banks (omega (arith, few, fit.banks))) }

pub is_open : (p : PastFields) (cube : ℕ) (room : QueueName) → IsSized p → IsQueue p.queues cube room → IsOpen p.queues cube room
is_open p cube room sized is = record { is = is; count = (sized.fits cube is.some_cube).count }

pub bank_small : (shape : ShapeFields) (address : ℕ) → bank_of shape address < 2 ^ shape.bank_bits
bank_small shape address = mod_below (address / shape.block / 2 ^ shape.vault_bits) (2 ^ shape.bank_bits) (pow_pos shape.bank_bits)

-- ---- which entry it is

abbrev pub kept_of : PastFields → InnerKept
kept_of p = record { inside = inside_of p.queues; state = machine_of p.cubes p.slots }

-- the size of a queue is that of its cube
size_is : (setup : Setup) (past : List Entry) (p : PastFields) (cube : ℕ) → Holds setup past p → cube < length p.queues → size_at p.queues cube ≡ (cube_setup setup.topology cube).queue
size_is setup past p cube holds less = (holds.sized.fits cube less).size ∙ ap (λ (t : Topology). (cube_setup t cube).queue) holds.topology

pub spread_none : (setup : Setup) (past : List Entry) (p : PastFields) (cube vault : ℕ) → IsNextStep setup past p (steps.Spread cube vault) → slice_get (packets_at p.queues cube (names.Vault vault)) 0 ≡ None → Idle (steps.Spread cube vault) causes.Empty ≡ next setup past (steps.Spread cube vault)
spread_none setup past p cube vault is none =
    sym (front_none (steps.Spread cube vault) (packets_at p.queues cube (names.Vault vault)) _ none) ∙ spread_next setup past (kept_of p) cube vault is.holds.inner

spread_entry : (setup : Setup) (past : List Entry) (p : PastFields) (cube vault bank : ℕ) (front : PacketFields) (room : Bool) → IsNextStep setup past p (steps.Spread cube vault) → cube < length p.queues → slice_get (packets_at p.queues cube (names.Vault vault)) 0 ≡ Some front
    → bank ≡ bank_of (shape_of p.topology cube) front.address → nat_lt (length (packets_at p.queues cube (names.Bank vault bank))) (size_at p.queues cube) ≡ room
    → unless_full (steps.Spread cube vault) (not room) (Spread cube vault bank) ≡ next setup past (steps.Spread cube vault)
spread_entry setup past p cube vault bank front room is less first bank_is has =
    let there : bank ≡ bank_of (shape_of setup.topology cube) front.address = bank_is ∙ ap (λ (t : Topology). bank_of (shape_of t cube) front.address) is.holds.topology in
    let full : not room ≡ nat_le (cube_setup setup.topology cube).queue (length (packets_at p.queues cube (names.Bank vault bank))) =
    sym (le_not (length (packets_at p.queues cube (names.Bank vault bank))) (size_at p.queues cube) room has) ∙ ap (λ (n : ℕ). nat_le n (length (packets_at p.queues cube (names.Bank vault bank)))) (size_is setup past p cube is.holds less) in
    ap (λ (t : Bool). unless_full (steps.Spread cube vault) t (Spread cube vault bank)) full
    ∙ ap (λ (b : ℕ). unless_full (steps.Spread cube vault) (nat_le (cube_setup setup.topology cube).queue (length (packets_at p.queues cube (names.Bank vault b)))) (Spread cube vault b)) there
    ∙ sym (front_some (steps.Spread cube vault) (packets_at p.queues cube (names.Vault vault)) front _ first) ∙ spread_next setup past (kept_of p) cube vault is.holds.inner

-- ---- what it leaves

-- the front of the one queue is the last of the other
abbrev pub moved_queues : (cube : ℕ) → (from to : QueueName) → PacketFields → List CubeQueuesFields → List CubeQueuesFields
moved_queues cube from to front cubes =
    let popped_queues = with_packets cube from (drop 1 (packets_at cubes cube from)) cubes in
    with_packets cube to (packets_at popped_queues cube to ++ front ∷ []) popped_queues

pub moved_fits : (p : PastFields) (cube : ℕ) (room : QueueName) (packets : List PacketFields) → IsSized p → cube < length p.queues → IsSized (record p { queues = with_packets cube room packets p.queues })
moved_fits p cube room packets sized less = record {
  queues = length_with p.queues cube room packets ∙ sized.queues;
  fits = fits_with (cube_setup p.topology) p.queues cube room packets less sized.fits;
  cubes = sized.cubes;
  hosts = sized.hosts;
  ends = sized.ends;
  piped = sized.piped;
}

sized_last : (p : PastFields) (entry : Entry) → IsSized p → IsSized (record p { last = entry })
sized_last p entry sized = record { queues = sized.queues; fits = sized.fits; cubes = sized.cubes; hosts = sized.hosts; ends = sized.ends; piped = sized.piped }

pub queue_still : (p : PastFields) (cube : ℕ) (room other : QueueName) (packets : List PacketFields) → IsSized p → IsQueue p.queues cube room → IsQueue p.queues cube other → IsQueue (with_packets cube room packets p.queues) cube other
queue_still p cube room other packets sized is has =
    let now = moved_fits p cube room packets sized is.some_cube in
    let less : cube < length (with_packets cube room packets p.queues) = omega (arith, is.some_cube, length_with p.queues cube room packets) in
    let fit = now.fits cube less in
    let old = sized.fits cube is.some_cube in
    record { some_cube = less; there = there_by (queues_at p.queues cube) (queues_at (with_packets cube room packets p.queues) cube) other (old.vaults ∙ sym fit.vaults) (old.banks ∙ sym fit.banks) has.there }
  where
    there_by : (r s : CubeQueuesFields) (x : QueueName) → r.vaults ≡ s.vaults → r.banks ≡ s.banks → is_there r x ≡ true → is_there s x ≡ true
    there_by r s (names.Vault v) vs bs is = ap (nat_lt v) (sym vs) ∙ is
    there_by r s (names.Bank v b) vs bs is = ap₂ (λ (n m : ℕ). nat_lt v n && nat_lt b m) (sym vs) (sym bs) ∙ is
    there_by r s names.Registers vs bs is = refl
    there_by r s (names.Answers (lifts.Vault v)) vs bs is = ap (nat_lt v) (sym vs) ∙ is
    there_by r s (names.Answers lifts.Registers) vs bs is = refl

spread_queues : (setup : Setup) (past : List Entry) (p : PastFields) (cube vault bank : ℕ) (front : PacketFields) (q : QueueId) → Holds setup past p → IsQueue p.queues cube (names.Vault vault) → IsQueue p.queues cube (names.Bank vault bank) → slice_get (packets_at p.queues cube (names.Vault vault)) 0 ≡ Some front
    → inside_of (moved_queues cube (names.Vault vault) (names.Bank vault bank) front p.queues) q ≡ moved (leaves past (Spread cube vault bank)) (arrives setup.topology past (Spread cube vault bank)) (inside_of p.queues) q
unfolding leaves enters
spread_queues setup past p cube vault bank front q holds from to first =
    let one = with_packets cube (names.Vault vault) (drop 1 (packets_at p.queues cube (names.Vault vault))) p.queues in
    let sized = moved_fits p cube (names.Vault vault) (drop 1 (packets_at p.queues cube (names.Vault vault))) holds.sized from.some_cube in
    let still = queue_still p cube (names.Vault vault) (names.Bank vault bank) (drop 1 (packets_at p.queues cube (names.Vault vault))) holds.sized from to in
    let front_is : front ≡ front_of (contents setup.topology past (ids.Vault cube vault)) = sym (front_is_first (packets_at p.queues cube (names.Vault vault)) front first) ∙ ap front_of (holds.inner.queues (ids.Vault cube vault) tt) in
    pushed one cube (names.Bank vault bank) front q (is_open (record p { queues = one }) cube (names.Bank vault bank) sized still)
    ∙ ap₂ (λ (l : List PacketFields) (x : PacketFields). l ++ packet_if (same_queue (ids.Bank cube vault bank) q) (λ n. x)) (popped p.queues cube (names.Vault vault) q (is_open p cube (names.Vault vault) holds.sized from)) front_is

pub spread_takes : (old new : PastFields) (cube vault bank : ℕ) (front : PacketFields) → IsQueue old.queues cube (names.Vault vault) → IsQueue old.queues cube (names.Bank vault bank) → slice_get (packets_at old.queues cube (names.Vault vault)) 0 ≡ Some front
    → bank ≡ bank_of (shape_of old.topology cube) front.address → nat_lt (length (packets_at old.queues cube (names.Bank vault bank))) (size_at old.queues cube) ≡ true
    → new ≡ record old { queues = moved_queues cube (names.Vault vault) (names.Bank vault bank) front old.queues; last = Spread cube vault bank } → TakesStep old new (steps.Spread cube vault)
spread_takes old new cube vault bank front from to first bank_is has now =
    let entry = Spread cube vault bank in
    let after = record old { queues = moved_queues cube (names.Vault vault) (names.Bank vault bank) front old.queues; last = entry } in
    subst (λ (p : PastFields). TakesStep old p (steps.Spread cube vault)) (sym now)
    (takes old after (steps.Spread cube vault) (λ setup past is.
    let sized = is.holds.sized in
    let one = drop 1 (packets_at old.queues cube (names.Vault vault)) in
    let first_sized = moved_fits old cube (names.Vault vault) one sized from.some_cube in
    let still = queue_still old cube (names.Vault vault) (names.Bank vault bank) one sized from to in
    let next_sized = moved_fits (record old { queues = with_packets cube (names.Vault vault) one old.queues }) cube (names.Bank vault bank) _ first_sized still.some_cube in
    record {
      entry = entry;
      last = refl;
      is_next = spread_entry setup past old cube vault bank front true is from.some_cube first bank_is has;
      after = record {
        topology = refl;
        queues = λ q inner. spread_queues setup past old cube vault bank front q is.holds from to first;
        state = refl;
        hosts = refl;
        host = tt;
        piped = refl;
        ends = λ on. ends_stay setup past old (steps.Spread cube vault) is;
        sized = sized_last _ entry next_sized;
      };
    }) refl)

pub spread_full : (old new : PastFields) (cube vault bank : ℕ) (front : PacketFields) → cube < length old.queues → slice_get (packets_at old.queues cube (names.Vault vault)) 0 ≡ Some front
    → bank ≡ bank_of (shape_of old.topology cube) front.address → nat_lt (length (packets_at old.queues cube (names.Bank vault bank))) (size_at old.queues cube) ≡ false
    → new ≡ record old { last = Idle (steps.Spread cube vault) causes.Full } → TakesStep old new (steps.Spread cube vault)
spread_full old new cube vault bank front less first bank_is has now =
    idle_takes old new (steps.Spread cube vault) (steps.Spread cube vault) causes.Full now (λ setup past is. spread_entry setup past old cube vault bank front false is less first bank_is has)

pub spread_empty : (old new : PastFields) (cube vault : ℕ) → slice_get (packets_at old.queues cube (names.Vault vault)) 0 ≡ None → new ≡ record old { last = Idle (steps.Spread cube vault) causes.Empty } → TakesStep old new (steps.Spread cube vault)
spread_empty old new cube vault none now =
    idle_takes old new (steps.Spread cube vault) (steps.Spread cube vault) causes.Empty now (λ setup past is. spread_none setup past old cube vault is none)

-- the size of a cube's queues stays
pub still_size : (p : PastFields) (cube : ℕ) (room : QueueName) (packets : List PacketFields) → IsSized p → IsQueue p.queues cube room → size_at (with_packets cube room packets p.queues) cube ≡ size_at p.queues cube
still_size p cube room packets sized is =
    let now = moved_fits p cube room packets sized is.some_cube in
    let less : cube < length (with_packets cube room packets p.queues) = omega (arith, is.some_cube, length_with p.queues cube room packets) in
    (now.fits cube less).size ∙ sym (sized.fits cube is.some_cube).size

-- a bank's queue isn't that of its vault: it has the room that it had
pub bank_room : (p : PastFields) (cube vault bank : ℕ) (packets : List PacketFields) → IsSized p → IsQueue p.queues cube (names.Vault vault) → nat_lt (length (packets_at p.queues cube (names.Bank vault bank))) (size_at p.queues cube) ≡ true
    → length (packets_at (with_packets cube (names.Vault vault) packets p.queues) cube (names.Bank vault bank)) < size_at (with_packets cube (names.Vault vault) packets p.queues) cube
bank_room p cube vault bank packets sized is has =
    let room : length (packets_at p.queues cube (names.Bank vault bank)) < size_at p.queues cube = below (length (packets_at p.queues cube (names.Bank vault bank))) (size_at p.queues cube) has in
    let still : packets_at (with_packets cube (names.Vault vault) packets p.queues) cube (names.Bank vault bank) ≡ packets_at p.queues cube (names.Bank vault bank) =
    at_with p.queues cube cube (names.Vault vault) (names.Bank vault bank) packets (is_open p cube (names.Vault vault) sized is) in
    omega (arith, room, ap length still, still_size p cube (names.Vault vault) packets sized is)
