-- A whole round of a journal is a round by numbers.
use Rattle.std.proofs.Common.{◌≡◌, ◌≤◌, ◌+◌, ◌∙◌, ℕ, Bool, false, List, [], ◌∷◌, ◌++◌, length, map, refl, sym, ap, ap₂, subst, arith, length-append}
use Rattle.hmc_codes.specs.Flit.{zero_flit}
use Rattle.hmc_packet.specs.Packet.{PacketFields, flits_of}
use Rattle.hmc_schedule.specs.declared.step.Step.{Step}
use Rattle.hmc_schedule.specs.declared.step.Step.TheVariants.{Give, Send, Land}
use Rattle.hmc_send.specs.LinkEntries.{LinkEntry}
use Rattle.hmc_link_state.specs.Round.{link_round, IsIdle, CubeRound, IsRound}
use Rattle.hmc_link_state.specs.State.{Side, State}
use Rattle.hmc_link_state.specs.Steps.{Doing, Link}
use Rattle.hmc_entries.specs.declared.entry.Entry.{Entry}
use Rattle.hmc_journal.specs.Hosts.{given_count}
use Rattle.hmc_journal.specs.Lawful.{Lawful}
use Rattle.hmc_journal.specs.Links.{sizes_on}
use Rattle.hmc_journal.specs.Next.{next}
use Rattle.hmc_journal.specs.Queues.{QueueId, contents}
use Rattle.hmc_journal.specs.Queues.QueueId.{Output, Port, Host, Vault, Bank, Registers, Answers}
use Rattle.hmc_journal.specs.Setup.{Setup, Topology}
use Rattle.hmc_journal.specs.StepView.{view_of}
use Rattle.hmc_laws.proofs.Wired.{wired}
use Rattle.hmc_rounds.specs.Counted.{counted, moved_over}
use Rattle.hmc_rounds.specs.LinkPart.{LinkRounds, link_of, sizes_by}
use Rattle.hmc_rounds.specs.CubeQueues.{vaults_in, banks_in, queues_of_vaults, queues_of_units, queues_of_answers}
use Rattle.hmc_rounds.specs.Rounds.{plan_of, journal_after, link_steps, cube_steps}
use Rattle.hmc_journal.specs.UnderWay.{count_in}
use Rattle.hmc_rounds.proofs.CubeRounds.{cube_made, all_cube}
use Rattle.hmc_rounds.proofs.EntryMoves.{Scene, port_buffer, host_buffer, back_queue, as_long}
use Rattle.hmc_rounds.proofs.Every.{Every, every_of, every_flat_of, every_both}
use Rattle.hmc_rounds.proofs.Idle.{IsCubeStep, IsInner, Agree, idle_alike}
use Rattle.hmc_rounds.proofs.Journals.{IsFine, fine_earlier, ready_after, given_more, given_later, give_idle}
use Rattle.hmc_rounds.proofs.LinkKeeps.{IsCubeRoom, LinkKept, link_kept_on, link_step_keeps}
use Rattle.hmc_rounds.proofs.Sides.{numbers_of}
use Rattle.hmc_rounds.proofs.Tried.{Ready, Same, IsIdleAt, next_ready, idle_same}

-- what the link's steps leave
link_keeps : (setup : Setup) (doings : List LinkEntry → List Doing) (sc : Scene setup doings)
    (past : List Entry) → IsFine setup (journal_after setup past link_steps) →
    LinkKept setup past (journal_after setup past link_steps)
unfolding journal_after
link_keeps setup doings sc past fine =
    let one = next setup past (Send 0) ∷ past in
    let two = next setup one (Send 1) ∷ one in
    let three = next setup two (Land 0 zero_flit) ∷ two in
    let four = next setup three (Land 1 zero_flit) ∷ three in
    let f3 = fine_earlier setup three (Land 1 zero_flit ∷ []) fine in
    let f2 = fine_earlier setup two (Land 0 zero_flit ∷ []) f3 in
    let f1 = fine_earlier setup one (Send 1 ∷ []) f2 in
    link_kept_on setup past one four
    (link_step_keeps setup past (Send 0) sc.network tt f1.lawful f1.unpassed)
    (link_kept_on setup one two four
    (link_step_keeps setup one (Send 1) sc.network tt f2.lawful f2.unpassed)
    (link_kept_on setup two three four
    (link_step_keeps setup two (Land 0 zero_flit) sc.network tt f3.lawful f3.unpassed)
    (link_step_keeps setup three (Land 1 zero_flit) sc.network tt fine.lawful fine.unpassed)))

-- the cube's queues hold as many
held_alike : (setup : Setup) (past now : List Entry) → LinkKept setup past now →
    (rooms : List QueueId) → Every IsCubeRoom rooms →
    count_in setup.topology now rooms ≡ count_in setup.topology past rooms
held_alike setup past now kept [] all = refl
held_alike setup past now kept (q ∷ rooms) all =
    by_append _ _ _ _ (kept.rooms q all.0) (held_alike setup past now kept rooms all.1)
  where
    by_append : (xs ys more others : List PacketFields) → xs ≡ ys → length more ≡ length others →
        length (xs ++ more) ≡ length (ys ++ others)
    by_append xs ys more others e l =
        length-append xs more ∙ ap₂ (λ (m n : ℕ). m + n) (ap length e) l
        ∙ sym (length-append ys others)

vaults_cube : (t : Topology) → Every IsCubeRoom (queues_of_vaults t)
vaults_cube t = every_of IsCubeRoom (Vault 0) 0 (vaults_in t) (λ i h. tt)

units_cube : (t : Topology) → Every IsCubeRoom (queues_of_units t)
units_cube t = (
  tt,
  every_flat_of IsCubeRoom _ 0 (vaults_in t)
      (λ i h. every_of IsCubeRoom (Bank 0 i) 0 (banks_in t) (λ k l. tt)),
)

answers_cube : (t : Topology) → Every IsCubeRoom (queues_of_answers t)
answers_cube t = (tt, every_of IsCubeRoom _ 0 (vaults_in t) (λ i h. tt))

abbrev state_by : (f b : Side) (v u a : ℕ) → Bool → State
state_by f b v u a m =
    record { forth = f; back = b; vaults = v; banks = u; answers = a; can_move = m }

state_same : (f f' b b' : Side) (v v' u u' a a' : ℕ) (m : Bool) → f ≡ f' → b ≡ b' → v ≡ v' →
    u ≡ u' → a ≡ a' → state_by f b v u a m ≡ state_by f' b' v' u' a' m
state_same f f' b b' v v' u u' a a' m p q r s t =
    ap (λ x. state_by x b v u a m) p ∙ ap (λ x. state_by f' x v u a m) q
    ∙ ap (λ x. state_by f' b' x u a m) r ∙ ap (λ x. state_by f' b' v' x a m) s
    ∙ ap (λ x. state_by f' b' v' u' x m) t

-- the journal after the give and the link's steps of a round
abbrev pub pre : Setup → List Entry → List Entry
pre setup past = journal_after setup (next setup past (Give 0) ∷ past) link_steps

abbrev pub post : Setup → List Entry → List Entry
post setup past = journal_after setup (pre setup past) (cube_steps (plan_of setup.topology))

-- what a round starts from, and is
pub record RoundFits (setup : Setup) (past : List Entry) (rest : List Step) : Type 0 where
  pub ready : Ready setup past (Give 0 ∷ link_steps ++ cube_steps (plan_of setup.topology)) rest
  pub fine : IsFine setup (post setup past)
  pub given : given_count 0 (post setup past) ≡ given_count 0 past

abbrev pub IdleFrom : Setup → List Entry → Bool → Type 0
IdleFrom setup past flag =
    flag ≡ false → Every (IsIdleAt setup past) (cube_steps (plan_of setup.topology))

abbrev pub flag_after : Setup → List Entry → Bool
flag_after setup past = moved_over setup (pre setup past) (cube_steps (plan_of setup.topology))

pub record RoundMade (setup : Setup) (doings : List LinkEntry → List Doing) (past : List Entry)
    (flag : Bool) : Type 0 where
  pub round : IsRound (sizes_by (sizes_on setup.topology 0))
      (counted setup.topology doings past flag)
      (counted setup.topology doings (post setup past) (flag_after setup past))
  pub resting : IdleFrom setup (post setup past) (flag_after setup past)

same_lengths : (xs ys : List ℕ) (ps qs : List PacketFields) → xs ≡ map flits_of ps →
    ys ≡ map flits_of qs → xs ≡ ys → length ps ≡ length qs
same_lengths xs ys ps qs x y e = sym (as_long xs ps x) ∙ ap length e ∙ as_long ys qs y

agree : (setup : Setup) (doings : List LinkEntry → List Doing) (sc : Scene setup doings)
    (past mid now : List Entry) → Lawful setup past → Lawful setup now → Same setup past mid →
    LinkKept setup mid now
    → (link_of setup.topology doings now).back.queue ≡ (link_of setup.topology doings
    past).back.queue →
    (link_of setup.topology doings now).forth.buffer ≡ (link_of setup.topology doings
    past).forth.buffer
    → (link_of setup.topology doings now).back.buffer ≡ (link_of setup.topology doings
    past).back.buffer → Agree sc.joined.back sc.joined.port (view_of setup now) (view_of setup past)
unfolding view_of
agree setup doings sc past mid now before lawful same kept q f h = by_queue
  where
    long : (room : QueueId) →
        length (contents setup.topology now room) ≡ length (contents setup.topology past room) →
        length (contents setup.topology now room) ≡ length (contents setup.topology mid room)
    long room e = e ∙ sym (ap length (same.queues room))

    by_queue : (queue : QueueId) → IsInner sc.joined.back sc.joined.port queue →
        contents setup.topology now queue ≡ contents setup.topology past queue
    by_queue (Output d) inner =
        let back = sc.joined.back in
        let e =
        same_lengths _ _ _ _ (back_queue setup doings sc now lawful)
        (back_queue setup doings sc past before) q in
        subst (λ n. contents setup.topology now (Output n) ≡ contents setup.topology past
        (Output n)) (sym inner) ((kept.outputs back).1 (long (Output back) e)
        ∙ same.queues (Output back))
    by_queue (Port c p) inner =
        let room : Port c p ≡ Port 0 sc.joined.port = ap₂ Port inner.0 inner.1 in
        let e =
        same_lengths _ _ _ _ (port_buffer setup doings sc now lawful)
        (port_buffer setup doings sc past before) f in
        subst (λ r. contents setup.topology now r ≡ contents setup.topology past r) (sym room)
        ((kept.buffers (Port 0 sc.joined.port) tt).1 (long (Port 0 sc.joined.port) e)
        ∙ same.queues (Port 0 sc.joined.port))
    by_queue (Host host) inner =
        let e =
        same_lengths _ _ _ _ (host_buffer setup doings sc now lawful)
        (host_buffer setup doings sc past before) h in
        subst (λ n. contents setup.topology now (Host n) ≡ contents setup.topology past (Host n))
        (sym inner) ((kept.buffers (Host 0) tt).1 (long (Host 0) e) ∙ same.queues (Host 0))
    by_queue (Vault c v) inner = kept.rooms (Vault c v) tt ∙ same.queues (Vault c v)
    by_queue (Bank c v b) inner = kept.rooms (Bank c v b) tt ∙ same.queues (Bank c v b)
    by_queue (Registers c) inner = kept.rooms (Registers c) tt ∙ same.queues (Registers c)
    by_queue (Answers c from) inner = kept.rooms (Answers c from) tt ∙ same.queues (Answers c from)

held_self : (setup : Setup) (past now : List Entry) → Same setup past now → (rooms : List QueueId) →
    count_in setup.topology now rooms ≡ count_in setup.topology past rooms
held_self setup past now same [] = refl
held_self setup past now same (q ∷ rooms) =
    by_append _ _ _ _ (same.queues q) (held_self setup past now same rooms)
  where
    by_append : (xs ys more others : List PacketFields) → xs ≡ ys → length more ≡ length others →
        length (xs ++ more) ≡ length (ys ++ others)
    by_append xs ys more others e l =
        length-append xs more ∙ ap₂ (λ (m n : ℕ). m + n) (ap length e) l
        ∙ sym (length-append ys others)

idle_there : (setup : Setup) (doings : List LinkEntry → List Doing) (sc : Scene setup doings)
    (past now : List Entry) →
    Agree sc.joined.back sc.joined.port (view_of setup now) (view_of setup past)
    → Every (IsIdleAt setup past) (cube_steps (plan_of setup.topology)) →
    Every (IsIdleAt setup now) (cube_steps (plan_of setup.topology))
unfolding next
idle_there setup doings sc past now alike all =
    every_both (IsCubeStep setup.topology sc.joined) (IsIdleAt setup past) (IsIdleAt setup now)
    (λ step cube is. idle_alike setup.topology sc.joined (wired setup sc.network)
    (view_of setup now) (view_of setup past) alike step cube ∙ is)
    (cube_steps (plan_of setup.topology)) (all_cube setup.topology sc.joined) all

between : (a b c d : ℕ) → a ≤ b → b ≤ c → c ≤ d → d ≡ a → b ≡ a
between a b c d x y z e = omega arith

pub round_made : (setup : Setup) (doings : List LinkEntry → List Doing) (sc : Scene setup doings) →
    LinkRounds setup doings → (past : List Entry) (rest : List Step) (flag : Bool) →
    RoundFits setup past rest → IdleFrom setup past flag → RoundMade setup doings past flag
round_made setup doings sc links past rest flag fits idle_from =
    let t = setup.topology in
    let C = cube_steps (plan_of t) in
    let mid : List Entry = next setup past (Give 0) ∷ past in
    let now : List Entry = pre setup past in
    let fine_now : IsFine setup now = fine_earlier setup now C fits.fine in
    let fine_mid : IsFine setup mid = fine_earlier setup mid link_steps fine_now in
    let given : given_count 0 mid ≡ given_count 0 past =
    between (given_count 0 past) (given_count 0 mid) (given_count 0 now)
    (given_count 0 (post setup past)) (given_more 0 (next setup past (Give 0)) past)
    (given_later setup 0 mid link_steps) (given_later setup 0 now C) fits.given in
    let same : Same setup past mid =
    idle_same setup past (next setup past (Give 0)) (give_idle setup past given) in
    let kept : LinkKept setup mid now = link_keeps setup doings sc mid fine_now in
    let ready_mid : Ready setup mid (link_steps ++ C) rest =
    next_ready setup past (Give 0) (link_steps ++ C) rest fits.ready fine_mid.unpassed in
    let ready_link : Ready setup mid link_steps (C ++ rest) =
    record {
      lawful = ready_mid.lawful;
      unpassed = ready_mid.unpassed;
      scheduled = ready_mid.scheduled;
    } in
    let after_link : Ready setup now [] (C ++ rest) =
    ready_after setup mid link_steps (C ++ rest) ready_link fine_now in
    let ready_now : Ready setup now C rest =
    record {
      lawful = after_link.lawful;
      unpassed = after_link.unpassed;
      scheduled = after_link.scheduled;
    } in
    let s : State = counted t doings past flag in
    let numbers : link_of t doings mid ≡ link_of t doings past =
    ap (λ (es : List LinkEntry). numbers_of (sizes_on t 0) doings es) same.links in
    let made =
    links.round mid (C ++ rest) s fine_mid.lawful ready_link.scheduled fine_now.lawful
    fine_now.unpassed (sym (ap (λ (l : Link). l.forth) numbers))
    (sym (ap (λ (l : Link). l.back) numbers)) in
    let rooms =
    λ (qs : List QueueId) (all : Every IsCubeRoom qs). sym (held_alike setup mid now kept qs all
    ∙ held_self setup past mid same qs) in
    let state_is : link_round (sizes_by (sizes_on t 0)) made.0 made.1 s ≡ counted t doings now
    flag =
    state_same _ _ _ _ _ _ _ _ _ _ flag made.4 made.5 (rooms (queues_of_vaults t) (vaults_cube t))
    (rooms (queues_of_units t) (units_cube t)) (rooms (queues_of_answers t) (answers_cube t)) in
    let cube = cube_made setup doings sc now rest ready_now in
    let next_state = counted t doings (post setup past) (flag_after setup past) in record {
      round = (
        made.0,
        made.1,
        made.2,
        made.3,
        subst (λ x. CubeRound x next_state) (sym state_is) (cube.round flag),
        λ off q f h.
            subst (λ x. IsIdle x next_state) (sym state_is)
            (cube.idle
            (idle_there setup doings sc past now
            (agree setup doings sc past mid now fits.ready.lawful fine_now.lawful same kept
            (sym (ap (λ (x : Side). x.queue) made.5) ∙ q) (sym (ap (λ (x : Side). x.buffer) made.4)
            ∙ f) (sym (ap (λ (x : Side). x.buffer) made.5) ∙ h)) (idle_from off)) flag),
      );
      resting = cube.resting;
    }
