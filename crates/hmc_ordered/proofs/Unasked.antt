-- Where no logic unit is asked, no request that arrives at a cube is for one.
use Rattle.std.proofs.Common.{◌≡◌, ◌∙◌, ◌==◌, ◌&&◌, ℕ, Bool, true, false, not, Option, Some, None, List, [], ◌∷◌, ◌++◌, refl, sym, ap, ap₂, subst, eq-eqb}
use Rattle.std.proofs.lemmas.Bool.{and_parts}
use Rattle.hmc_codes.specs.Commands.{is_posted}
use Rattle.hmc_codes.specs.Request.{RequestFields}
use Rattle.hmc_codes.specs.declared.command.Command.{Command}
use Rattle.hmc_codes.specs.declared.command.Command.TheVariants as commands
use Rattle.hmc_atomics.specs.Operations.{atomic_of}
use Rattle.hmc_packet.specs.Packet.{PacketFields}
use Rattle.hmc_packet.specs.Transactions.{request_in}
use Rattle.hmc_serial.specs.Actions.{action_of}
use Rattle.hmc_hops.specs.Flows.{HostRequest, TaggedRequest, item_if}
use Rattle.hmc_entries.specs.declared.entry.Entry.{Entry}
use Rattle.hmc_entries.specs.declared.entry.Entry.TheVariants.{Gave, Shifted}
use Rattle.hmc_entries.specs.declared.outcome.Goal.{Goal}
use Rattle.hmc_journal.specs.Answers.{tag_of}
use Rattle.hmc_journal.specs.Choice.{append_if}
use Rattle.hmc_journal.specs.Lawful.{Lawful}
use Rattle.hmc_journal.specs.Network.{IsNetwork}
use Rattle.hmc_journal.specs.Queues.{front_of, contents, QueueId as queues}
use Rattle.hmc_journal.specs.Setup.{Setup}
use Rattle.hmc_journal.proofs.EntryRule.{lawful_past}
use Rattle.hmc_apart.specs.Apart.{AsksNoUnit}
use Rattle.hmc_arrivals.specs.Arrivals.{request_with, is_inside, arrivals, chosen, of_host, given_at}
use Rattle.hmc_arrivals.proofs.Arriving.{chosen-append}
use Rattle.hmc_arrivals.proofs.Ordering.{arrives_in_order}
use Rattle.hmc_ordered.specs.Ordered.{is_for_a_unit, AsksNoUnits}
use Rattle.hmc_ordered.proofs.Simulating.{AsksNone, NoneArrives}

no_unit : (command : Command) → is_for_a_unit command ≡ false → AsksNoUnit command
unfolding action_of atomic_of
no_unit commands.Unit0 is code work = cc
no_unit commands.Unit1 is code work = cc
no_unit commands.Unit2 is code work = cc
no_unit commands.Unit3 is code work = cc
no_unit commands.Unit4 is code work = cc
no_unit commands.Unit5 is code work = cc
no_unit commands.Unit6 is code work = cc
no_unit commands.Unit7 is code work = cc
no_unit _ is code work = cc

-- none of the requests is for a logic unit
abbrev NoneAsks : List TaggedRequest → Type 0
NoneAsks [] = Unit {0}
NoneAsks (x ∷ xs) = AsksNoUnit x.request.command × NoneAsks xs

none_push : (list : List TaggedRequest) (x : TaggedRequest) (b : Bool) → (b ≡ true → AsksNoUnit x.request.command) → NoneAsks list → NoneAsks (append_if b (x ∷ []) list)
none_push list x false asks none = none
none_push [] x true asks none = (asks refl, tt)
none_push (y ∷ list) x true asks none = (none.0, none_push list x true asks none.1)

asks_last : (xs : List TaggedRequest) (x : TaggedRequest) (more : List TaggedRequest) → NoneAsks ((xs ++ x ∷ []) ++ more) → AsksNoUnit x.request.command
asks_last [] x more none = none.0
asks_last (y ∷ xs) x more none = asks_last xs x more none.1

-- none that a host gave to a cube
none_given : (h c : ℕ) (journal : List Entry) → AsksNoUnits journal → NoneAsks (given_at h c journal)
unfolding AsksNoUnits given_at
none_given h c [] uses = tt
none_given h c (Gave host tag poisoned request ∷ past) uses =
    none_push (given_at h c past) (record { tag = tag; request = request }) ((host == h) && (not poisoned && (request.cube == c)))
    (λ is.
    let parts = and_parts (not poisoned) (request.cube == c) (and_parts (host == h) (not poisoned && (request.cube == c)) is).1 in
    no_unit request.command (ap (λ (b : Bool). b && is_for_a_unit request.command) (sym parts.0) ∙ uses.0))
    (none_given h c past uses.1)
none_given h c (entry ∷ past) uses = none_given h c past uses

-- so none that arrives there
none_comes : (cube : ℕ) (p : PacketFields) (found : Option RequestFields) (b : Bool) (list : List HostRequest) (more : List TaggedRequest) → b ≡ true
    → NoneAsks (of_host p.slid (append_if ((cube == cube) && b) (request_with p found) list) ++ more) → AsksNone found
unfolding chosen
none_comes cube p None b list more is none = tt
none_comes cube p (Some r) b list more is none =
    let x : HostRequest = record { host = p.slid; tag = tag_of (is_posted r.command) p.tag; request = r } in
    let y : TaggedRequest = record { tag = tag_of (is_posted r.command) p.tag; request = r } in
    let parts : of_host p.slid (append_if ((cube == cube) && b) (x ∷ []) list) ≡ of_host p.slid list ++ y ∷ [] =
    ap₂ (λ (one other : Bool). of_host p.slid (append_if (one && other) (x ∷ []) list)) (eq-eqb cube cube refl) is
    ∙ chosen-append (λ (one : HostRequest). item_if (one.host == p.slid) (record { tag = one.tag; request = one.request })) list (x ∷ [])
    ∙ ap (λ (one : Bool). of_host p.slid list ++ (item_if one y ++ [])) (eq-eqb p.slid p.slid refl) in
    asks_last (of_host p.slid list) y more (subst NoneAsks (ap (λ l. l ++ more) parts) none)

none_shifted : (setup : Setup) (past : List Entry) (cube port : ℕ) (goal : Goal) → IsNetwork setup → Lawful setup (Shifted cube port goal ∷ past) → AsksNoUnits past → is_inside goal ≡ true
    → AsksNone (request_in (front_of (contents setup.topology past (queues.Port cube port))))
unfolding arrivals given_at
none_shifted setup past cube port goal network lawful uses in_cube =
    let p = front_of (contents setup.topology past (queues.Port cube port)) in
    let first = arrives_in_order setup (Shifted cube port goal ∷ past) p.slid cube network lawful in
    none_comes cube p (request_in p) (is_inside goal) (arrivals setup.topology cube past) first.0 in_cube
    (subst NoneAsks first.1 (none_given p.slid cube past uses))

pub none_arrives : (setup : Setup) (past : List Entry) → IsNetwork setup → Lawful setup past → AsksNoUnits past → NoneArrives setup.topology past
unfolding NoneArrives AsksNoUnits
none_arrives setup [] network lawful uses = tt
none_arrives setup (Shifted cube port goal ∷ past) network lawful uses =
    (none_shifted setup past cube port goal network lawful uses, none_arrives setup past network (lawful_past setup (Shifted cube port goal) past lawful) uses)
none_arrives setup (Gave host tag poisoned request ∷ past) network lawful uses = none_arrives setup past network (lawful_past setup (Gave host tag poisoned request) past lawful) uses.1
none_arrives setup (entry ∷ past) network lawful uses = none_arrives setup past network (lawful_past setup entry past lawful) uses
