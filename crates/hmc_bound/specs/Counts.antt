-- The number under way by the parts of a network: what each link and each cube holds.
use Rattle.std.specs.Prelude.{◌≡◌, ◌≤◌, ℕ, ◌+◌, ◌^◌, List, [], ◌∷◌, length, drop, filter}
use Rattle.hmc_codes.specs.Link.{LinkFields}
use Rattle.hmc_codes.specs.Numbers.{upto}
use Rattle.hmc_codes.specs.declared.lift.Lift.TheVariants as lifts
use Rattle.hmc_send.specs.declared.toward.Toward.{Toward}
use Rattle.hmc_send.specs.declared.toward.Toward.TheVariants.{Forth, Back}
use Rattle.hmc_send.specs.LinkEntries.{LinkEntry, takes, accepted_packets}
use Rattle.hmc_send.specs.LinkSenders.{places_in, queue_in}
use Rattle.hmc_send.specs.Places.{is_token, takes_tokens}
use Rattle.hmc_wire.specs.LinkLaws.{IsKept}
use Rattle.hmc_entries.specs.declared.entry.Entry.{Entry}
use Rattle.hmc_journal.specs.Lawful.{Lawful}
use Rattle.hmc_journal.specs.Links.{link_sizes, link_entries}
use Rattle.hmc_journal.specs.Network.{IsNetwork}
use Rattle.hmc_journal.specs.Queues.{QueueId, contents}
use Rattle.hmc_journal.specs.Queues.QueueId.{Vault, Bank, Registers, Answers}
use Rattle.hmc_journal.specs.Setup.{Setup, Topology, shape_of, cubes_in}
use Rattle.hmc_journal.specs.UnderWay.{under_way}

abbrev pub total : {X : Type 0} → (X → ℕ) → List X → ℕ
total f [] = 0
total f (x ∷ xs) = f x + total f xs

-- of a direction of a link: what waits, what was begun and isn't accepted (its list), and what is
-- in the buffer at its end
abbrev pub listed : LinkFields → Toward → List LinkEntry → ℕ
listed link d past =
    length (filter takes_tokens
    (drop (length (accepted_packets link.profile d past)) (places_in link d past)))
    + length (queue_in link d past)

abbrev pub buffered : LinkFields → Toward → List LinkEntry → ℕ
buffered link d past =
    length (drop (takes d past) (filter is_token (accepted_packets link.profile d past)))

abbrev pub of_way : LinkFields → Toward → List LinkEntry → ℕ
of_way link d past = listed link d past + buffered link d past

-- no more wait than the output queue has room for, and no more cross or are in the buffer than
-- there are tokens
abbrev pub IsFew : LinkFields → Toward → List LinkEntry → Type 0
IsFew link d past =
    IsKept link past → (listed link d past ≤ link.output + link.tokens)
    × (buffered link d past ≤ link.tokens)

-- of a link
abbrev pub of_link : Topology → List Entry → (link : ℕ) → ℕ
of_link topology past link =
    of_way (link_sizes topology link) Forth (link_entries topology link past)
    + of_way (link_sizes topology link) Back (link_entries topology link past)

-- of a cube, without its ports
abbrev pub long : Topology → List Entry → QueueId → ℕ
long topology past queue = length (contents topology past queue)

abbrev pub of_vault : Topology → List Entry → (cube vault : ℕ) → ℕ
of_vault topology past cube vault =
    long topology past (Vault cube vault)
    + total (λ bank. long topology past (Bank cube vault bank))
    (upto (2 ^ (shape_of topology cube).bank_bits))
    + long topology past (Answers cube (lifts.Vault vault))

abbrev pub of_cube : Topology → List Entry → (cube : ℕ) → ℕ
of_cube topology past cube =
    long topology past (Registers cube) + long topology past (Answers cube lifts.Registers)
    + total (of_vault topology past cube) (upto (2 ^ (shape_of topology cube).vault_bits))

-- the number under way is that of all links and all cubes
abbrev pub IsCounted : Setup → Type 0
IsCounted setup =
    IsNetwork setup → (past : List Entry) → Lawful setup past →
    under_way setup.topology past
    ≡ total (of_link setup.topology past) (upto (length setup.topology.links))
    + total (of_cube setup.topology past) (upto (cubes_in setup.topology))
