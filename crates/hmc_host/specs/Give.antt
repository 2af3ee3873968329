-- What a host gives next, and what that leaves.
use Rattle.std.specs.Prelude.{ℕ, ◌+◌, Bool, not, ◌&&◌, if◌then◌else◌, List, drop, slice_get, Option, Some, None, is_none}
use Rattle.std.specs.Option.{unwrap_or}
use Rattle.hmc_codes.specs.Commands.{is_posted}
use Rattle.hmc_script.specs.Items.{ItemFields}
use Rattle.hmc_script.specs.declared.item.Outline.{Outline}
use Rattle.hmc_packet.specs.Transactions.{request_packet}
use Rattle.hmc_host.specs.declared.given.Given.{Given}
use Rattle.hmc_host.specs.declared.given.Given.TheVariants.{Ended, Fence, Tags, Full, Gave}
use Rattle.hmc_host.specs.declared.given.Hindrance.{Hindrance}
use Rattle.hmc_host.specs.declared.given.Hindrance.TheVariants as hindrances
use Rattle.hmc_host.specs.Tags.{is_some_out, lowest_free, with_out}
use Rattle.hmc_host.specs.Host.{HostFields}

-- a request is to be answered, and so wants a tag, unless it is posted or poisoned
abbrev pub wants_tag : ItemFields → Bool
wants_tag item = not item.poisoned && not (is_posted item.request.command)

-- the tag that a request goes out under: the lowest that isn't out, where it is to be answered
abbrev pub tag_for : ItemFields → (tags : List Bool) → Option ℕ
tag_for item tags = (if wants_tag item then lowest_free tags else None)

-- no tag is left for a request that needs one
abbrev pub lacks_tag : ItemFields → (tags : List Bool) → Bool
lacks_tag item tags = wants_tag item && is_none (lowest_free tags)

-- a host's request goes out under a tag, or under tag 0 where it has none
abbrev pub gave_request : (number : ℕ) → ItemFields → (tag : Option ℕ) → Given
gave_request number item tag =
    Gave (request_packet item.request (unwrap_or tag 0) number item.poisoned)
    item.request tag item.poisoned

-- the next request goes out, unless a fence holds it, or it lacks a tag or room
abbrev pub item_says : HostFields → ItemFields → (room : Bool) → Given
item_says host item room =
    (if item.fenced && is_some_out host.tags then Fence else
    if lacks_tag item host.tags then Tags else
    if not room then Full else
    gave_request host.number item (tag_for item host.tags))

-- the first of the requests that are left, if one is
abbrev pub next_item : HostFields → Option ItemFields
next_item host = slice_get host.left 0

-- it has given all of its requests
abbrev pub is_at_end : HostFields → Bool
is_at_end host = is_none (next_item host)

-- what a host answers whose next request this is
abbrev pub next_says : HostFields → Option ItemFields → (room : Bool) → Given
next_says host None room = Ended
next_says host (Some item) room = item_says host item room

-- what the host answers
unfoldable pub give_says : HostFields → (room : Bool) → Given
give_says host room = next_says host (next_item host) room

-- why nothing is given, if nothing is
abbrev pub hindrance_of : Given → Option Hindrance
hindrance_of Ended = Some hindrances.Ended
hindrance_of Fence = Some hindrances.Fence
hindrance_of Tags = Some hindrances.Tags
hindrance_of Full = Some hindrances.Full
hindrance_of (Gave packet request tag poisoned) = None

-- a request of this outline is to be answered
abbrev pub outline_wants_tag : Outline → Bool
outline_wants_tag outline = not outline.poisoned && not (is_posted outline.command)

-- why a request of this outline isn't given, if it isn't
abbrev pub outline_hindrance : Outline → (tags : List Bool) → (room : Bool) → Option Hindrance
outline_hindrance outline tags room =
    (if outline.fenced && is_some_out tags then Some hindrances.Fence else
    if outline_wants_tag outline && is_none (lowest_free tags) then Some hindrances.Tags else
    if not room then Some hindrances.Full else None)

-- the same of the request that is next, if one is left
abbrev pub hindrance_by : Option Outline → (tags : List Bool) → (room : Bool) → Option Hindrance
hindrance_by None tags room = Some hindrances.Ended
hindrance_by (Some outline) tags room = outline_hindrance outline tags room

-- nothing is given, for this reason
abbrev pub nothing_given : Hindrance → Given
nothing_given hindrances.Ended = Ended
nothing_given hindrances.Fence = Fence
nothing_given hindrances.Tags = Tags
nothing_given hindrances.Full = Full

-- what it leaves: one more request was given, and its tag is out; or nothing changed
abbrev pub after_give : Given → HostFields → HostFields
after_give (Gave packet request tag poisoned) host =
    record host { left = drop 1 host.left; given = host.given + 1; tags = with_out tag host.tags }
after_give _ host = host

-- the tag that was taken, if one was
abbrev pub taken_tag : Given → Option ℕ
taken_tag (Gave packet request tag poisoned) = tag
taken_tag _ = None
