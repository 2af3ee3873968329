-- Where the payloads of requests in memory are.
use Rattle.std.proofs.Common.{◌≡◌, ◌∙◌, ◌<◌, ◌≤◌, ℕ, ◌+◌, List, [], ◌∷◌, ◌++◌, length, take, drop, get_or, slice_get, option_map, Some, refl, sym, ap, subst, arith, length-append, length-drop}
use Rattle.std.specs.List.{All}
use Rattle.std.proofs.lemmas.List.{take-append-le, drop-append-le, take_all, map-append, length-map}
use Rattle.std.proofs.lemmas.List.Elements.{All-nil, All-cons, All-head, All-tail, All-append}
use Rattle.std.proofs.lemmas.Option.{slice_get-map, slice_get-get_or, slice_get_within, get_or_from_slice_get}
use Rattle.std.proofs.Math.Seq.{drop-append_seam}
use Rattle.hmc_codes.specs.Commands.{payload_len_of}
use Rattle.hmc_codes.specs.Limits.{most_asked, most_hosts, most_requests}
use Rattle.hmc_codes.specs.Request.{RequestFields, IsRequest}
use Rattle.hmc_script.specs.declared.stored.Short.{Short}
use Rattle.hmc_script.specs.Items.{ItemFields, IsScript, AreItems}
use Rattle.hmc_script.specs.Stored.{item_of, items_in, IsInside, IsStored}

-- bytes behind a payload don't change it
take_drop-more : (bytes more : List ℕ) (start n : ℕ) → start + n ≤ length bytes → take n (drop start (bytes ++ more)) ≡ take n (drop start bytes)
take_drop-more bytes more start n inside =
    ap (take n) (drop-append-le start bytes more (omega (arith, inside))) ∙ take-append-le n (drop start bytes) more (omega (arith, inside, length-drop start bytes))

pub item_of-more : (bytes more : List ℕ) (short : Short) → IsInside bytes short → item_of (bytes ++ more) short ≡ item_of bytes short
item_of-more bytes more short inside =
    rw (take_drop-more bytes more short.start (payload_len_of short.command) inside) refl

pub items_in-more : (bytes more : List ℕ) (shorts : List Short) → All (IsInside bytes) shorts → items_in (bytes ++ more) shorts ≡ items_in bytes shorts
items_in-more bytes more [] inside = refl
items_in-more bytes more (s ∷ shorts) inside =
    rw (item_of-more bytes more s (All-head (IsInside bytes) s shorts inside), items_in-more bytes more shorts (All-tail (IsInside bytes) s shorts inside)) refl

inside-more : (bytes more : List ℕ) (shorts : List Short) → All (IsInside bytes) shorts → All (IsInside (bytes ++ more)) shorts
inside-more bytes more shorts inside k d small = omega (arith, inside k d small, length-append bytes more)

-- more bytes alone are the same requests
pub IsStored-more_bytes : (bytes more : List ℕ) (shorts : List Short) → IsStored bytes shorts → IsStored (bytes ++ more) shorts
IsStored-more_bytes bytes more shorts is = record {
  are = rw (items_in-more bytes more shorts is.inside) is.are;
  inside = inside-more bytes more shorts is.inside;
}

-- the last item is that of the bytes at the end
last_item : (bytes payload : List ℕ) (short : Short) → short.start ≡ length bytes → length payload ≡ payload_len_of short.command → take (payload_len_of short.command) (drop short.start (bytes ++ payload)) ≡ payload
last_item bytes payload short from long =
    rw (from, drop-append_seam bytes payload) (take_all (payload_len_of short.command) payload (omega (arith, long)))

-- an item more
items-more : (bytes payload : List ℕ) (shorts : List Short) (s : Short) (r : RequestFields) → All (IsInside bytes) shorts → s.start ≡ length bytes → length payload ≡ payload_len_of s.command → record { command = s.command; cube = s.cube; address = s.address; payload = payload } ≡ r
    → items_in (bytes ++ payload) (shorts ++ s ∷ []) ≡ items_in bytes shorts ++ record { host = s.host; fenced = s.fenced; poisoned = s.poisoned; request = r } ∷ []
items-more bytes payload shorts s r inside from long view =
    let last : item_of (bytes ++ payload) s ≡ record { host = s.host; fenced = s.fenced; poisoned = s.poisoned; request = r } =
    rw (last_item bytes payload s from long) (ap (λ (q : RequestFields). record { host = s.host; fenced = s.fenced; poisoned = s.poisoned; request = q }) view) in
    map-append (item_of (bytes ++ payload)) shorts (s ∷ []) ∙ rw (items_in-more bytes payload shorts inside, last) refl

AreItems-more : (items : List ItemFields) (item : ItemFields) → AreItems items → length items < most_asked → item.host < most_hosts → IsRequest item.request → AreItems (items ++ item ∷ [])
AreItems-more items item are room host request = record {
  few = omega (arith, length-append items (item ∷ []), room);
  hosts = All-append (λ i. i.host < most_hosts) items (item ∷ []) are.hosts (All-cons (λ i. i.host < most_hosts) item [] host (All-nil (λ i. i.host < most_hosts)));
  requests = All-append (λ i. IsRequest i.request) items (item ∷ []) are.requests (All-cons (λ i. IsRequest i.request) item [] request (All-nil (λ i. IsRequest i.request)));
}

pub IsScript-more : (items : List ItemFields) (item : ItemFields) → IsScript items → length items < most_requests → item.host < most_hosts → IsRequest item.request → IsScript (items ++ item ∷ [])
IsScript-more items item is room host request = record {
  few = omega (arith, length-append items (item ∷ []), room);
  hosts = All-append (λ i. i.host < most_hosts) items (item ∷ []) is.hosts (All-cons (λ i. i.host < most_hosts) item [] host (All-nil (λ i. i.host < most_hosts)));
  requests = All-append (λ i. IsRequest i.request) items (item ∷ []) is.requests (All-cons (λ i. IsRequest i.request) item [] request (All-nil (λ i. IsRequest i.request)));
}

-- the bytes were appended, and the item wasn't
pub without_item : (bytes bytes2 payload : List ℕ) (shorts shorts2 : List Short) → IsStored bytes shorts → bytes2 ≡ bytes ++ payload → shorts2 ≡ shorts → IsStored bytes2 shorts2 × (items_in bytes2 shorts2 ≡ items_in bytes shorts)
without_item bytes bytes2 payload shorts shorts2 is more same =
    rw (more, same) (IsStored-more_bytes bytes payload shorts is, items_in-more bytes payload shorts is.inside)

-- both were appended
pub with_item : (bytes bytes2 payload : List ℕ) (shorts shorts2 : List Short) (s : Short) (r : RequestFields) → IsStored bytes shorts → bytes2 ≡ bytes ++ payload → shorts2 ≡ shorts ++ s ∷ [] → s.start ≡ length bytes → IsRequest r → record { command = s.command; cube = s.cube; address = s.address; payload = payload } ≡ r
    → s.host < most_hosts → length (items_in bytes shorts) < most_asked
    → IsStored bytes2 shorts2 × (items_in bytes2 shorts2 ≡ items_in bytes shorts ++ record { host = s.host; fenced = s.fenced; poisoned = s.poisoned; request = r } ∷ [])
with_item bytes bytes2 payload shorts shorts2 s r is more one from request view host room =
    let long : length payload ≡ payload_len_of s.command = ap (λ (q : RequestFields). length q.payload) view ∙ request.payload ∙ sym (ap (λ (q : RequestFields). payload_len_of q.command) view) in
    let items = items-more bytes payload shorts s r is.inside from long view in
    let ends : IsInside (bytes ++ payload) s = omega (arith, length-append bytes payload, from, long) in
    rw (more, one) (
      record {
        are = rw items (AreItems-more (items_in bytes shorts) _ is.are room host request);
        inside = All-append (IsInside (bytes ++ payload)) shorts (s ∷ []) (inside-more bytes payload shorts is.inside) (All-cons (IsInside (bytes ++ payload)) s [] ends (All-nil (IsInside (bytes ++ payload))));
      },
      items,
    )

-- the item at a place
pub item_at : (bytes looked : List ℕ) (shorts : List Short) (items : List ItemFields) (k : ℕ) (s : Short) → items_in bytes shorts ≡ items → k < length items → s ≡ get_or shorts k s → looked ≡ bytes → slice_get items k ≡ Some (item_of looked s)
item_at bytes looked shorts items k s view small is same =
    let short : k < length shorts = omega (arith, small, ap length view, length-map shorts (item_of bytes)) in
    rw (← view, same) (slice_get-map (item_of bytes) shorts k ∙ ap (option_map (item_of bytes)) (slice_get-get_or shorts k s short) ∙ ap (λ t. Some (item_of bytes t)) (sym is))

pub item_rule : (bytes : List ℕ) (shorts : List Short) (items : List ItemFields) (k : ℕ) (item : ItemFields) → IsStored bytes shorts → items_in bytes shorts ≡ items → slice_get items k ≡ Some item → (item.host < most_hosts) × IsRequest item.request
item_rule bytes shorts items k item is view found =
    let are = subst AreItems view is.are in
    let small = slice_get_within items k item found in
    let same = get_or_from_slice_get items k item item found in
    (subst (λ (i : ItemFields). i.host < most_hosts) same (are.hosts k item small), subst (λ (i : ItemFields). IsRequest i.request) same (are.requests k item small))
