-- A printed script is read line by line.
use Rattle.std.proofs.Common.{◌≡◌, ◌∙◌, ◌<◌, ◌≤◌, ℕ, ◌+◌, Bool, true, false, Result, Ok, Err, IfOk, List, [], ◌∷◌, ◌++◌, length, set, get_or, replicate, refl, sym, ap, arith, append_assoc, append-nil, length-append, lt-ltb, set-set, get_or-set_same}
use Rattle.std.proofs.lemmas.List.{set-get_or, get_or-replicate}
use Rattle.std.specs.List.{All}
use Rattle.std.proofs.lemmas.List.Elements.{All-head, All-tail}
use Rattle.hmc_codes.specs.Limits.{most_hosts, most_requests}
use Rattle.hmc_codes.specs.Request.{RequestFields, IsRequest}
use Rattle.hmc_codes.specs.Text.{spaced_words, line}
use Rattle.hmc_script.proofs.MeaningText.{meaning_of-fence, meaning_of-ask, fence_are_words, item_are_words, request_line-words}
use Rattle.hmc_text.proofs.InTurnLemmas.{after_lines-ok}
use Rattle.hmc_script.proofs.WordsText.{AreWords, words_of-spaced, lines_of-line}
use Rattle.hmc_script.specs.declared.fault.ScriptKind.{ScriptKind}
use Rattle.hmc_script.specs.declared.meaning.Meaning.{Meaning}
use Rattle.hmc_script.specs.declared.meaning.Meaning.TheVariants.{Fence, Ask}
use Rattle.hmc_script.specs.Items.{ItemFields, IsScript, IsWithin}
use Rattle.hmc_script.specs.Laws.{PrintedIsRead}
use Rattle.hmc_text.specs.Lines.{lines_of}
use Rattle.hmc_script.specs.Meaning.{meaning_of}
use Rattle.hmc_text.specs.Reading.{◌>>=◌}
use Rattle.hmc_text.specs.InTurn.{after_lines, at_line, next_number}
use Rattle.hmc_script.specs.Script.{Progress, after_meaning, after_line, script_of}
use Rattle.hmc_script.specs.Text.{fence_line, fence_text, request_line, item_text, script_text}
use Rattle.hmc_text.specs.Words.{words_of}

-- no host has a fence
abbrev quiet : List Bool
quiet = replicate 8 false

-- a written line does what its words say
line_does : (hosts cubes number : ℕ) (progress next : Progress) (words : List (List ℕ)) (meaning : Meaning) (rest : List ℕ) →
    AreWords words → meaning_of hosts cubes words ≡ Ok meaning → after_meaning progress meaning ≡ Ok next →
    after_lines (after_line hosts cubes) number progress (lines_of (line words ++ rest)) ≡ after_lines (after_line hosts cubes) (next_number number) next (lines_of rest)
unfolding after_line
line_does hosts cubes number progress next words meaning rest are says does =
    let said : after_line hosts cubes progress (spaced_words words) ≡ Ok next = ap (λ ws. meaning_of hosts cubes ws >>= after_meaning progress) (words_of-spaced words are) ∙ ap (λ (r : Result Meaning ScriptKind). r >>= after_meaning progress) says ∙ does in
    ap (after_lines (after_line hosts cubes) number progress) (lines_of-line words rest are) ∙ after_lines-ok (after_line hosts cubes) number progress next (spaced_words words) (lines_of rest) (ap (at_line number) said)

fence_does : (hosts cubes number host : ℕ) (items : List ItemFields) (fences : List Bool) (rest : List ℕ) → host < most_hosts → host < hosts →
    after_lines (after_line hosts cubes) number (record { items = items; fences = fences }) (lines_of (fence_line host ++ rest)) ≡ after_lines (after_line hosts cubes) (next_number number) (record { items = items; fences = set fences host true }) (lines_of rest)
unfolding after_meaning
fence_does hosts cubes number host items fences rest small within =
    line_does hosts cubes number _ _ _ (Fence host) rest (fence_are_words host small) (meaning_of-fence hosts cubes host small within) refl

ask_does : (hosts cubes number host : ℕ) (poisoned : Bool) (request : RequestFields) (items : List ItemFields) (fences : List Bool) (rest : List ℕ) → host < most_hosts → host < hosts → IsRequest request → request.cube < cubes → length items < most_requests →
    after_lines (after_line hosts cubes) number (record { items = items; fences = fences }) (lines_of (request_line host poisoned request ++ rest))
    ≡ after_lines (after_line hosts cubes) (next_number number) (record { items = items ++ record { host = host; fenced = get_or fences host false; poisoned = poisoned; request = request } ∷ []; fences = set fences host false }) (lines_of rest)
unfolding after_meaning
ask_does hosts cubes number host poisoned request items fences rest small in_hosts is in_cubes room =
    ap (λ l. after_lines (after_line hosts cubes) number (record { items = items; fences = fences }) (lines_of (l ++ rest))) (request_line-words host poisoned request)
    ∙ line_does hosts cubes number _ _ _ (Ask host poisoned request) rest (item_are_words host poisoned request small is) (meaning_of-ask hosts cubes host poisoned request small in_hosts is in_cubes) (rw (lt-ltb (length items) most_requests room) refl)

quiet_at : (host : ℕ) → host < most_hosts → get_or quiet host false ≡ false
quiet_at host small = get_or-replicate 8 host false false small

quiet_keeps : (host : ℕ) → host < most_hosts → set quiet host false ≡ quiet
quiet_keeps host small = ap (set quiet host) (sym (quiet_at host small)) ∙ set-get_or quiet host false

-- after its request a fence waits no more
quiet_again : (host : ℕ) (fenced : Bool) → host < most_hosts → set (set quiet host fenced) host false ≡ quiet
quiet_again host fenced small =
    set-set quiet host fenced false ∙ quiet_keeps host small

-- a fence and its request are read as an item
item_does : (hosts cubes number host : ℕ) (fenced poisoned : Bool) (request : RequestFields) (items : List ItemFields) (rest : List ℕ) (read : Result Progress (ℕ × ScriptKind)) → host < most_hosts → host < hosts → IsRequest request → request.cube < cubes → length items < most_requests →
    ((n : ℕ) → after_lines (after_line hosts cubes) n (record { items = items ++ record { host = host; fenced = fenced; poisoned = poisoned; request = request } ∷ []; fences = quiet }) (lines_of rest) ≡ read) →
    after_lines (after_line hosts cubes) number (record { items = items; fences = quiet }) (lines_of ((fence_text host fenced ++ request_line host poisoned request) ++ rest)) ≡ read
item_does hosts cubes number host true poisoned request items rest read small in_hosts is in_cubes room later =
    let fences = set quiet host true in
    let waits : get_or fences host false ≡ true = get_or-set_same quiet host true false small in
    ap (λ l. after_lines (after_line hosts cubes) number (record { items = items; fences = quiet }) (lines_of l)) (append_assoc (fence_line host) (request_line host poisoned request) rest)
    ∙ fence_does hosts cubes number host items quiet (request_line host poisoned request ++ rest) small in_hosts
    ∙ ask_does hosts cubes (next_number number) host poisoned request items fences rest small in_hosts is in_cubes room
    ∙ rw (waits, quiet_again host true small) (later (next_number (next_number number)))
item_does hosts cubes number host false poisoned request items rest read small in_hosts is in_cubes room later =
    ask_does hosts cubes number host poisoned request items quiet rest small in_hosts is in_cubes room
    ∙ rw (quiet_at host small, quiet_keeps host small) (later (next_number number))

-- after the last line feed nothing is stated
end_does : (hosts cubes number : ℕ) (progress : Progress) → after_lines (after_line hosts cubes) number progress (lines_of []) ≡ Ok progress
unfolding lines_of words_of meaning_of after_line after_meaning after_lines
end_does hosts cubes number progress = refl

joined : (read items : List ItemFields) (item : ItemFields) → ◌≡◌ {A = Result Progress (ℕ × ScriptKind)} (Ok (record { items = (read ++ item ∷ []) ++ items; fences = quiet })) (Ok (record { items = read ++ item ∷ items; fences = quiet }))
joined read items item =
    let progress : List ItemFields → Progress = λ l. record { items = l; fences = quiet } in
    ap (λ l. Ok (progress l)) (append_assoc read (item ∷ []) items)

-- so are all of them
items_do : (hosts cubes number : ℕ) (read items : List ItemFields) → All (λ item. item.host < most_hosts) items → All (λ item. IsRequest item.request) items → All (IsWithin hosts cubes) items → length read + length items ≤ most_requests →
    after_lines (after_line hosts cubes) number (record { items = read; fences = quiet }) (lines_of (script_text items)) ≡ Ok (record { items = read ++ items; fences = quiet })
unfolding script_text item_text
items_do hosts cubes number read [] small are within few =
    let progress : List ItemFields → Progress = λ l. record { items = l; fences = quiet } in
    end_does hosts cubes number (progress read) ∙ ap (λ l. Ok (progress l)) (sym (append-nil read))
items_do hosts cubes number read (item ∷ items) small are within few =
    let inside = All-head (IsWithin hosts cubes) item items within in
    item_does hosts cubes number item.host item.fenced item.poisoned item.request read (script_text items) (Ok (record { items = read ++ item ∷ items; fences = quiet }))
    (All-head (λ i. i.host < most_hosts) item items small) inside.host (All-head (λ i. IsRequest i.request) item items are) inside.cube (omega arith)
    (λ n. items_do hosts cubes n (read ++ item ∷ []) items (All-tail (λ i. i.host < most_hosts) item items small) (All-tail (λ i. IsRequest i.request) item items are) (All-tail (IsWithin hosts cubes) item items within) (omega (arith, length-append read (item ∷ []))) ∙ joined read items item)

-- what is printed is read again
pub printed_is_read : PrintedIsRead
unfolding script_of
printed_is_read hosts cubes items is within =
    ap (λ (r : Result Progress (ℕ × ScriptKind)). r >>= (λ progress. Ok progress.items)) (items_do hosts cubes 1 [] items is.hosts is.requests within (omega (arith, is.few)))

pub print_is_read : {X E : Type 0} (view : X → List ℕ) (printed : Result X E) (items : List ItemFields) → IsScript items → IfOk printed (λ text. view text ≡ script_text items) → (hosts cubes : ℕ) → All (IsWithin hosts cubes) items → IfOk printed (λ text. script_of hosts cubes (view text) ≡ Ok items)
print_is_read view (Ok text) items is written hosts cubes within =
    ap (script_of hosts cubes) written ∙ printed_is_read hosts cubes items is within
print_is_read view (Err e) items is written hosts cubes within = tt
