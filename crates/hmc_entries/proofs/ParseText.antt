-- The words of an entry are words, and are read back as the entry.
use Rattle.std.proofs.Common.{◌≡◌, ◌∙◌, ◌<◌, ℕ, zero, suc, ◌/◌, ◌^◌, Bool, true, false, Option, Some, None, option_map, List, [], ◌∷◌, ◌++◌, length, codes, nat_eq, refl, sym, ap, arith, cond, lit<}
use Rattle.std.specs.Char.{digit_value}
use Rattle.std.specs.Fmt.{decimal}
use Rattle.std.specs.Int.{w32, to_be_bytes, from_be_bytes, bytes_high_first, byte_at}
use Rattle.std.specs.Result.{result_ok}
use Rattle.std.specs.Str.{bytes_eq}
use Rattle.std.specs.Str.Parse.{IsNumeral}
use Rattle.std.proofs.lemmas.Bool.Decides.{nat_tests}
use Rattle.std.proofs.lemmas.Fmt.{decimal_is_IsNumeral}
use Rattle.std.proofs.lemmas.List.{append_cancel_right}
use Rattle.std.proofs.lemmas.Nat.{from_be_bytes-to_be_bytes_4}
use Rattle.hex.specs.Hex.{encode_lower, decode_sized, lower_digits}
use Rattle.hex.proofs.HexLemmas.{decode_sized-encode_lower, length-encode_with}
use Rattle.hmc_codes.specs.Answer.{is_returned, IsAnswer}
use Rattle.hmc_codes.proofs.BytesLemmas.{byte_at-small}
use Rattle.hmc_codes.specs.Bytes.{IsBytes}
use Rattle.hmc_codes.specs.Request.{RequestFields, IsRequest}
use Rattle.hmc_codes.specs.Text.{flag_text, spaced_words}
use Rattle.hmc_codes.specs.Flit.{IsFlit}
use Rattle.hmc_codes.specs.declared.answer.Answer.{Answer}
use Rattle.hmc_codes.specs.declared.answer.Answer.TheVariants.{Silent, Done, Read, Register, Stored, Refused}
use Rattle.hmc_codes.specs.declared.lift.Lift.{Lift}
use Rattle.hmc_codes.specs.declared.lift.Lift.TheVariants as lifts
use Rattle.hmc_codes.specs.declared.unit.Unit.{Unit as Executor}
use Rattle.hmc_codes.specs.declared.unit.Unit.TheVariants as units
use Rattle.hmc_packet.specs.declared.bad.Bad.TheVariants as bads
use Rattle.hmc_packet.specs.declared.kind.Kind.TheVariants as kinds
use Rattle.hmc_packet.specs.declared.what.What.{What}
use Rattle.hmc_packet.specs.declared.what.What.TheVariants.{Train}
use Rattle.hmc_packet.specs.declared.outcome.Outcome.{Outcome}
use Rattle.hmc_packet.specs.declared.outcome.Outcome.TheVariants as outcomes
use Rattle.hmc_schedule.specs.declared.step.Step.{Step}
use Rattle.hmc_schedule.specs.declared.step.Step.TheVariants as steps
use Rattle.hmc_script.specs.Taken.{take_request}
use Rattle.hmc_script.proofs.MeaningText as meaning
use Rattle.hmc_script.proofs.NumberText.{number_of-decimal, below-is}
use Rattle.hmc_script.proofs.RequestWords.{IsWord-decimal, IsWord-encode_lower, no_poison}
use Rattle.hmc_script.proofs.TakenLemmas.{take_number-is, take_request-words}
use Rattle.hmc_script.proofs.WordsText.{IsWord, AreWords, words_of-spaced, line-spaced}
use Rattle.hmc_text.specs.Number.{below}
use Rattle.hmc_text.specs.Words.{words_of}
use Rattle.hmc_words.specs.Taking.{◌>>=◌, take_number, take_this}
use Rattle.hmc_entries.specs.declared.outcome.Goal.{Goal}
use Rattle.hmc_entries.specs.declared.outcome.Goal.TheVariants as goals
use Rattle.hmc_entries.specs.declared.outcome.Cause.{Cause}
use Rattle.hmc_entries.specs.declared.outcome.Cause.TheVariants as causes
use Rattle.hmc_entries.specs.declared.entry.Entry.{Entry}
use Rattle.hmc_entries.specs.declared.entry.Entry.TheVariants.{Gave, Sent, Landed, Shifted, Dropped, Spread, Executed, Lifted, Took, Discarded, Through, Unlocked, Retired, Passed, Idle}
use Rattle.hmc_entries.specs.Lines.{tag_text, what_text, goal_text, lift_text, cause_text, step_words, line_of}
use Rattle.hmc_entries.specs.Parse.{CanBeShown, HasNoMask, IsTag, IsUnit, IsLift, IsGoal, IsStep, IsPrintable, IsLineOf}
use Rattle.hmc_entries.specs.ParseWords.{byte_of, flit_of, tag_of, whats, what_of, causes_known, cause_named, outcome_named, goal_of, port_of, lift_of, flag_of, returned_of, value_of}
use Rattle.hmc_entries.specs.ParseParts.{take_bank, take_unit, outcome_among, outcome_in, done_in, read_in, register_in, refused_in, answer_after, answer_in, numbered_step, pair_step, take_bank_step, take_lift_step, take_pair_step, take_long_step, take_step}
use Rattle.hmc_entries.specs.ParseHead.{head_of, all_heads}
use Rattle.hmc_entries.specs.ParseEntry.{take_tag, take_flit, gave_in, sent_in, landed_in, shifted_in, dropped_in, spread_in, executed_in, lifted_in, took_in, discarded_in, through_in, unlocked_in, retired_in, passed_in, idle_in, entry_after, entry_in}
use Rattle.hmc_entries.proofs.ParseLines.{answer_words, unit_words, outcome_words, poison_words, entry_words, line_of-words}

-- WORDS

AreWords-append : (xs ys : List (List ℕ)) → AreWords xs → AreWords ys → AreWords (xs ++ ys)
AreWords-append [] ys p q = q
AreWords-append (x ∷ xs) ys p q = (p.0, AreWords-append xs ys p.1 q)

byte_word : (n : ℕ) → n < 256 → IsWord (decimal n)
byte_word n small = IsWord-decimal n (omega arith)

tag_word : (tag : Option ℕ) → IsTag tag → IsWord (tag_text tag)
tag_word None is = record { some = refl; letters = refl }
tag_word (Some tag) is = IsWord-decimal tag (omega arith)

flit_word : (flit : List ℕ) → IsFlit flit → IsWord (encode_lower flit)
flit_word [] is = absurd (omega (arith, is.long))
flit_word (b ∷ bs) is = IsWord-encode_lower b bs

what_word : (what : What) → IsWord (what_text what)
what_word Train = record { some = refl; letters = refl }
what_word _ = record { some = refl; letters = refl }

cause_word : (cause : Cause) → IsWord (cause_text cause)
cause_word causes.Ended = record { some = refl; letters = refl }
cause_word _ = record { some = refl; letters = refl }

goal_word : (goal : Goal) → IsGoal goal → IsWord (goal_text goal)
goal_word (goals.Vault vault) is = record { some = refl; letters = (byte_word vault is).letters }
goal_word goals.Registers is = record { some = refl; letters = refl }
goal_word (goals.Port port) is = record { some = refl; letters = (byte_word port is).letters }

port_word : (port : ℕ) → port < 256 → IsWord (codes "p" ++ decimal port)
port_word port small = record { some = refl; letters = (byte_word port small).letters }

lift_word : (from : Lift) → IsLift from → IsWord (lift_text from)
lift_word (lifts.Vault vault) is = byte_word vault is
lift_word lifts.Registers is = record { some = refl; letters = refl }

unit_are_words : (u : Executor) → IsUnit u → AreWords (unit_words u)
unit_are_words (units.Bank cube vault bank) is = (byte_word cube is.0, (byte_word vault is.1, (byte_word bank is.2, tt)))
unit_are_words (units.Registers cube) is = (byte_word cube is, (record { some = refl; letters = refl }, tt))

outcome_are_words : (outcome : Outcome) → AreWords (outcome_words outcome)
outcome_are_words (outcomes.AbortedBad bads.Length) = (record { some = refl; letters = refl }, (record { some = refl; letters = refl }, tt))
outcome_are_words (outcomes.AbortedBad bads.Command) = (record { some = refl; letters = refl }, (record { some = refl; letters = refl }, tt))
outcome_are_words (outcomes.AbortedBad bads.Reserved) = (record { some = refl; letters = refl }, (record { some = refl; letters = refl }, tt))
outcome_are_words (outcomes.AbortedBad bads.Crc) = (record { some = refl; letters = refl }, (record { some = refl; letters = refl }, tt))
outcome_are_words outcomes.AbortedOrder = (record { some = refl; letters = refl }, (record { some = refl; letters = refl }, tt))
outcome_are_words (outcomes.Ran kinds.Start) = (record { some = refl; letters = refl }, (record { some = refl; letters = refl }, tt))
outcome_are_words (outcomes.Ran kinds.Clear) = (record { some = refl; letters = refl }, (record { some = refl; letters = refl }, tt))
outcome_are_words _ = (record { some = refl; letters = refl }, tt)

flag_word : (flag : Bool) → IsWord (flag_text flag)
flag_word true = record { some = refl; letters = refl }
flag_word false = record { some = refl; letters = refl }

-- a response carries some bytes
returned_word : (payload : List ℕ) → is_returned (length payload) ≡ true → IsWord (encode_lower payload)
returned_word [] is = absurd (cc is)
returned_word (b ∷ bs) is = IsWord-encode_lower b bs

IsBytes-high : (k n : ℕ) → IsBytes (bytes_high_first k n)
IsBytes-high zero n i = lit< tt
IsBytes-high (suc k) n zero = byte_at-small k n
IsBytes-high (suc k) n (suc i) = IsBytes-high k n i

value_word : (value : ℕ) → IsWord (encode_lower (to_be_bytes w32 value))
value_word value = IsWord-encode_lower (byte_at 3 value) (bytes_high_first 3 value)

answer_are_words : (answer : Answer) → CanBeShown answer → IsAnswer answer → AreWords (answer_words answer)
answer_are_words Silent shown is = (record { some = refl; letters = refl }, tt)
answer_are_words (Done flag) shown is = (record { some = refl; letters = refl }, (flag_word flag, tt))
answer_are_words (Read flag payload) shown is = (record { some = refl; letters = refl }, (flag_word flag, (returned_word payload shown, tt)))
answer_are_words (Register value) shown is = (record { some = refl; letters = refl }, (value_word value, tt))
answer_are_words Stored shown is = (record { some = refl; letters = refl }, tt)
answer_are_words (Refused errstat) shown is = (record { some = refl; letters = refl }, (byte_word errstat (omega (arith, shown)), tt))

request_are_words : (request : RequestFields) → IsRequest request → AreWords (meaning.request_words request)
request_are_words request is = (meaning.item_are_words 0 false request (lit< tt) is).1

poison_are_words : (poisoned : Bool) (request : RequestFields) → IsRequest request → AreWords (poison_words poisoned request)
poison_are_words true request is = (record { some = refl; letters = refl }, request_are_words request is)
poison_are_words false request is = request_are_words request is

one_number : (w : List ℕ) (n : ℕ) → IsWord w → n < 256 → AreWords (w ∷ decimal n ∷ [])
one_number w n is small = (is, (byte_word n small, tt))

two_numbers : (w : List ℕ) (n m : ℕ) → IsWord w → n < 256 → m < 256 → AreWords (w ∷ decimal n ∷ decimal m ∷ [])
two_numbers w n m is small fits = (is, (byte_word n small, (byte_word m fits, tt)))

step_are_words : (step : Step) → IsStep step → AreWords (step_words step)
step_are_words (steps.Give host) is = one_number (codes "give") host (record { some = refl; letters = refl }) is
step_are_words (steps.Send direction) is = one_number (codes "send") direction (record { some = refl; letters = refl }) is
step_are_words (steps.Land direction mask) is = one_number (codes "land") direction (record { some = refl; letters = refl }) is
step_are_words (steps.Shift cube port) is = two_numbers (codes "shift") cube port (record { some = refl; letters = refl }) is.0 is.1
step_are_words (steps.Spread cube vault) is = two_numbers (codes "spread") cube vault (record { some = refl; letters = refl }) is.0 is.1
step_are_words (steps.Bank cube vault bank) is = (record { some = refl; letters = refl }, (byte_word cube is.0, (byte_word vault is.1, (byte_word bank is.2, tt))))
step_are_words (steps.Registers cube) is = one_number (codes "registers") cube (record { some = refl; letters = refl }) is
step_are_words (steps.Lift cube from) is = (record { some = refl; letters = refl }, (byte_word cube is.0, (lift_word from is.1, tt)))
step_are_words (steps.Take host) is = one_number (codes "take") host (record { some = refl; letters = refl }) is
step_are_words (steps.Through cube port) is = two_numbers (codes "through") cube port (record { some = refl; letters = refl }) is.0 is.1
step_are_words (steps.Unlock direction) is = one_number (codes "unlock") direction (record { some = refl; letters = refl }) is
step_are_words (steps.Retire slot) is = one_number (codes "retire") slot (record { some = refl; letters = refl }) is

pub entry_are_words : (entry : Entry) → IsPrintable entry → AreWords (entry_words entry)
entry_are_words (Gave host tag poisoned request) is =
    (record { some = refl; letters = refl }, (byte_word host is.fits.0, (tag_word tag is.fits.1, poison_are_words poisoned request is.fits.2)))
entry_are_words (Sent direction what flit) is =
    (record { some = refl; letters = refl }, (byte_word direction is.fits.0, (what_word what, (flit_word flit is.fits.1, tt))))
entry_are_words (Landed direction flit outcome) is =
    (record { some = refl; letters = refl }, (byte_word direction is.fits.0, (flit_word flit is.fits.1, outcome_are_words outcome)))
entry_are_words (Shifted cube port goal) is =
    (record { some = refl; letters = refl }, (byte_word cube is.fits.0, (byte_word port is.fits.1, (goal_word goal is.fits.2, tt))))
entry_are_words (Dropped cube port) is = two_numbers (codes "dropped") cube port (record { some = refl; letters = refl }) is.fits.0 is.fits.1
entry_are_words (Spread cube vault bank) is =
    (record { some = refl; letters = refl }, (byte_word cube is.fits.0, (byte_word vault is.fits.1, (byte_word bank is.fits.2, tt))))
entry_are_words (Executed unit host tag request answer) is =
    (record { some = refl; letters = refl }, AreWords-append (unit_words unit) (decimal host ∷ tag_text tag ∷ (meaning.request_words request ++ answer_words answer)) (unit_are_words unit is.fits.0) (byte_word host is.fits.1, (tag_word tag is.fits.2, AreWords-append (meaning.request_words request) (answer_words answer) (request_are_words request is.fits.3) (answer_are_words answer is.shown is.fits.4))))
entry_are_words (Lifted cube from port) is =
    (record { some = refl; letters = refl }, (byte_word cube is.fits.0, (lift_word from is.fits.1, (port_word port is.fits.2, tt))))
entry_are_words (Took host tag answer) is =
    (record { some = refl; letters = refl }, (byte_word host is.fits.0, (IsWord-decimal tag (omega (arith, is.fits.1)), answer_are_words answer is.shown is.fits.2)))
entry_are_words (Discarded host) is = one_number (codes "discarded") host (record { some = refl; letters = refl }) is.fits
entry_are_words (Through cube port direction) is =
    (record { some = refl; letters = refl }, (byte_word cube is.fits.0, (byte_word port is.fits.1, (byte_word direction is.fits.2, tt))))
entry_are_words (Unlocked direction) is = one_number (codes "unlocked") direction (record { some = refl; letters = refl }) is.fits
entry_are_words (Retired slot) is = one_number (codes "retired") slot (record { some = refl; letters = refl }) is.fits
entry_are_words (Passed direction flit) is =
    (record { some = refl; letters = refl }, (byte_word direction is.fits.0, (flit_word flit is.fits.1, tt)))
entry_are_words (Idle step cause) is =
    (record { some = refl; letters = refl }, AreWords-append (step_words step) (cause_text cause ∷ []) (step_are_words step is.fits) (cause_word cause, tt))

-- READ BACK

byte_back : (n : ℕ) (ws : List (List ℕ)) → n < 256 → take_number 256 (decimal n ∷ ws) ≡ Some (n, ws)
byte_back n ws small = take_number-is 256 n (decimal n) ws (number_of-decimal n (omega arith)) small

byte_of-decimal : (n : ℕ) → n < 256 → byte_of (decimal n) ≡ Some n
byte_of-decimal n small = ap (below 256) (number_of-decimal n (omega arith)) ∙ below-is 256 n small

-- a number doesn't begin with a dash or a letter
not_dash : (d : ℕ) → digit_value d < 10 → nat_eq d 45 ≡ false
not_dash d digit = grind (arith, nat_tests)

not_r : (d : ℕ) → digit_value d < 10 → nat_eq d 114 ≡ false
not_r d digit = grind (arith, nat_tests)

no_dash : (ds : List ℕ) → IsNumeral 10 ds → bytes_eq ds (codes "-") ≡ false
no_dash [] numeral = absurd (omega (arith, numeral.0))
no_dash (d ∷ ds) numeral = rw (not_dash d numeral.1.0) refl

no_r : (ds : List ℕ) → IsNumeral 10 ds → bytes_eq ds (codes "r") ≡ false
no_r [] numeral = absurd (omega (arith, numeral.0))
no_r (d ∷ ds) numeral = rw (not_r d numeral.1.0) refl

decimal_no_r : (n : ℕ) → n < 256 → bytes_eq (decimal n) (codes "r") ≡ false
decimal_no_r n small = no_r (decimal n) (decimal_is_IsNumeral n (omega arith)).0

tag_of-text : (tag : Option ℕ) → IsTag tag → tag_of (tag_text tag) ≡ Some tag
unfolding tag_of
tag_of-text None is = refl
tag_of-text (Some tag) is =
    let none = no_dash (decimal tag) (decimal_is_IsNumeral tag (omega arith)).0 in
    rw (none, number_of-decimal tag (omega arith), below-is (2 ^ 16) tag is) refl

tag_back : (tag : Option ℕ) (ws : List (List ℕ)) → IsTag tag → take_tag (tag_text tag ∷ ws) ≡ Some (tag, ws)
unfolding take_tag
tag_back tag ws is = ap (λ (o : Option (Option ℕ)). o >>= (λ t. Some (t, ws))) (tag_of-text tag is)

flit_of-digits : (flit : List ℕ) → IsFlit flit → flit_of (encode_lower flit) ≡ Some flit
unfolding flit_of
flit_of-digits flit is = ap result_ok (decode_sized-encode_lower flit 16 is.long is.bytes)

flit_back : (flit : List ℕ) (ws : List (List ℕ)) → IsFlit flit → take_flit (encode_lower flit ∷ ws) ≡ Some (flit, ws)
unfolding take_flit
flit_back flit ws is = ap (λ (o : Option (List ℕ)). o >>= (λ f. Some (f, ws))) (flit_of-digits flit is)

what_back : (what : What) → what_of (what_text what) ≡ Some what
unfolding what_of whats
what_back Train = refl
what_back _ = refl

cause_back : (cause : Cause) → cause_named (cause_text cause) ≡ Some cause
unfolding cause_named causes_known
cause_back causes.Ended = refl
cause_back _ = refl

outcome_back : (outcome : Outcome) → outcome_in (outcome_words outcome) ≡ Some outcome
unfolding outcome_in outcome_among outcome_named
outcome_back (outcomes.AbortedBad bads.Length) = refl
outcome_back (outcomes.AbortedBad bads.Command) = refl
outcome_back (outcomes.AbortedBad bads.Reserved) = refl
outcome_back (outcomes.AbortedBad bads.Crc) = refl
outcome_back (outcomes.Ran kinds.Start) = refl
outcome_back (outcomes.Ran kinds.Clear) = refl
outcome_back _ = refl

goal_back : (goal : Goal) → IsGoal goal → goal_of (goal_text goal) ≡ Some goal
unfolding goal_of
goal_back (goals.Vault vault) is = ap (option_map goals.Vault) (byte_of-decimal vault is)
goal_back goals.Registers is = refl
goal_back (goals.Port port) is = ap (option_map goals.Port) (byte_of-decimal port is)

port_back : (port : ℕ) → port < 256 → port_of (codes "p" ++ decimal port) ≡ Some port
unfolding port_of
port_back port small = byte_of-decimal port small

lift_back : (from : Lift) → IsLift from → lift_of (lift_text from) ≡ Some from
unfolding lift_of
lift_back (lifts.Vault vault) is = rw (decimal_no_r vault is) (ap (option_map lifts.Vault) (byte_of-decimal vault is))
lift_back lifts.Registers is = refl

unit_back : (u : Executor) (ws : List (List ℕ)) → IsUnit u → take_unit (unit_words u ++ ws) ≡ Some (u, ws)
unfolding take_unit take_bank
unit_back (units.Bank cube vault bank) ws is =
    let first = byte_back cube (decimal vault ∷ decimal bank ∷ ws) is.0 in
    let second = decimal_no_r vault is.1 in
    rw (first, second, byte_of-decimal vault is.1, byte_back bank ws is.2) refl
unit_back (units.Registers cube) ws is = rw (byte_back cube (codes "r" ∷ ws) is) refl

flag_back : (flag : Bool) → flag_of (flag_text flag) ≡ Some flag
unfolding flag_of
flag_back true = refl
flag_back false = refl

chosen : {A : Type 0} (b : Bool) (x y z : A) → b ≡ true → x ≡ z → cond b x y ≡ z
chosen true x y z is same = same
chosen false x y z is same = absurd (cc is)

returned_back : (payload : List ℕ) → IsBytes payload → is_returned (length payload) ≡ true → returned_of (encode_lower payload) ≡ Some payload
unfolding returned_of
returned_back payload bytes is =
    let digits = encode_lower payload in
    let half : length digits / 2 ≡ length payload = omega (arith, length-encode_with lower_digits payload) in
    let read : result_ok (decode_sized digits (length digits / 2)) ≡ Some payload = ap (λ n. result_ok (decode_sized digits n)) half ∙ ap result_ok (decode_sized-encode_lower payload (length payload) refl bytes) in
    chosen (is_returned (length digits / 2)) (result_ok (decode_sized digits (length digits / 2))) None (Some payload) (ap is_returned half ∙ is) read

value_back : (value : ℕ) → value < 2 ^ 32 → value_of (encode_lower (to_be_bytes w32 value)) ≡ Some value
unfolding value_of
value_back value small =
    let bytes : IsBytes (to_be_bytes w32 value) = IsBytes-high 4 value in
    ap (option_map (from_be_bytes w32)) (ap result_ok (decode_sized-encode_lower (to_be_bytes w32 value) 4 refl bytes)) ∙ ap Some (from_be_bytes-to_be_bytes_4 value small)

answer_back : (answer : Answer) → CanBeShown answer → IsAnswer answer → answer_in (answer_words answer) ≡ Some answer
unfolding answer_in answer_after done_in read_in register_in refused_in
answer_back Silent shown is = refl
answer_back (Done flag) shown is = rw (flag_back flag) refl
answer_back (Read flag payload) shown is = rw (flag_back flag, returned_back payload is shown) refl
answer_back (Register value) shown is = rw (value_back value is) refl
answer_back Stored shown is = refl
answer_back (Refused errstat) shown is =
    rw (take_number-is 128 errstat (decimal errstat) [] (number_of-decimal errstat (omega (arith, shown))) (omega (arith, shown))) refl

step_back : (step : Step) (ws : List (List ℕ)) → IsStep step → HasNoMask step → take_step (step_words step ++ ws) ≡ Some (step, ws)
unfolding take_step numbered_step pair_step take_bank_step take_lift_step take_pair_step take_long_step
step_back (steps.Give host) ws is none = rw (byte_back host ws is) refl
step_back (steps.Send direction) ws is none = rw (byte_back direction ws is) refl
step_back (steps.Land direction mask) ws is none =
    rw (byte_back direction ws is) (ap (λ m. Some (steps.Land direction m, ws)) (sym none))
step_back (steps.Shift cube port) ws is none = rw (byte_back cube (decimal port ∷ ws) is.0, byte_back port ws is.1) refl
step_back (steps.Spread cube vault) ws is none = rw (byte_back cube (decimal vault ∷ ws) is.0, byte_back vault ws is.1) refl
step_back (steps.Bank cube vault bank) ws is none =
    rw (byte_back cube (decimal vault ∷ decimal bank ∷ ws) is.0, byte_back vault (decimal bank ∷ ws) is.1, byte_back bank ws is.2) refl
step_back (steps.Registers cube) ws is none = rw (byte_back cube ws is) refl
step_back (steps.Lift cube from) ws is none = rw (byte_back cube (lift_text from ∷ ws) is.0, lift_back from is.1) refl
step_back (steps.Take host) ws is none = rw (byte_back host ws is) refl
step_back (steps.Through cube port) ws is none = rw (byte_back cube (decimal port ∷ ws) is.0, byte_back port ws is.1) refl
step_back (steps.Unlock direction) ws is none = rw (byte_back direction ws is) refl
step_back (steps.Retire slot) ws is none = rw (byte_back slot ws is) refl

-- whether a request is poisoned is read back: no command's word is `poison`
poison_back : (poisoned : Bool) (request : RequestFields) → take_this (codes "poison") (poison_words poisoned request) ≡ (poisoned, meaning.request_words request)
poison_back true request = refl
poison_back false request = rw (no_poison request.command) refl

append-nil_words : (ws : List (List ℕ)) → ws ++ [] ≡ ws
append-nil_words [] = refl
append-nil_words (w ∷ ws) = ap (λ l. w ∷ l) (append-nil_words ws)

request_back : (request : RequestFields) → IsRequest request → take_request (meaning.request_words request) ≡ Some (request, [])
request_back request is =
    ap take_request (sym (append-nil_words (meaning.request_words request))) ∙ take_request-words request [] is

gave_back : (host : ℕ) (tag : Option ℕ) (poisoned : Bool) (request : RequestFields) → host < 256 → IsTag tag → IsRequest request → gave_in (decimal host ∷ tag_text tag ∷ poison_words poisoned request) ≡ Some (Gave host tag poisoned request)
unfolding gave_in
gave_back host tag poisoned request small tags is =
    rw (byte_back host (tag_text tag ∷ poison_words poisoned request) small, tag_back tag (poison_words poisoned request) tags, poison_back poisoned request, request_back request is) refl

executed_back : (u : Executor) (host : ℕ) (tag : Option ℕ) (request : RequestFields) (answer : Answer) → IsPrintable (Executed u host tag request answer) → executed_in (unit_words u ++ (decimal host ∷ tag_text tag ∷ (meaning.request_words request ++ answer_words answer))) ≡ Some (Executed u host tag request answer)
unfolding executed_in
executed_back u host tag request answer is =
    let tail = meaning.request_words request ++ answer_words answer in
    rw (unit_back u (decimal host ∷ tag_text tag ∷ tail) is.fits.0, byte_back host (tag_text tag ∷ tail) is.fits.1, tag_back tag tail is.fits.2, take_request-words request (answer_words answer) is.fits.3, answer_back answer is.shown is.fits.4) refl

pub entry_back : (entry : Entry) → IsPrintable entry → entry_in (entry_words entry) ≡ Some entry
unfolding entry_in entry_after head_of all_heads sent_in landed_in shifted_in dropped_in spread_in lifted_in took_in discarded_in through_in unlocked_in retired_in passed_in idle_in
entry_back (Gave host tag poisoned request) is = gave_back host tag poisoned request is.fits.0 is.fits.1 is.fits.2
entry_back (Sent direction what flit) is =
    rw (byte_back direction (what_text what ∷ encode_lower flit ∷ []) is.fits.0, what_back what, flit_back flit [] is.fits.1) refl
entry_back (Landed direction flit outcome) is =
    rw (byte_back direction (encode_lower flit ∷ outcome_words outcome) is.fits.0, flit_back flit (outcome_words outcome) is.fits.1, outcome_back outcome) refl
entry_back (Shifted cube port goal) is =
    rw (byte_back cube (decimal port ∷ goal_text goal ∷ []) is.fits.0, byte_back port (goal_text goal ∷ []) is.fits.1, goal_back goal is.fits.2) refl
entry_back (Dropped cube port) is =
    rw (byte_back cube (decimal port ∷ []) is.fits.0, byte_back port [] is.fits.1) refl
entry_back (Spread cube vault bank) is =
    rw (byte_back cube (decimal vault ∷ decimal bank ∷ []) is.fits.0, byte_back vault (decimal bank ∷ []) is.fits.1, byte_back bank [] is.fits.2) refl
entry_back (Executed unit host tag request answer) is = executed_back unit host tag request answer is
entry_back (Lifted cube from port) is =
    rw (byte_back cube (lift_text from ∷ (codes "p" ++ decimal port) ∷ []) is.fits.0, lift_back from is.fits.1, port_back port is.fits.2) refl
entry_back (Took host tag answer) is =
    rw (byte_back host (decimal tag ∷ answer_words answer) is.fits.0, take_number-is (2 ^ 16) tag (decimal tag) (answer_words answer) (number_of-decimal tag (omega (arith, is.fits.1))) is.fits.1, answer_back answer is.shown is.fits.2) refl
entry_back (Discarded host) is = rw (byte_back host [] is.fits) refl
entry_back (Through cube port direction) is =
    rw (byte_back cube (decimal port ∷ decimal direction ∷ []) is.fits.0, byte_back port (decimal direction ∷ []) is.fits.1, byte_back direction [] is.fits.2) refl
entry_back (Unlocked direction) is = rw (byte_back direction [] is.fits) refl
entry_back (Retired slot) is = rw (byte_back slot [] is.fits) refl
entry_back (Passed direction flit) is =
    rw (byte_back direction (encode_lower flit ∷ []) is.fits.0, flit_back flit [] is.fits.1) refl
entry_back (Idle step cause) is =
    rw (step_back step (cause_text cause ∷ []) is.fits is.shown, cause_back cause) refl

-- the text of an entry is read back as the entry
pub line_back : (text : List ℕ) (entry : Entry) → IsPrintable entry → IsLineOf text entry → entry_in (words_of text) ≡ Some entry
line_back text entry is line_is =
    let same : text ++ (10 ∷ []) ≡ spaced_words (entry_words entry) ++ (10 ∷ []) = sym line_is ∙ line_of-words entry ∙ line-spaced (entry_words entry) in
    let text_is : text ≡ spaced_words (entry_words entry) = append_cancel_right text (spaced_words (entry_words entry)) (10 ∷ []) same in
    ap (λ t. entry_in (words_of t)) text_is ∙ ap entry_in (words_of-spaced (entry_words entry) (entry_are_words entry is)) ∙ entry_back entry is

-- no two entries have one line
pub line_tells : (entry other : Entry) → IsPrintable entry → IsPrintable other → line_of entry ≡ line_of other → entry ≡ other
line_tells entry other is fits same =
    let text = spaced_words (entry_words other) in
    let line_is : IsLineOf text other = line_of-words other ∙ line-spaced (entry_words other) in
    let first : entry_in (words_of text) ≡ Some entry = line_back text entry is (same ∙ line_is) in
    let second : entry_in (words_of text) ≡ Some other = line_back text other fits line_is in
    cc
