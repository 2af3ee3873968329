-- Lists of events computed: a short life of a direction, a cut-through packet that is begun before
-- a flit of it is there, and events that may not come. The retry buffer has 34 flits. Needed and
-- WorkedPair use its parts.
use Rattle.std.proofs.Common.{◌≡◌, ℕ, ◌-◌, List, [], ◌∷◌, ◌++◌, true, false, refl}
use Rattle.std.specs.Prelude.{replicate}
use Rattle.hmc_numbers.specs.Weights.{Weight}
use Rattle.hmc_numbers.specs.Direction.Filler.{train, pret, start}
use Rattle.hmc_numbers.specs.Direction.Item.{filler, clear, part}
use Rattle.hmc_numbers.specs.Direction.Reached.{aborting, between}
use Rattle.hmc_numbers.specs.Events.{Event}
use Rattle.hmc_numbers.specs.Events.Reading.{plain, as_start, as_clear}
use Rattle.hmc_numbers.specs.Events.Event.{rests, sends_filler, sends_clear, begins, begins_through, begins_again, goes_on, acknowledges, drops, trains, opens, passes, gathers, accepts, repeats, spoils, breaks, unlocks}
use Rattle.hmc_numbers.specs.May.{MayAll}
use Rattle.hmc_numbers.specs.Places.{places}
use Rattle.hmc_numbers.proofs.Checked.{walked, onto, MayNot, refused, all_might}

-- Parts of lists, the oldest event first

-- a request or a response
abbrev pub request : ℕ → Weight
request n = record { flits = n; token = true; returns = 0 }

abbrev pub tret : Weight
tret = record { flits = 1; token = false; returns = 16 }

-- a packet of n flits is sent
abbrev pub sends_new : ℕ → List Event
sends_new n = begins (request n) ∷ replicate (n - 1) goes_on

abbrev pub sends_again : ℕ → List Event
sends_again n = begins_again ∷ replicate (n - 1) goes_on

-- a packet of n flits lands, and at its last flit e happens
abbrev pub lands : ℕ → Event → List Event
lands n e = replicate (n - 1) gathers ++ e ∷ []

-- Train ends
abbrev pub trained : List Event
trained = sends_filler train ∷ trains ∷ []

abbrev pub clears_sent : List Event
clears_sent = replicate 32 sends_clear

-- a burst of Clears lands in Abort, and in Good
abbrev pub clears_open : List Event
clears_open = replicate 23 (drops as_clear) ++ opens ∷ replicate 8 (passes as_clear)

abbrev pub clears_pass : List Event
clears_pass = replicate 32 (passes as_clear)

-- the receiver is in Good for the first time
abbrev pub opened : List Event
opened = trained ++ clears_sent ++ clears_open

-- A short life

-- three packets are sent: a request of two flits, another one, and a TRET
abbrev sent_three : List Event
sent_three = opened ++ sends_new 2 ++ sends_new 2 ++ begins tret ∷ []

-- the first one is accepted, and a flit of the second one is changed: the third one is dropped too
abbrev changed_two : List Event
changed_two = sent_three ++ lands 2 accepts ++ spoils true ∷ breaks false ∷ drops plain ∷ []

-- the sender goes back, and the receiver is in Good again; the sender sends Starts meanwhile
abbrev gone_back : List Event
gone_back =
    changed_two ++ clears_sent ++ clears_open ++ replicate 32 (sends_filler start) ++
    replicate 32 (passes as_start)

-- all three are sent again; the first one is a repeat
abbrev lived : List Event
lived =
    gone_back ++ sends_again 2 ++ sends_again 2 ++ begins_again ∷ [] ++ lands 2 repeats ++
    lands 2 accepts ++ accepts ∷ acknowledges 3 ∷ []

abbrev three_packets : List Weight
three_packets = request 2 ∷ request 2 ∷ tret ∷ []

sent_three-walked : walked 34 sent_three ≡
    record {
      reached = record {
        first = three_packets;
        acked = 0;
        last = 3;
        left = 0;
        clears = 32;
        line = part 1 0 1 ∷ part 1 1 0 ∷ part 2 0 1 ∷ part 2 1 0 ∷ part 3 0 0 ∷ [];
        before = clear;
        far = between;
        accepted = 0;
        clear_run = 32;
        start_run = 0;
      };
      might = true;
    }
sent_three-walked = refl

changed_two-walked : walked 34 changed_two ≡
    record {
      reached = record {
        first = three_packets;
        acked = 0;
        last = 3;
        left = 0;
        clears = 32;
        line = [];
        before = part 3 0 0;
        far = aborting;
        accepted = 1;
        clear_run = 0;
        start_run = 0;
      };
      might = true;
    }
changed_two-walked = refl

gone_back-walked : walked 34 gone_back ≡
    record {
      reached = record {
        first = three_packets;
        acked = 0;
        last = 0;
        left = 0;
        clears = 64;
        line = [];
        before = filler start;
        far = between;
        accepted = 1;
        clear_run = 0;
        start_run = 32;
      };
      might = true;
    }
gone_back-walked = refl

lived-walked : walked 34 lived ≡
    record {
      reached = record {
        first = three_packets;
        acked = 3;
        last = 3;
        left = 0;
        clears = 64;
        line = [];
        before = part 3 0 0;
        far = between;
        accepted = 3;
        clear_run = 0;
        start_run = 0;
      };
      might = true;
    }
lived-walked = refl

-- as a list of requests and responses, before and after the loss
places-sent_three : places (walked 34 sent_three).reached ≡ 1 ∷ 2 ∷ []
places-sent_three = refl

places-changed_two : places (walked 34 changed_two).reached ≡ 2 ∷ []
places-changed_two = refl

-- its events might come, in the order of the laws too
lived-MayAll : MayAll 34 (onto lived [])
lived-MayAll = all_might 34 lived refl

-- Cut-through: the packet has its number before its first flit, which comes later

abbrev begun_through : List Event
begun_through = opened ++ begins_through (request 3) ∷ rests ∷ []

begun_through-walked : walked 34 begun_through ≡
    record {
      reached = record {
        first = request 3 ∷ [];
        acked = 0;
        last = 1;
        left = 3;
        clears = 32;
        line = [];
        before = clear;
        far = between;
        accepted = 0;
        clear_run = 32;
        start_run = 0;
      };
      might = true;
    }
begun_through-walked = refl

begun_through-line : (walked 34 (begun_through ++ replicate 3 goes_on)).reached.line ≡ part 1 0 2 ∷ part 1 1 1 ∷ part 1 2 0 ∷ []
begun_through-line = refl

-- Events that may not come

-- before a receiver has seen 24 Clears it accepts nothing, and it does not leave Abort
no_accept_in_abort : MayNot 34 (opened ++ sends_new 1 ++ unlocks ∷ []) accepts
no_accept_in_abort = refused refl

no_early_opening : MayNot 34 (trained ++ clears_sent ++ replicate 22 (drops as_clear)) opens
no_early_opening = refused refl

-- a packet is begun only where the one before it is sent whole, outside a burst, and with room in the retry buffer
no_second_packet : MayNot 34 (opened ++ begins (request 2) ∷ []) (begins (request 2))
no_second_packet = refused refl

no_packet_in_burst : MayNot 34 (opened ++ sends_clear ∷ []) (begins (request 2))
no_packet_in_burst = refused refl

no_packet_without_room : MayNot 34 (opened ++ sends_new 17 ++ sends_new 17) (begins (request 1))
no_packet_without_room = refused refl

-- while kept packets are to be sent again, none is begun for the first time
no_packet_before_kept : MayNot 34 gone_back (begins (request 1))
no_packet_before_kept = refused refl

-- nothing is sent again where the sender has not gone back
no_packet_again : MayNot 34 sent_three begins_again
no_packet_again = refused refl

-- no Clear, NULL or PRET is sent within a packet, and no training flit after a Clear
no_clear_within : MayNot 34 (opened ++ begins (request 2) ∷ []) sends_clear
no_clear_within = refused refl

no_pret_within : MayNot 34 (opened ++ begins (request 2) ∷ []) (sends_filler pret)
no_pret_within = refused refl

no_training_later : MayNot 34 opened (sends_filler train)
no_training_later = refused refl

-- more than what is accepted is not acknowledged
no_early_acknowledgement : MayNot 34 changed_two (acknowledges 2)
no_early_acknowledgement = refused refl

-- a receiver that holds a changed flit accepts nothing
no_accept_of_changed : MayNot 34 (sent_three ++ spoils true ∷ []) accepts
no_accept_of_changed = refused refl
