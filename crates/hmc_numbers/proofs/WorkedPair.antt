-- Lists of turns computed: two directions train, and one sends a request with tokens that the
-- other one returned. The retry buffers have 34 flits, and 34 tokens are advertised. Nothing cites
-- this file.
use Rattle.std.proofs.Common.{◌≡◌, ℕ, List, [], ◌∷◌, ◌++◌, Bool, true, false, refl}
use Rattle.std.specs.Prelude.{replicate}
use Rattle.hmc_numbers.specs.Weights.{Weight}
use Rattle.hmc_numbers.specs.Direction.Filler.{null, train}
use Rattle.hmc_numbers.specs.Events.Reading.{plain, as_clear}
use Rattle.hmc_numbers.specs.Events.Event.{sends_filler, sends_clear, begins, goes_on, acknowledges, drops, trains, opens, passes, gathers, accepts}
use Rattle.hmc_numbers.specs.Pair.{Move, Turn}
use Rattle.hmc_numbers.specs.Pair.Move.{does, counts, moves}
use Rattle.hmc_numbers.specs.Pair.Turn.{forth, back}
use Rattle.hmc_numbers.specs.Tokens.{held_tokens, transit_tokens, used_tokens, due_tokens, returning_tokens}
use Rattle.hmc_numbers.specs.Turns.{MayTurns}
use Rattle.hmc_numbers.proofs.Worked.{request, tret}
use Rattle.hmc_numbers.proofs.CheckedPair.{PairWalk, pair_walked, turns_onto, all_turns_might, MayNotTurn, turn_refused}

-- Parts of lists, the oldest turn first

-- both directions send a training flit, and both receivers end Train
abbrev trained : List Turn
trained =
    forth (does (sends_filler train)) ∷ back (does (sends_filler train)) ∷ forth (does trains) ∷
    back (does trains) ∷ []

-- a burst of Clears lands; the return pointers of the 24th and of later ones are taken
abbrev clears_open : (Move → Turn) → List Turn
clears_open d =
    replicate 32 (d (does sends_clear)) ++ replicate 23 (d (does (drops as_clear))) ++
    d (counts opens) ∷ replicate 8 (d (counts (passes as_clear)))

abbrev opened : List Turn
opened = trained ++ clears_open forth ++ clears_open back

-- two TRETs return 32 of the 34 tokens of direction back
abbrev two_trets : List Turn
two_trets =
    opened ++ forth (does (begins tret)) ∷ forth (does (begins tret)) ∷ forth (counts accepts) ∷
    forth (counts accepts) ∷ []

-- a request of two flits goes back; with it the TRETs are acknowledged
abbrev requested : List Turn
requested =
    two_trets ++ back (does (begins (request 2))) ∷ back (does goes_on) ∷ back (does gathers) ∷
    back (counts accepts) ∷ []

-- it leaves the input buffer, and a TRET returns tokens
abbrev two_tokens : Weight
two_tokens = record { flits = 1; token = false; returns = 2 }

abbrev returned : List Turn
returned = requested ++ back (moves 2) ∷ forth (does (begins two_tokens)) ∷ []

-- The five numbers of direction back: held, in transit, used, due, returning

abbrev tokens_back : PairWalk → Bool × List ℕ
tokens_back x =
    let own = x.reached.back in
    let other = x.reached.forth in (
      x.might,
      held_tokens own other ∷ transit_tokens own ∷ used_tokens own ∷ due_tokens 34 own other ∷
          returning_tokens other ∷ [],
    )

opened-tokens_back : tokens_back (pair_walked 34 34 opened) ≡ (true, 0 ∷ 0 ∷ 0 ∷ 34 ∷ 0 ∷ [])
opened-tokens_back = refl

two_trets-tokens_back : tokens_back (pair_walked 34 34 two_trets) ≡ (true, 32 ∷ 0 ∷ 0 ∷ 2 ∷ 0 ∷ [])
two_trets-tokens_back = refl

requested-tokens_back : tokens_back (pair_walked 34 34 requested) ≡ (true, 30 ∷ 0 ∷ 2 ∷ 2 ∷ 0 ∷ [])
requested-tokens_back = refl

returned-tokens_back : tokens_back (pair_walked 34 34 returned) ≡ (true, 30 ∷ 0 ∷ 0 ∷ 2 ∷ 2 ∷ [])
returned-tokens_back = refl

-- before the request lands no TRET is acknowledged, after it both are
acked-two_trets : (pair_walked 34 34 two_trets).reached.forth.direction.acked ≡ 0
acked-two_trets = refl

acked-requested : (pair_walked 34 34 requested).reached.forth.direction.acked ≡ 2
acked-requested = refl

-- its turns might come, in the order of the laws too
returned-MayTurns : MayTurns 34 34 (turns_onto returned [])
returned-MayTurns = all_turns_might 34 34 returned refl

-- Turns that may not come

-- no request without tokens, and no RTC of more tokens than are due
no_request : MayNotTurn 34 34 opened (back (does (begins (request 2))))
no_request = turn_refused refl

no_third_tret : MayNotTurn 34 34 two_trets (forth (does (begins tret)))
no_third_tret = turn_refused refl

-- while the receiver at its end is in Train, a sender sends training flits, and afterwards none
no_clear_in_training : MayNotTurn 34 34 [] (forth (does sends_clear))
no_clear_in_training = turn_refused refl

no_training_later : MayNotTurn 34 34 trained (forth (does (sends_filler train)))
no_training_later = turn_refused refl

-- neither a NULL nor a single IRTRY has a return pointer that is taken
no_pointer_of_null : MayNotTurn 34 34 (opened ++ forth (does (sends_filler null)) ∷ []) (forth (counts (passes plain)))
no_pointer_of_null = turn_refused refl

no_pointer_of_one : MayNotTurn 34 34 (trained ++ forth (does sends_clear) ∷ []) (forth (counts (drops as_clear)))
no_pointer_of_one = turn_refused refl

-- nothing leaves an empty input buffer
no_move : MayNotTurn 34 34 two_trets (back (moves 1))
no_move = turn_refused refl

-- an acknowledgement is no turn of its own
no_acknowledgement : MayNotTurn 34 34 two_trets (forth (does (acknowledges 1)))
no_acknowledgement = turn_refused refl
