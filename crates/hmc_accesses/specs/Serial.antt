-- Requests that a plain machine performs in order.
use Rattle.std.specs.Prelude.{List, [], ◌∷◌}
use Rattle.hmc_codes.specs.Request.{RequestFields}
use Rattle.hmc_codes.specs.declared.answer.Answer.{Answer}
use Rattle.hmc_serial.specs.Machine.{State, apply, answer_to}

-- what they leave of it
abbrev pub machine_after : State → List RequestFields → State
machine_after state [] = state
machine_after state (request ∷ requests) = machine_after (apply state request) requests

-- their answers
abbrev pub answers_to : State → List RequestFields → List Answer
answers_to state [] = []
answers_to state (request ∷ requests) =
    answer_to state request ∷ answers_to (apply state request) requests
