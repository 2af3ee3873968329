-- The flits that came are in the pipe, one after the other.
use Rattle.std.proofs.Common.{◌≡◌, ◌≤◌, ◌-◌, ◌∙◌, ℕ, None, List, [], ◌∷◌, ◌++◌, length, get_or, take, drop, sym, ap, arith, length-drop}
use Rattle.std.specs.Prelude.{slice_index_or}
use Rattle.std.proofs.lemmas.List.{length-take, length-take-le, take_all, take_more}
use Rattle.hmc_codes.specs.declared.profile.Profile.{Profile}
use Rattle.hmc_packet.specs.Parts.{lng_of}
use Rattle.hmc_through.specs.Pipe.{PipeFields}
use Rattle.hmc_kept.proofs.forwarding.pipe_of.Goals as goal

abbrev pipe_with : ℕ → Profile → List (List ℕ) → PipeFields
pipe_with flits profile came = record { flits = flits; profile = profile; came = came; good = None }

-- the flits after the first one
abbrev rest_of : List (List ℕ) → List (List ℕ)
rest_of came = take (length came - 1) (drop 1 came)

all_flits : (came : List (List ℕ)) (i : ℕ) → 1 ≤ length came → length (rest_of came) ≤ i → slice_index_or came 0 [] ∷ take i (rest_of came) ≡ came
all_flits [] i some most = absurd (omega arith)
all_flits (first ∷ rest) i some most = ap (λ (l : List (List ℕ)). first ∷ l) (take_all i (rest_of (first ∷ rest)) most ∙ take_all (length (first ∷ rest) - 1) rest (omega arith))

pub loop-flit-init : goal.loop-flit-init
loop-flit-init c = c.new-pipe.ensures ∙ ap (λ (n : ℕ). pipe_with n c.args.profile (slice_index_or c.args.came.now 0 [] ∷ [])) c.lng_of.ensures

pub more-requires-clause-open : goal.more-requires-clause-open
more-requires-clause-open c = ap (λ (p : PipeFields). p.good) c.loop-flit.invariant

pub more-requires-clause-room : goal.more-requires-clause-room
more-requires-clause-room c =
    let came = ap (λ (p : PipeFields). length p.came) c.loop-flit.invariant in
    let flits = ap (λ (p : PipeFields). p.flits) c.loop-flit.invariant in
    let taken = length-take-le c.loop-flit.flit-index (rest_of c.args.came.now) (omega arith) in
    omega (arith, came, flits, taken, length-take (length c.args.came.now - 1) (drop 1 c.args.came.now), length-drop 1 c.args.came.now, c.requires.more)

pub loop-flit-preserved : goal.loop-flit-preserved
loop-flit-preserved c =
    let first = slice_index_or c.args.came.now 0 [] in
    c.more.ensures
    ∙ ap (λ (p : PipeFields). record p { came = p.came ++ get_or (rest_of c.args.came.now) c.loop-flit.flit-index [] ∷ [] }) c.loop-flit.invariant
    ∙ ap (λ (l : List (List ℕ)). pipe_with (lng_of first) c.args.profile (first ∷ l)) (sym (take_more (rest_of c.args.came.now) c.loop-flit.flit-index [] c.loop-flit-test.true))

pub returns : goal.returns
returns c =
    c.loop-flit.invariant
    ∙ ap (pipe_with (lng_of (slice_index_or c.args.came.now 0 [])) c.args.profile) (all_flits c.args.came.now c.loop-flit.flit-index c.requires.some c.loop-flit-test.false)
