-- The cubes and links of a case, and what is known of a part once it is read.
use Rattle.std.proofs.Common.{◌≡◌, ℕ, List, [], ◌∷◌, ◌++◌, Result, Ok, Err, IfOk, OnOk, subst}
use Rattle.hmc_codes.specs.Link.{IsLinkSetup}
use Rattle.hmc_case.proofs.GraphLemmas.{links-more}
use Rattle.hmc_case.specs.Graph.{AreLinks}
use Rattle.hmc_case.specs.Places.{IsNewJoin}
use Rattle.hmc_case.specs.Reading.{in_section}
use Rattle.hmc_case.specs.declared.fault.CaseKind.{CaseKind}
use Rattle.hmc_case.specs.declared.fault.Section.{Section}
use Rattle.hmc_case.specs.declared.setup.LinkRow.{LinkRow}

-- what was read without a fault
pub read-ok : {A : Type 0} (section : Section) (line : ℕ) (read : Result A CaseKind) (x : A) → in_section section line read ≡ Ok x → read ≡ Ok x
read-ok section line (Ok y) x is = cc
read-ok section line (Err fault) x is = absurd (let clash : ⊥ = cc in clash)

-- what holds where it was read without a fault
pub holds-ok : {A : Type 0} (P : Type 0) (section : Section) (line : ℕ) (read : Result A CaseKind) (x : A) → in_section section line read ≡ Ok x → OnOk read P → P
holds-ok P section line (Ok y) x is holds = holds
holds-ok P section line (Err fault) x is holds = absurd (let clash : ⊥ = cc in clash)

-- one link more was read
pub links-read : (section : Section) (line cubes : ℕ) (seen links new : List LinkRow) (read : Result LinkRow CaseKind) (link : LinkRow) → seen ≡ links → in_section section line read ≡ Ok link →
    IfOk read (λ (row : LinkRow). IsNewJoin cubes seen row.join) → IfOk read (λ (row : LinkRow). IsLinkSetup row.setup) → new ≡ links ++ link ∷ [] → AreLinks cubes links → AreLinks cubes new
links-read section line cubes seen links new read link same is join setup grown are =
    let got = read-ok section line read link is in
    let P : Result LinkRow CaseKind → Type 0 = λ r. IfOk r (λ (row : LinkRow). IsNewJoin cubes seen row.join) in
    let Q : Result LinkRow CaseKind → Type 0 = λ r. IfOk r (λ (row : LinkRow). IsLinkSetup row.setup) in
    let new_join : IsNewJoin cubes seen link.join = subst P got join in
    links-more cubes links new link grown (subst (λ (ls : List LinkRow). IsNewJoin cubes ls link.join) same new_join) (subst Q got setup) are
