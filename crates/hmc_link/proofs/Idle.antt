-- What the calls leave that had no flit to send or to land. The clauses `idle` cite it.
use Rattle.std.proofs.Common.{◌≡◌, ◌∙◌, ◌-◌, ℕ, Bool, true, not, List, [], ◌∷◌, None, length, drop, refl, sym, ap, arith}
use Rattle.std.specs.Prelude.{slice_get}
use Rattle.hmc_ends.specs.End.{EndFields}
use Rattle.hmc_link.specs.Held.{LinkHeld}
use Rattle.hmc_ends.specs.Landings.{landing_passed, lands_none, removed}
use Rattle.hmc_ends.specs.declared.link_landed.LinkLanded.{LinkLanded}
use Rattle.hmc_ends.specs.declared.link_landed.LinkLanded.TheVariants as links

none-dropped : (line : List (List ℕ)) → None ≡ slice_get line 0 → drop 1 line ≡ line
none-dropped [] is = refl
none-dropped (flit ∷ line) is = absurd (cc)

-- no flit is taken of an empty line
pub line-kept : (e after : EndFields) → None ≡ slice_get e.line 0 → after ≡ record e { line = drop 1 e.line } → after ≡ e
line-kept e after none is = is ∙ ap (λ (line : List (List ℕ)). record e { line = line }) (none-dropped e.line none)

-- where no flit was there, a landing leaves the link as it was
pub landing-kept : (h : LinkHeld) (a b : EndFields) (passed : Bool) (n : ℕ) (landed : LinkLanded) → lands_none landed ≡ true → h.going ≡ true → a ≡ h.a → b ≡ h.b → passed ≡ landing_passed landed → n ≡ h.forth - length (removed landed)
    → record h { a = a; b = b; going = not passed; forth = n } ≡ h
landing-kept h a b passed n links.Empty is going a_is b_is passed_is n_is =
    let same : n ≡ h.forth = omega (arith, n_is) in
    λ i. record { a = a_is i; b = b_is i; going = (ap not passed_is ∙ sym going) i; forth = same i; back = h.back }
landing-kept h a b passed n (links.Passed flit) is going a_is b_is passed_is n_is = absurd (cc)
landing-kept h a b passed n (links.Came flit landed) is going a_is b_is passed_is n_is = absurd (cc)

pub landing-kept-back : (h : LinkHeld) (a b : EndFields) (passed : Bool) (n : ℕ) (landed : LinkLanded) → lands_none landed ≡ true → h.going ≡ true → a ≡ h.a → b ≡ h.b → passed ≡ landing_passed landed → n ≡ h.back - length (removed landed)
    → record h { a = a; b = b; going = not passed; back = n } ≡ h
landing-kept-back h a b passed n links.Empty is going a_is b_is passed_is n_is =
    let same : n ≡ h.back = omega (arith, n_is) in
    λ i. record { a = a_is i; b = b_is i; going = (ap not passed_is ∙ sym going) i; forth = h.forth; back = same i }
landing-kept-back h a b passed n (links.Passed flit) is going a_is b_is passed_is n_is = absurd (cc)
landing-kept-back h a b passed n (links.Came flit landed) is going a_is b_is passed_is n_is = absurd (cc)
