-- The three tests on bytes, passed.
use Rattle.std.proofs.Common.{◌≡◌, ◌∙◌, ℕ, Bool, true, false, cond, eqb, Option, Some, None, Result, Ok, Err, List, refl, sym, ap, subst}
use Rattle.std.specs.Prelude.{◌&&◌, not}
use Rattle.std.specs.Option.{ok_or}
use Rattle.std.proofs.lemmas.Bool.{eq-eqb, ne_eqb, and_parts, not-true}
use Rattle.hmc_codes.specs.declared.profile.Profile.{Profile}
use Rattle.hmc_codes.specs.Commands.{code_of, layout_of, allows_of}
use Rattle.hmc_codes.specs.declared.command.Command.{Command}
use Rattle.hmc_crc.specs.Remainder.{crc_of}
use Rattle.hmc_packet.specs.declared.bad.Bad.{Bad}
use Rattle.hmc_packet.specs.declared.bad.Bad.TheVariants as bads
use Rattle.hmc_packet.specs.declared.seen.Seen.{Seen}
use Rattle.hmc_packet.specs.Bits.{bits_from}
use Rattle.hmc_codes.specs.Codes.{command_of}
use Rattle.hmc_packet.specs.Header.{header_is_clean}
use Rattle.hmc_packet.specs.Tail.{tail_is_clean}
use Rattle.hmc_packet.specs.Parts.{header_in, tail_in, check_in, covered_in}
use Rattle.hmc_packet.specs.Reading.{fitting, command_in, is_clean, poison_in, seen_in, ◌>>=◌, judgement_of, bytes_read}
use Rattle.hmc_codes.proofs.Codes.{command_of-code, command_of-code_of}

-- ---- the command

-- what a header names
pub record Names (header : ℕ) (command : Command) : Type 0 where
  pub code : bits_from 0 7 header ≡ code_of command
  pub some : (code_of command ≡ 0 → ⊥)
  pub allowed : allows_of command (bits_from 7 5 header) ≡ true

kept_if : (test : Bool) (found command : Command) → cond test (Some found) None ≡ Some command → (test ≡ true) × (found ≡ command)
kept_if true found command is = (refl, cc)
kept_if false found command is = absurd cc

fitting-is : (code lng : ℕ) (found : Option Command) (command : Command) → fitting code lng found ≡ Some command → (found ≡ Some command) × (eqb code 0 ≡ false) × (allows_of command lng ≡ true)
unfolding fitting
fitting-is code lng None command is = absurd cc
fitting-is code lng (Some found) command is =
    let k = kept_if (not (eqb code 0) && allows_of found lng) found command is in
    let both = and_parts (not (eqb code 0)) (allows_of found lng) k.0 in
    (ap Some k.1, not-true (eqb code 0) both.0, subst (λ (c : Command). allows_of c lng ≡ true) k.1 both.1)

pub command_in-Names : (header : ℕ) (command : Command) → command_in header ≡ Some command → Names header command
unfolding command_in
command_in-Names header command is =
    let f = fitting-is (bits_from 0 7 header) (bits_from 7 5 header) (command_of (bits_from 0 7 header)) command is in
    let code : code_of command ≡ bits_from 0 7 header = command_of-code (bits_from 0 7 header) command f.0 in
    record {
      code = sym code;
      some = λ zero. let test : eqb (bits_from 0 7 header) 0 ≡ true = eq-eqb (bits_from 0 7 header) 0 (sym code ∙ zero) in absurd cc;
      allowed = f.2;
    }

pub Names-command_in : (header : ℕ) (command : Command) → Names header command → command_in header ≡ Some command
unfolding command_in fitting
Names-command_in header command names =
    let found : command_of (bits_from 0 7 header) ≡ Some command = ap command_of names.code ∙ command_of-code_of command in
    let code : eqb (bits_from 0 7 header) 0 ≡ false = ne_eqb (bits_from 0 7 header) 0 (λ zero. names.some (sym names.code ∙ zero)) in
    let allowed = names.allowed in
    rw (found, code, allowed) refl

-- ---- all three

pub record Passes (profile : Profile) (bytes : List ℕ) (command : Command) (poisoned : Bool) : Type 0 where
  pub names : command_in (header_in bytes) ≡ Some command
  pub header : header_is_clean (layout_of command) (header_in bytes) ≡ true
  pub tail : tail_is_clean profile (layout_of command) (tail_in bytes) ≡ true
  pub check : poison_in (layout_of command) (check_in bytes) (crc_of (covered_in bytes)) ≡ Some poisoned

pub Passes-judgement_of : (profile : Profile) → (bytes : List ℕ) (command : Command) (poisoned : Bool) → Passes profile bytes command poisoned → judgement_of profile bytes ≡ Ok (command, poisoned)
unfolding judgement_of is_clean
Passes-judgement_of profile bytes command poisoned passes =
    rw (passes.names, passes.header, passes.tail, passes.check) refl

-- the value of a step that did not fail
bind_ok : {A B : Type 0} (r : Result A Bad) (f : A → Result B Bad) (y : B) → (r >>= f) ≡ Ok y → (x : A) × (r ≡ Ok x) × (f x ≡ Ok y)
bind_ok (Ok x) f y e = (x, refl, e)
bind_ok (Err d) f y e = absurd cc

ok_or-is : {A : Type 0} (o : Option A) (bad : Bad) (x : A) → ok_or o bad ≡ Ok x → o ≡ Some x
ok_or-is None bad x e = absurd cc
ok_or-is (Some y) bad x e = cc

guard_ok : {A : Type 0} (b : Bool) (d : Bad) (r : Result A Bad) (y : A) → cond b r (Err d) ≡ Ok y → (b ≡ true) × (r ≡ Ok y)
guard_ok true d r y e = (refl, e)
guard_ok false d r y e = absurd cc

abbrev done : {A : Type 0} → A → Result A Bad
done x = Ok x

done_is : {A : Type 0} (x y : A) → done x ≡ done y → x ≡ y
done_is x y e = cc

pair_is : (c d : Command) (a b : Bool) → done {A = Command × Bool} (c, a) ≡ done {A = Command × Bool} (d, b) → (c ≡ d) × (a ≡ b)
pair_is c d a b e =
    let x : Command × Bool = (c, a) in
    let y : Command × Bool = (d, b) in
    let same : x ≡ y = done_is x y e in
    (ap (λ (p : Command × Bool). p.0) same, ap (λ (p : Command × Bool). p.1) same)

pub judgement_of-Passes : (profile : Profile) → (bytes : List ℕ) (command : Command) (poisoned : Bool) → judgement_of profile bytes ≡ Ok (command, poisoned) → Passes profile bytes command poisoned
unfolding judgement_of is_clean
judgement_of-Passes profile bytes command poisoned is =
    let a = bind_ok (ok_or (command_in (header_in bytes)) bads.Command)
    (λ c. cond (is_clean profile (layout_of c) bytes) (ok_or (poison_in (layout_of c) (check_in bytes) (crc_of (covered_in bytes))) bads.Crc) (Err bads.Reserved) >>= λ p. Ok (c, p)) (command, poisoned) is in
    let b = bind_ok (cond (is_clean profile (layout_of a.0) bytes) (ok_or (poison_in (layout_of a.0) (check_in bytes) (crc_of (covered_in bytes))) bads.Crc) (Err bads.Reserved)) (λ p. Ok (a.0, p)) (command, poisoned) a.2 in
    let same = pair_is a.0 command b.0 poisoned b.2 in
    let g = guard_ok (is_clean profile (layout_of a.0) bytes) bads.Reserved (ok_or (poison_in (layout_of a.0) (check_in bytes) (crc_of (covered_in bytes))) bads.Crc) b.0 b.1 in
    let clean = and_parts (header_is_clean (layout_of a.0) (header_in bytes)) (tail_is_clean profile (layout_of a.0) (tail_in bytes)) g.0 in
    let here : Passes profile bytes a.0 b.0 = record {
      names = ok_or-is (command_in (header_in bytes)) bads.Command a.0 a.1;
      header = clean.0;
      tail = clean.1;
      check = ok_or-is (poison_in (layout_of a.0) (check_in bytes) (crc_of (covered_in bytes))) bads.Crc b.0 g.1;
    } in
    subst (λ (c : Command). Passes profile bytes c poisoned) same.0 (subst (λ (p : Bool). Passes profile bytes a.0 p) same.1 here)

pub bytes_read-ok : (profile : Profile) → (bytes : List ℕ) (command : Command) (poisoned : Bool) → Passes profile bytes command poisoned → bytes_read profile bytes ≡ Ok (seen_in profile command poisoned bytes)
unfolding bytes_read
bytes_read-ok profile bytes command poisoned passes = rw (Passes-judgement_of profile bytes command poisoned passes) refl

pub bytes_read-Passes : (profile : Profile) → (bytes : List ℕ) (seen : Seen) → bytes_read profile bytes ≡ Ok seen → (command : Command) × (poisoned : Bool) × (Passes profile) bytes command poisoned × (seen_in profile command poisoned bytes ≡ seen)
unfolding bytes_read
bytes_read-Passes profile bytes seen is =
    let a = bind_ok (judgement_of profile bytes) (λ found. Ok (seen_in profile found.0 found.1 bytes)) seen is in
    let same : seen_in profile a.0.0 a.0.1 bytes ≡ seen = cc (a.2) in
    (a.0.0, a.0.1, judgement_of-Passes profile bytes a.0.0 a.0.1 a.1, same)
