-- The payload of a request by numbers.
use Rattle.std.proofs.Common.{◌≡◌, ◌∙◌, ℕ, List, ◌++◌, length, take, drop, replicate, sym, ap, subst, arith}
use Rattle.std.proofs.lemmas.List.{length-append, length-take}
use Rattle.std.proofs.Math.Seq.{drop-append_seam}
use Rattle.hmc_codes.specs.Bytes.{IsBytes}
use Rattle.hmc_codes.specs.Commands.{payload_len_of}
use Rattle.hmc_codes.specs.declared.command.Command.{Command}
use Rattle.hmc_codes.specs.declared.command.Command.TheVariants.{Mdwr}
use Rattle.hmc_script.proofs.PayloadLemmas.{len_of_mdwr}
use Rattle.hmc_script.specs.Payload.{IsPayload}
use Rattle.hmc_c.specs.Requests.{payload_by}

four : (bytes : List ℕ) → length bytes ≡ 16 → length (take 4 bytes) ≡ 4
four bytes long = omega (arith, length-take 4 bytes, long)

zeros_after : (bytes : List ℕ) → length bytes ≡ 16 →
    drop 4 (take 4 bytes ++ replicate 12 0) ≡ replicate 12 0
zeros_after bytes long =
    subst (λ (n : ℕ). drop n (take 4 bytes ++ replicate 12 0) ≡ replicate 12 0) (four bytes long)
    (drop-append_seam (take 4 bytes) (replicate 12 0))

-- of an mdwr the value and zeros
pub value_fits : (command : Command) (bytes : List ℕ) → command ≡ Mdwr →
    length bytes ≡ payload_len_of command → IsBytes (take 4 bytes ++ replicate 12 0) →
    IsPayload command (payload_by command bytes)
value_fits command bytes is long are =
    let whole : length bytes ≡ 16 = long ∙ ap payload_len_of is ∙ len_of_mdwr in
    subst (λ (c : Command). IsPayload c (payload_by c bytes)) (sym is) (record {
      length =
          omega (arith, len_of_mdwr, length-append (take 4 bytes) (replicate 12 0), four bytes whole);
      bytes = are;
      zeros = λ _. zeros_after bytes whole;
    })
