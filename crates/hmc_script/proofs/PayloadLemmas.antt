-- What the payload of each command is.
use Rattle.std.proofs.Common.{◌≡◌, ◌≤◌, ℕ, true, false, Option, Some, None, IfSome, Result, Ok, Err, IfOk, List, [], length, refl, sym, ap, subst, arith, lit≤, lit<}
use Rattle.hmc_codes.specs.Bytes.{IsBytes}
use Rattle.hmc_codes.specs.Table.{table_line}
use Rattle.hmc_codes.specs.Commands.{payload_len_of}
use Rattle.hmc_codes.specs.Text.{is_mdwr}
use Rattle.hmc_codes.specs.declared.command.Command.{Command}
use Rattle.hmc_codes.specs.declared.command.Command.TheVariants.{Null, Mdwr}
use Rattle.hmc_script.specs.declared.fault.ScriptKind.{ScriptKind}
use Rattle.hmc_script.specs.Payload.{IsPayload, value_bytes}

pub is_mdwr-only : (command : Command) → is_mdwr command ≡ true → command ≡ Mdwr
is_mdwr-only Mdwr is = refl
is_mdwr-only _ is = cc

pub payload_len_of-le : (command : Command) → payload_len_of command ≤ 256
unfolding table_line
payload_len_of-le Null = lit≤ tt
payload_len_of-le _ = lit≤ tt

pub payload_of_another : {X : Type 0} (view : X → List ℕ) (command : Command) (r : Option X) → is_mdwr command ≡ false → IfSome r (λ p. length (view p) ≡ payload_len_of command) → IfSome r (λ p. IsBytes (view p)) → IfSome r (λ p. IsPayload command (view p))
payload_of_another view command None other long bytes = tt
payload_of_another view command (Some p) other long bytes =
    record { length = long; bytes = bytes; zeros = λ is. absurd (cc (ap is_mdwr is, other)) }

pub payload_of_mdwr : {X : Type 0} (view : X → List ℕ) (command : Command) (r : Option X) → command ≡ Mdwr → IfSome r (λ p. IsPayload Mdwr (view p)) → IfSome r (λ p. IsPayload command (view p))
payload_of_mdwr view command r is fits = rw is fits

pub len_of_mdwr : payload_len_of Mdwr ≡ 16
unfolding table_line
len_of_mdwr = refl

pub IsPayload-[] : (command : Command) → payload_len_of command ≡ 0 → IsPayload command []
IsPayload-[] command none =
    record { length = sym none; bytes = λ k. lit< tt; zeros = λ is. absurd (omega (arith, ap payload_len_of is, none, len_of_mdwr)) }

pub value_fits : (value : ℕ) (bytes : List ℕ) → bytes ≡ value_bytes value → IsBytes bytes → IsPayload Mdwr bytes
value_fits value bytes is are =
    let all : IsBytes (value_bytes value) = subst IsBytes is are in
    rw is record { length = sym len_of_mdwr; bytes = all; zeros = λ _. refl }

-- a payload that was read is a payload, and is short
pub short_payload : (command : Command) (bytes : List ℕ) → IsPayload command bytes → length bytes ≤ 256
short_payload command bytes is = rw is.length (payload_len_of-le command)

pub empty_fits : {X : Type 0} (view : X → List ℕ) (command : Command) (r : Result X ScriptKind) → payload_len_of command ≡ 0 → IfOk r (λ p. view p ≡ []) → IfOk r (λ p. IsPayload command (view p))
empty_fits view command (Ok p) none empty = rw empty (IsPayload-[] command none)
empty_fits view command (Err kind) none empty = tt
