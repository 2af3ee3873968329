-- The first four letters of a line show whether it is a final line or that of an entry.
use Rattle.std.proofs.Common.{◌≡◌, ◌≢◌, ◌∙◌, ℕ, Bool, true, false, List, [], ◌∷◌, codes, take, refl, sym, ap}
use Rattle.std.specs.List.{All, list_any}
use Rattle.std.specs.Str.{bytes_eq}
use Rattle.std.proofs.lemmas.List.Elements.{All-weaker}
use Rattle.hmc_codes.specs.declared.counts.Counters.{Counters}
use Rattle.hmc_codes.specs.declared.counts.CubeCounts.{CubeCounts}
use Rattle.hmc_codes.specs.declared.counts.HostCounts.{HostCounts}
use Rattle.hmc_codes.specs.declared.counts.TokenRow.{TokenRow}
use Rattle.hmc_report.specs.Final.{FinalValues, final_lines}
use Rattle.hmc_report.specs.Lines.{memory_line, register_line, token_line, counter_line, host_line, cube_line, state_line}
use Rattle.hmc_entries.specs.declared.entry.Entry.{Entry}
use Rattle.hmc_entries.specs.declared.entry.Entry.TheVariants.{Gave, Sent, Landed, Shifted, Dropped, Spread, Executed, Lifted, Took, Discarded, Through, Unlocked, Retired, Passed, Idle}
use Rattle.hmc_entries.specs.Lines.{line_of}
use Rattle.hmc_texts.proofs.FinalLines.{all_final}

-- the first letters of the final lines
abbrev pub begins_final : List ℕ → Bool
begins_final line = list_any (bytes_eq (take 4 line))
    (codes "memo" ∷ codes "regi" ∷ codes "toke" ∷ codes "coun" ∷ codes "host" ∷ codes "cube" ∷
    codes "stat" ∷ [])

pub entry_begins : (entry : Entry) → begins_final (line_of entry) ≡ false
unfolding line_of
entry_begins (Gave host tag poisoned request) = refl
entry_begins (Sent direction what flit) = refl
entry_begins (Landed direction flit outcome) = refl
entry_begins (Shifted cube port goal) = refl
entry_begins (Dropped cube port) = refl
entry_begins (Spread cube vault bank) = refl
entry_begins (Executed unit host tag request answer) = refl
entry_begins (Lifted cube from port) = refl
entry_begins (Took host tag answer) = refl
entry_begins (Discarded host) = refl
entry_begins (Through cube port direction) = refl
entry_begins (Unlocked direction) = refl
entry_begins (Retired slot) = refl
entry_begins (Passed direction flit) = refl
entry_begins (Idle step cause) = refl

memory_begins : (cube block : ℕ) (bytes : List ℕ) →
    begins_final (memory_line cube block bytes) ≡ true
unfolding memory_line
memory_begins cube block bytes = refl

register_begins : (cube register value : ℕ) →
    begins_final (register_line cube register value) ≡ true
unfolding register_line
register_begins cube register value = refl

token_begins : (direction : ℕ) (row : TokenRow) → begins_final (token_line direction row) ≡ true
unfolding token_line
token_begins direction row = refl

counter_begins : (direction : ℕ) (counters : Counters) →
    begins_final (counter_line direction counters) ≡ true
unfolding counter_line
counter_begins direction counters = refl

host_begins : (host : ℕ) (counts : HostCounts) → begins_final (host_line host counts) ≡ true
unfolding host_line
host_begins host counts = refl

cube_begins : (cube : ℕ) (counts : CubeCounts) → begins_final (cube_line cube counts) ≡ true
unfolding cube_line
cube_begins cube counts = refl

state_begins : (drained : Bool) → begins_final (state_line drained) ≡ true
unfolding state_line
state_begins drained = refl

pub final_begin : (v : FinalValues) → All (λ line. begins_final line ≡ true) (final_lines v)
final_begin v = all_final (λ line. begins_final line ≡ true) (record {
  memory = memory_begins;
  register = register_begins;
  token = token_begins;
  counter = counter_begins;
  host = host_begins;
  cube = cube_begins;
  state = state_begins;
}) v

apart : (entry : Entry) (line : List ℕ) → begins_final line ≡ true → line ≢ line_of entry
apart entry line begins same =
    let clash : true ≡ false = sym begins ∙ ap begins_final same ∙ entry_begins entry in cc

pub not_final : (entry : Entry) (v : FinalValues) →
    All (λ line. line ≢ line_of entry) (final_lines v)
not_final entry v =
    All-weaker (λ (line : List ℕ). begins_final line ≡ true)
    (λ (line : List ℕ). line ≢ line_of entry) (apart entry) (final_lines v) (final_begin v)
