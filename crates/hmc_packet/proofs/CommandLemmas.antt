-- What holds of each command, since each line of the table passes a test.
use Rattle.std.proofs.Common.{◌≡◌, ◌∙◌, ◌≤◌, ◌<◌, ◌+◌, ◌/◌, ◌%◌, ◌^◌, ℕ, Bool, true, false, eqb, Option, Some, List, [], ◌∷◌, find, refl, sym, ap, subst, cond, arith, inl, inr}
use Rattle.std.specs.Prelude.{nat_le, nat_lt, ◌&&◌, ◌||◌, ◌==◌, not}
use Rattle.std.proofs.lemmas.Bool.{eqb-true, eq-eqb, leb-true, ltb-true, and_parts, or_cases}
use Rattle.hmc_codes.specs.Table.{Line, table_line}
use Rattle.hmc_codes.specs.Commands.{code_of, layout_of, allows_of, permits, payload_of_length, payload_len_of, is_ask, is_flow}
use Rattle.hmc_codes.specs.declared.layout.Layout.{Layout}
use Rattle.hmc_codes.specs.declared.layout.Layout.TheVariants as layouts
use Rattle.hmc_codes.specs.declared.length.Length.{Length}
use Rattle.hmc_codes.specs.declared.length.Length.TheVariants.{Fixed, Data}
use Rattle.hmc_codes.specs.declared.command.Command.{Command}
use Rattle.hmc_codes.specs.declared.command.Command.TheVariants.{Null}
use Rattle.hmc_codes.specs.Codes.{all_commands, command_of}
use Rattle.hmc_codes.proofs.Codes.{command_of-code_of}

-- each of the list passes the test
each : (Line → Bool) → List Command → Bool
each test [] = true
each test (c ∷ rest) = test (table_line c) && each test rest

passed-found : (test : Line → Bool) (d : Command) (c : Command) (later : Option Command) (b : Bool) → test (table_line d) ≡ true → (later ≡ Some c → test (table_line c) ≡ true) → cond b (Some d) later ≡ Some c → test (table_line c) ≡ true
passed-found test d c later true here after found =
    let same : d ≡ c = cc in
    subst (λ (e : Command). test (table_line e) ≡ true) same here
passed-found test d c later false here after found = after found

passed : (test : Line → Bool) (code : ℕ) (cs : List Command) (c : Command) → each test cs ≡ true → find (λ d. code_of d == code) cs ≡ Some c → test (table_line c) ≡ true
unfolding each
passed test code [] c all is = absurd cc
passed test code (d ∷ rest) c all is =
    let parts = and_parts (test (table_line d)) (each test rest) all in
    passed-found test d c (find (λ e. code_of e == code) rest) (eqb (code_of d) code) parts.0 (passed test code rest c parts.1) is

-- a test that each line of the table passes
everywhere : (test : Line → Bool) → each test all_commands ≡ true → (c : Command) → test (table_line c) ≡ true
unfolding command_of
everywhere test all c = passed test (code_of c) all_commands c all (command_of-code_of c)

-- ---- what the lines pass

is_short : Length → Bool
is_short (Fixed n) = nat_le 1 n && nat_le n 17
is_short Data = true

all_short : each (λ line. is_short line.flits) all_commands ≡ true
unfolding each all_commands table_line is_short
all_short = refl

permits_few : (length : Length) (n : ℕ) → is_short length ≡ true → permits length n ≡ true → (1 ≤ n) × (n ≤ 17)
unfolding is_short
permits_few (Fixed k) n short is =
    let parts = and_parts (nat_le 1 k) (nat_le k 17) short in
    let low = leb-true 1 k parts.0 in
    let high = leb-true k 17 parts.1 in
    let same = eqb-true n k is in
    (omega arith, omega arith)
permits_few Data n short is =
    elim (or_cases (nat_le 2 n && nat_le n 9) (n == 17) is) [
      | inl few ↦
          let parts = and_parts (nat_le 2 n) (nat_le n 9) few in
          let low = leb-true 2 n parts.0 in
          let high = leb-true n 9 parts.1 in
          (omega arith, omega arith)
      | inr many ↦
          let same = eqb-true n 17 many in
          (omega arith, omega arith)
    ]

-- no packet has fewer than one flit, or more than 17
pub allows_few : (c : Command) (n : ℕ) → allows_of c n ≡ true → (1 ≤ n) × (n ≤ 17)
allows_few c n is = permits_few (table_line c).flits n (everywhere (λ line. is_short line.flits) all_short c) is

all_small : each (λ line. nat_lt line.code 128) all_commands ≡ true
unfolding each all_commands table_line
all_small = refl

-- a code fits seven bits
pub code_of-lt : (c : Command) → code_of c < 2 ^ 7
code_of-lt c = ltb-true (code_of c) 128 (everywhere (λ line. nat_lt line.code 128) all_small c)

is_nonempty : Length → Bool
is_nonempty (Fixed n) = nat_le 1 n
is_nonempty Data = false

all_asks : each (λ line. not (is_ask line.layout) || is_nonempty line.flits) all_commands ≡ true
unfolding each all_commands table_line is_nonempty
all_asks = refl

-- of a test on requests
ask_passes : (layout : Layout) (b : Bool) → layout ≡ layouts.Ask → (not (is_ask layout) || b) ≡ true → b ≡ true
ask_passes layouts.Ask b is passes = passes
ask_passes layouts.Reply b is passes = absurd cc
ask_passes layouts.Null b is passes = absurd cc
ask_passes layouts.Pret b is passes = absurd cc
ask_passes layouts.Tret b is passes = absurd cc
ask_passes layouts.Irtry b is passes = absurd cc

ask_is_nonempty : (c : Command) → layout_of c ≡ layouts.Ask → is_nonempty (table_line c).flits ≡ true
ask_is_nonempty c asks =
    ask_passes (layout_of c) (is_nonempty (table_line c).flits) asks (everywhere (λ line. not (is_ask line.layout) || is_nonempty line.flits) all_asks c)

payload_from : (length : Length) (n : ℕ) → is_nonempty length ≡ true → n % 16 ≡ 0 → permits length (1 + n / 16) ≡ true → n ≡ payload_of_length length
unfolding is_nonempty
payload_from (Fixed k) n one whole is = let same : 1 + n / 16 ≡ k = eqb-true (1 + n / 16) k is in omega arith
payload_from Data n one whole is = absurd cc

payload_to : (length : Length) (n : ℕ) → is_nonempty length ≡ true → n ≡ payload_of_length length → (n % 16 ≡ 0) × (permits length (1 + n / 16) ≡ true)
unfolding is_nonempty
payload_to (Fixed k) n one is =
    let low = leb-true 1 k one in
    (omega arith, eq-eqb (1 + n / 16) k (omega arith))
payload_to Data n one is = absurd cc

-- a request's payload has the length of the table
pub ask-payload : (c : Command) (n : ℕ) → layout_of c ≡ layouts.Ask → n % 16 ≡ 0 → allows_of c (1 + n / 16) ≡ true → n ≡ payload_len_of c
ask-payload c n asks whole is = payload_from (table_line c).flits n (ask_is_nonempty c asks) whole is

-- and with that length it is a packet's
pub ask-allows : (c : Command) (n : ℕ) → layout_of c ≡ layouts.Ask → n ≡ payload_len_of c → (n % 16 ≡ 0) × (allows_of c (1 + n / 16) ≡ true)
ask-allows c n asks is = payload_to (table_line c).flits n (ask_is_nonempty c asks) is

is_one : Length → Bool
is_one (Fixed n) = n == 1
is_one Data = false

all_flows : each (λ line. not (is_flow line.layout) || is_one line.flits) all_commands ≡ true
unfolding each all_commands table_line is_one
all_flows = refl

flow_passes : (flow b : Bool) → flow ≡ true → (not flow || b) ≡ true → b ≡ true
flow_passes true b is passes = passes
flow_passes false b is passes = absurd cc

permits_one : (length : Length) (n : ℕ) → is_one length ≡ true → permits length n ≡ true → n ≡ 1
unfolding is_one
permits_one (Fixed k) n one is = eqb-true n k is ∙ eqb-true k 1 one
permits_one Data n one is = absurd cc

-- a flow packet is one flit
pub flow-one : (c : Command) (n : ℕ) → is_flow (layout_of c) ≡ true → allows_of c n ≡ true → n ≡ 1
flow-one c n flows is =
    permits_one (table_line c).flits n
    (flow_passes (is_flow (layout_of c)) (is_one (table_line c).flits) flows (everywhere (λ line. not (is_flow line.layout) || is_one line.flits) all_flows c))
    is

is_null_layout : Layout → Bool
is_null_layout layouts.Null = true
is_null_layout _ = false

all_nulls : each (λ line. not (is_null_layout line.layout) || (line.code == 0)) all_commands ≡ true
unfolding each all_commands table_line is_null_layout
all_nulls = refl

is_null_layout-is : (layout : Layout) → layout ≡ layouts.Null → is_null_layout layout ≡ true
unfolding is_null_layout
is_null_layout-is layouts.Null is = refl
is_null_layout-is layouts.Ask is = absurd cc
is_null_layout-is layouts.Reply is = absurd cc
is_null_layout-is layouts.Pret is = absurd cc
is_null_layout-is layouts.Tret is = absurd cc
is_null_layout-is layouts.Irtry is = absurd cc

code_zero : command_of 0 ≡ Some Null
unfolding all_commands command_of table_line
code_zero = refl

-- code 0 is that of NULL alone
pub code_zero-null : (c : Command) → code_of c ≡ 0 → c ≡ Null
code_zero-null c is = let both : Some c ≡ Some Null = sym (command_of-code_of c) ∙ ap command_of is ∙ code_zero in cc

-- and no other command has NULL's layout
pub null_layout-null : (c : Command) → layout_of c ≡ layouts.Null → c ≡ Null
null_layout-null c is =
    code_zero-null c (eqb-true (code_of c) 0 (flow_passes (is_null_layout (layout_of c)) (code_of c == 0) (is_null_layout-is (layout_of c) is)
    (everywhere (λ line. not (is_null_layout line.layout) || (line.code == 0)) all_nulls c)))

pub layout_of-null : layout_of Null ≡ layouts.Null
unfolding table_line
layout_of-null = refl

pub code_of-null : code_of Null ≡ 0
unfolding table_line
code_of-null = refl
