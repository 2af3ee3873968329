-- Each script that is read keeps what every script keeps, and names hosts and cubes of its case.
use Rattle.std.proofs.Common.{◌≤◌, ◌<◌, ℕ, nat_lt, Bool, true, false, List, [], ◌∷◌, length, length-append, get_or, codes, arith, ltb-true}
use Rattle.std.specs.List.{All}
use Rattle.std.specs.Str.{bytes_eq}
use Rattle.std.proofs.lemmas.List.Elements.{All-nil, All-cons, All-append}
use Rattle.hmc_codes.specs.Limits.{most_cubes, most_hosts, most_requests}
use Rattle.hmc_codes.specs.Request.{IsRequest}
use Rattle.hmc_text.specs.Reading.{next_word, no_word}
use Rattle.hmc_text.specs.Words.{words_of, is_passed_over}
use Rattle.hmc_text.specs.Lines.{lines_of}
use Rattle.hmc_script.specs.Items.{ItemFields, IsWithin, IsScript}
use Rattle.hmc_script.specs.Meaning.{ask_of, fence_of, statement_of, meaning_of}
use Rattle.hmc_script.specs.Script.{Progress, nothing_yet, after_meaning, after_line, script_of}
use Rattle.hmc_script.specs.declared.fault.ScriptKind.TheVariants as kinds
use Rattle.hmc_script.specs.declared.meaning.Meaning.{Meaning}
use Rattle.hmc_script.specs.declared.meaning.Meaning.TheVariants.{Nothing, Fence, Ask}
use Rattle.hmc_cases.proofs.Reading.{IfRead, value, fault, after, after_any, either, all_lines}
use Rattle.hmc_cases.proofs.Requests.{IsRequestFor, number_known, request_known}

-- a request that a line has is one of the case
abbrev IsMeaning : (hosts cubes : ℕ) → Meaning → Type 0
IsMeaning hosts cubes Nothing = Unit {0}
IsMeaning hosts cubes (Fence host) = Unit {0}
IsMeaning hosts cubes (Ask host poisoned request) = (host < hosts) × IsRequestFor cubes request

fence_known : (hosts cubes host : ℕ) (words : List (List ℕ))
    → IfRead (fence_of host words) (IsMeaning hosts cubes)
unfolding fence_of
fence_known hosts cubes host words = after_any (no_word kinds.Words words) (λ end. value tt)

ask_known : (hosts cubes host : ℕ) (poisoned : Bool) (words : List (List ℕ))
    → cubes ≤ most_cubes → host < hosts
    → IfRead (ask_of cubes host poisoned words) (IsMeaning hosts cubes)
unfolding ask_of
ask_known hosts cubes host poisoned words few within =
    after (request_known cubes words few) (λ request is. value (within, is))

statement_known : (hosts cubes : ℕ) (words : List (List ℕ)) → cubes ≤ most_cubes
    → IfRead (statement_of hosts cubes words) (IsMeaning hosts cubes)
unfolding statement_of
statement_known hosts cubes words few =
    after (number_known kinds.Host hosts words) (λ host within.
    after_any (next_word kinds.Words host.1) (λ second.
    either (bytes_eq second.0 (codes "fence"))
    (λ fence. fence_known hosts cubes host.0 second.1)
    (λ other.
    either (bytes_eq second.0 (codes "poison"))
    (λ poison. ask_known hosts cubes host.0 true second.1 few within)
    (λ plain. ask_known hosts cubes host.0 false host.1 few within))))

meaning_known : (hosts cubes : ℕ) (words : List (List ℕ)) → cubes ≤ most_cubes
    → IfRead (meaning_of hosts cubes words) (IsMeaning hosts cubes)
unfolding meaning_of
meaning_known hosts cubes words few =
    either (is_passed_over words)
    (λ silent. value tt)
    (λ other. statement_known hosts cubes words few)

-- what the lines so far have made: not too many requests, each of them one of the case
record IsProgress (hosts cubes : ℕ) (progress : Progress) : Type 0 where
  few : length progress.items ≤ most_requests
  requests : All (λ item. IsRequest item.request) progress.items
  within : All (IsWithin hosts cubes) progress.items

meaning_keeps : (hosts cubes : ℕ) (progress : Progress) (meaning : Meaning)
    → IsProgress hosts cubes progress → IsMeaning hosts cubes meaning
    → IfRead (after_meaning progress meaning) (IsProgress hosts cubes)
unfolding after_meaning
meaning_keeps hosts cubes progress Nothing is good = value is
meaning_keeps hosts cubes progress (Fence host) is good =
    value (record { few = is.few; requests = is.requests; within = is.within })
meaning_keeps hosts cubes progress (Ask host poisoned request) is good =
    let IsGood : ItemFields → Type 0 = λ item. IsRequest item.request in
    let Within = IsWithin hosts cubes in
    let items = progress.items in
    let item : ItemFields = record {
      host = host;
      fenced = get_or progress.fences host false;
      poisoned = poisoned;
      request = request;
    } in
    let one = item ∷ [] in
    let is_good = All-cons IsGood item [] good.1.good (All-nil IsGood) in
    let within : Within item = record { host = good.0; cube = good.1.within } in
    let is_within = All-cons Within item [] within (All-nil Within) in
    either (nat_lt (length items) most_requests)
    (λ room. value (record {
      few = omega (arith, length-append items one, ltb-true (length items) most_requests room);
      requests = All-append IsGood items one is.requests is_good;
      within = All-append Within items one is.within is_within;
    }))
    (λ full. fault)

line_keeps : (hosts cubes : ℕ) → cubes ≤ most_cubes → (progress : Progress) (line : List ℕ)
    → IsProgress hosts cubes progress
    → IfRead (after_line hosts cubes progress line) (IsProgress hosts cubes)
unfolding after_line
line_keeps hosts cubes few progress line is =
    after (meaning_known hosts cubes (words_of line) few) (λ meaning good.
    meaning_keeps hosts cubes progress meaning is good)

-- a script of a case with so many hosts and cubes
pub record IsScriptFor (hosts cubes : ℕ) (items : List ItemFields) : Type 0 where
  pub script : IsScript items
  pub within : All (IsWithin hosts cubes) items

script_good : (hosts cubes : ℕ) (progress : Progress) → hosts ≤ most_hosts
    → IsProgress hosts cubes progress → IsScriptFor hosts cubes progress.items
script_good hosts cubes progress few is = record {
  script = record {
    few = is.few;
    hosts = λ k d inside. let within = is.within k d inside in omega (arith, within.host, few);
    requests = is.requests;
  };
  within = is.within;
}

pub script_known : (hosts cubes : ℕ) (text : List ℕ) → hosts ≤ most_hosts → cubes ≤ most_cubes
    → IfRead (script_of hosts cubes text) (IsScriptFor hosts cubes)
unfolding script_of
script_known hosts cubes text few_hosts few_cubes =
    let IsGood : ItemFields → Type 0 = λ item. IsRequest item.request in
    let none : IsProgress hosts cubes nothing_yet = record {
      few = omega arith;
      requests = All-nil IsGood;
      within = All-nil (IsWithin hosts cubes);
    } in
    let keeps = line_keeps hosts cubes few_cubes in
    after (all_lines (IsProgress hosts cubes) keeps 1 nothing_yet (lines_of text) none)
    (λ progress is. value (script_good hosts cubes progress few_hosts is))
