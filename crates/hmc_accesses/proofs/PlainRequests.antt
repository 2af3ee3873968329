-- What a host gives of a plain script, and what is executed of it, are plain requests of it.
use Rattle.std.proofs.Common.{◌≡◌, ◌∙◌, ◌+◌, ◌==◌, ◌&&◌, ℕ, Bool, true, false, not, List, [], ◌∷◌, ◌++◌, Option, Some, refl, sym, ap, subst}
use Rattle.std.specs.Prelude.{if◌then◌else◌, map}
use Rattle.std.specs.List.{All}
use Rattle.std.proofs.lemmas.Bool.{eq-eqb, eqb-true, and_parts}
use Rattle.std.proofs.lemmas.List.Elements.{All-head, All-tail, All-push, All-nil, All-cons}
use Rattle.hmc_codes.specs.Commands.{is_posted}
use Rattle.hmc_codes.specs.Request.{RequestFields}
use Rattle.hmc_codes.specs.Shape.{ShapeFields}
use Rattle.hmc_codes.specs.declared.unit.Unit.{Unit as RequestUnit}
use Rattle.hmc_host.specs.Host.{items_of}
use Rattle.hmc_script.specs.Items.{ItemFields, of_host}
use Rattle.hmc_journal.specs.Answers.{tag_of}
use Rattle.hmc_journal.specs.Choice.{append_if}
use Rattle.hmc_entries.specs.declared.entry.Entry.{Entry}
use Rattle.hmc_entries.specs.declared.entry.Entry.TheVariants.{Gave, Executed}
use Rattle.hmc_journal.specs.Delivered.{IsPrefix, said}
use Rattle.hmc_journal.specs.Filters.{TaggedRequest, ScriptRequest, same_unit, same_tag, given_by, given_to, executed_by}
use Rattle.hmc_journal.specs.Lawful.{Lawful}
use Rattle.hmc_journal.specs.Network.{IsNetwork}
use Rattle.hmc_journal.specs.Setup.{Setup, Topology, shape_of, cubes_in}
use Rattle.hmc_journal.proofs.EntryRule.{HasExecuted, entry_rule, lawful_past}
use Rattle.hmc_laws.proofs.Order.{is_scripted}
use Rattle.hmc_delivery.proofs.Delivering.{delivered_in_order}
use Rattle.hmc_serial.specs.Unit.{unit_of}
use Rattle.hmc_accesses.proofs.Access.{IsAccessOf}
use Rattle.hmc_accesses.proofs.Units.{same_unit-is, same_unit-self}

-- a request of the script that may be given
abbrev pub IsPlainItem : (host count : ℕ) → (ℕ → ShapeFields) → ItemFields → Type 0
IsPlainItem host count shape_at item = (item.host ≡ host) × (item.poisoned ≡ false)
    × IsAccessOf count shape_at item.request

-- the same of what was given
abbrev IsPlainGiven : (host giver count : ℕ) → (ℕ → ShapeFields) → ScriptRequest → Type 0
IsPlainGiven host giver count shape_at given = (giver ≡ host) × (given.poisoned ≡ false)
    × IsAccessOf count shape_at given.request

-- what was given by all hosts
abbrev pub given_all : List Entry → List TaggedRequest
given_all [] = []
given_all (Gave host tag poisoned request ∷ past) = given_all past ++ record {
  tag = tag;
  request =
      request;
} ∷ []
given_all (_ ∷ past) = given_all past

-- what was executed by all units
abbrev pub done_all : List Entry → List TaggedRequest
done_all [] = []
done_all (Executed unit host tag request answer ∷ past) = done_all past ++ record {
  tag = tag;
  request = request;
} ∷ []
done_all (_ ∷ past) = done_all past

-- each that was given is plain, and of the host
abbrev pub GivenOf : (host count : ℕ) → (ℕ → ShapeFields) → List Entry → Type 0
GivenOf host count shape_at [] = Unit {0}
GivenOf host count shape_at (Gave giver tag poisoned request ∷ past) =
    ((giver ≡ host) × (poisoned ≡ false) × IsAccessOf count shape_at request) × GivenOf host count
    shape_at past
GivenOf host count shape_at (_ ∷ past) = GivenOf host count shape_at past

-- what is known of one that was executed
pub record IsDone (host count : ℕ) (shape_at : ℕ → ShapeFields) (unit : RequestUnit) (giver : ℕ)
    (tag : Option ℕ) (request : RequestFields) : Type 0 where
  pub giver_is : giver ≡ host
  pub unit_is : unit ≡ unit_of (shape_at request.cube) request
  pub access : IsAccessOf count shape_at request
  pub tagged : (t : ℕ) × (same_tag tag t ≡ true)

abbrev pub DoneOf : (host count : ℕ) → (ℕ → ShapeFields) → List Entry → Type 0
DoneOf host count shape_at [] = Unit {0}
DoneOf host count shape_at (Executed unit giver tag request answer ∷ past) =
    IsDone host count shape_at unit giver tag request × DoneOf host count shape_at past
DoneOf host count shape_at (_ ∷ past) = DoneOf host count shape_at past

all_last : {X : Type 0} (P : X → Type 0) (xs ys : List X) (x : X) → All P ((xs ++ x ∷ []) ++ ys) →
    P x
all_last P [] ys x all = All-head P x ys all
all_last P (y ∷ xs) ys x all = all_last P xs ys x (All-tail P y ((xs ++ x ∷ []) ++ ys) all)

-- what the script says of a host's requests
said_plain : (host giver count : ℕ) (shape_at : ℕ → ShapeFields) (script : List ItemFields) →
    All (IsPlainItem host count shape_at) script → All (IsPlainGiven host giver count shape_at)
    (map said (of_host giver script))
said_plain host giver count shape_at [] all = All-nil (IsPlainGiven host giver count shape_at)
said_plain host giver count shape_at (item ∷ script) all =
    let P = IsPlainItem host count shape_at in
    let first = All-head P item script all in
    let more = said_plain host giver count shape_at script (All-tail P item script all) in
    (elim (item.host == giver) as (λ b. (item.host == giver) ≡ b →
    All (IsPlainGiven host giver count shape_at)
    (map said (if b then item ∷ of_host giver script else of_host giver script))) [
      | true ↦ λ same. All-cons (IsPlainGiven host giver count shape_at) (said item)
          (map said (of_host giver script)) (
            sym (eqb-true item.host giver same)
                ∙ first.0,
            first.1,
            first.2,
          ) more
      | false ↦ λ other. more
    ]) refl

given_one : (host giver count : ℕ) (shape_at : ℕ → ShapeFields) (script : List ItemFields)
    (before : List ScriptRequest) (given : ScriptRequest) →
    All (IsPlainItem host count shape_at) script
    → IsPrefix (append_if (giver == giver) (given ∷ []) before) (map said (items_of giver script)) →
    IsPlainGiven host giver count shape_at given
given_one host giver count shape_at script before given all prefix =
    let whole : map said (items_of giver script) ≡ (before ++ given ∷ []) ++ prefix.0 = prefix.1
    ∙ ap (λ b. append_if b (given ∷ []) before ++ prefix.0) (eq-eqb giver giver refl) in
    all_last (IsPlainGiven host giver count shape_at) before prefix.0 given
    (subst (All (IsPlainGiven host giver count shape_at)) whole
    (said_plain host giver count shape_at script all))

-- all that was given is plain
pub given_plain : (setup : Setup) (host count : ℕ) (shape_at : ℕ → ShapeFields) →
    All (IsPlainItem host count shape_at) setup.script → (past : List Entry) → Lawful setup past →
    GivenOf host count shape_at past
unfolding given_by
given_plain setup host count shape_at plain [] lawful = tt
given_plain setup host count shape_at plain (Gave giver tag poisoned request ∷ past) lawful = (
  given_one host giver count shape_at setup.script (given_by giver past)
      (record { poisoned = poisoned; request = request }) plain
      ((is_scripted setup (Gave giver tag poisoned request ∷ past) lawful).given giver),
  given_plain setup host count shape_at plain past
      (lawful_past setup (Gave giver tag poisoned request) past lawful),
)
given_plain setup host count shape_at plain (entry ∷ past) lawful =
    given_plain setup host count shape_at plain past (lawful_past setup entry past lawful)

-- ---- what was executed

-- a test for what was given to a unit
abbrev IsGivenTo : (host giver count : ℕ) → (ℕ → ShapeFields) → RequestUnit → TaggedRequest → Type 0
IsGivenTo host giver count shape_at unit x =
    (giver ≡ host) × (same_unit (unit_of (shape_at x.request.cube) x.request) unit ≡ true)
    × IsAccessOf count shape_at x.request

given_more : (host giver count : ℕ) (shape_at : ℕ → ShapeFields) (unit : RequestUnit)
    (here poisoned : Bool) (x : TaggedRequest) (before : List TaggedRequest) (b : Bool) →
    (here && (not poisoned && same_unit (unit_of (shape_at x.request.cube) x.request) unit)) ≡ b
    → (here ≡ true → giver ≡ host) → IsAccessOf count shape_at x.request →
    All (IsGivenTo host giver count shape_at unit) before →
    All (IsGivenTo host giver count shape_at unit) (append_if b (x ∷ []) before)
given_more host giver count shape_at unit here poisoned x before true is own access all =
    let first = and_parts here
    (not poisoned && same_unit (unit_of (shape_at x.request.cube) x.request) unit) is in
    let second = and_parts (not poisoned) (same_unit (unit_of (shape_at x.request.cube) x.request)
    unit) first.1 in
    All-push (IsGivenTo host giver count shape_at unit) before x all (own first.0, second.1, access)
given_more host giver count shape_at unit here poisoned x before false is own access all = all

given_to_plain : (topology : Topology) (host giver count : ℕ) (unit : RequestUnit)
    (past : List Entry) → GivenOf host count (shape_of topology) past →
    All (IsGivenTo host giver count (shape_of topology) unit) (given_to topology giver unit past)
unfolding given_to
given_to_plain topology host giver count unit [] given =
    All-nil (IsGivenTo host giver count (shape_of topology) unit)
given_to_plain topology host giver count unit (Gave by tag poisoned request ∷ past) given =
    given_more host giver count (shape_of topology) unit (by == giver) poisoned
    (record { tag = tag; request = request }) (given_to topology giver unit past) _ refl
    (λ same. sym (eqb-true by giver same) ∙ given.0.0) given.0.2
    (given_to_plain topology host giver count unit past given.1)
given_to_plain topology host giver count unit (entry ∷ past) given =
    given_to_plain topology host giver count unit past given

done_one : (topology : Topology) (host giver count : ℕ) (unit : RequestUnit) (x : TaggedRequest)
    (given before waiting : List TaggedRequest) →
    All (IsGivenTo host giver count (shape_of topology) unit) given
    → given ≡ append_if ((giver == giver) && same_unit unit unit) (x ∷ []) before ++ waiting →
    IsGivenTo host giver count (shape_of topology) unit x
done_one topology host giver count unit x given before waiting all is =
    let here : ((giver == giver) && same_unit unit unit) ≡ true =
    ap (λ b. b && same_unit unit unit) (eq-eqb giver giver refl) ∙ same_unit-self unit in
    all_last (IsGivenTo host giver count (shape_of topology) unit) before waiting x
    (subst (All (IsGivenTo host giver count (shape_of topology) unit)) (is
    ∙ ap (λ b. append_if b (x ∷ []) before ++ waiting) here) all)

tag_there : (tag : Option ℕ) (posted : Bool) (number : ℕ) → posted ≡ false →
    tag ≡ tag_of posted number → (t : ℕ) × (same_tag tag t ≡ true)
tag_there tag posted number answered is =
    let some : tag ≡ Some number = is ∙ ap (λ b. tag_of b number) answered in
    (number, ap (λ o. same_tag o number) some ∙ eq-eqb number number refl)

pub done_plain : (setup : Setup) (host : ℕ) → IsNetwork setup →
    All (IsPlainItem host (cubes_in setup.topology) (shape_of setup.topology)) setup.script →
    (past : List Entry) → Lawful setup past →
    DoneOf host (cubes_in setup.topology) (shape_of setup.topology) past
unfolding executed_by given_to
done_plain setup host network plain [] lawful = tt
done_plain setup host network plain (Executed unit giver tag request answer ∷ past) lawful =
    let t = setup.topology in
    let entry : Entry = Executed unit giver tag request answer in
    let before = lawful_past setup entry past lawful in
    let kept = (delivered_in_order setup (entry ∷ past) network lawful).requests_kept giver unit in
    let given = given_to_plain t host giver (cubes_in t) unit past
    (given_plain setup host (cubes_in t) (shape_of t) plain past before) in
    let one = done_one t host giver (cubes_in t) unit (record { tag = tag; request = request })
    (given_to t giver unit past) (executed_by giver unit past) _ given kept in
    let has : HasExecuted setup past unit giver tag request answer =
    entry_rule setup entry past lawful in (
      record {
        giver_is = one.0;
        unit_is = sym (same_unit-is (unit_of (shape_of t request.cube) request) unit one.1);
        access = one.2;
        tagged = tag_there tag (is_posted request.command) has.at.front.tag one.2.access.answered
            has.is_tag;
      },
      done_plain setup host network plain past before,
    )
done_plain setup host network plain (entry ∷ past) lawful = done_plain setup host network plain past
    (lawful_past setup entry past lawful)
