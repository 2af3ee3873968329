-- The lines of the request are the last of the tape.
use Rattle.std.proofs.Common.{◌≡◌, ◌∙◌, ◌++◌, List, ℕ, string_bytes, length, refl, sym, ap, ap₂}
use Rattle.std.proofs.Common.{subst, arith}
use Rattle.hmc_script.specs.Items.{ItemFields, asked_item}
use Rattle.hmc_tape.specs.Tape.{TapedFields, IsTapeOf, taped_of}
use Rattle.hmc_tape.proofs.Taping.{tape_with_item}
use Rattle.hmc_tape.proofs.taped.Taped.ask.Goals as goal

pub returns-clause-tape : goal.returns-clause-tape
returns-clause-tape g c = λ setup past is.
    let i = c.self.inside in
    let slots = g.B.Workbench.slots in
    let before : TapedFields = taped_of slots (record {
      session = i.session;
      script = string_bytes i.script;
      schedule = string_bytes i.schedule;
    }) in
    let now : TapedFields = taped_of slots (record {
      session = c.ask.new.self;
      script = string_bytes c.append.new.into;
      schedule = string_bytes i.schedule;
    }) in
    let same : before ≡ taped_of slots c.args.self.now = ap (taped_of slots) c.self.view_is in
    let tape : IsTapeOf before setup past =
    subst (λ (t : TapedFields). IsTapeOf t setup past) (sym same) is in
    let item : ItemFields = asked_item c.args.host c.args.fenced c.args.poisoned
    c.args.request.now in
    tape_with_item before now setup past item tape
    (c.in_default-ask.ensures.stands setup past tape.stands) c.in_default-ask.ensures.plan
    (c.append.ensures ∙ ap₂ (λ (a b : List ℕ). a ++ b) c.in_default-reserve.ensures.bytes
    (c.as_str.ensures.value ∙ c.item_lines.ensures.text)) refl

pub append-requires : goal.append-requires
append-requires g c =
    omega (
      arith,
      c.in_default-reserve.ensures.ok,
      c.in_default-reserve.ensures.len,
      c.len.ensures.value,
      ap length c.as_str.ensures.value,
    )
