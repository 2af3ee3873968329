-- A flit that came is copied, and so is a place that nothing comes to any more.
use Rattle.std.proofs.Common.{◌≡◌, ◌∙◌, ℕ, Bool, true, false, not, Option, Some, None}
use Rattle.std.proofs.Common.{if◌then◌else◌, length, refl, ap, sym, arith}
use Rattle.std.specs.Prelude.{is_some, nat_lt}
use Rattle.std.proofs.lemmas.Bool.{both_ways, lt-ltb}
use Rattle.hmc_packet.specs.declared.feed.Feed.TheVariants.{Waiting, Whole}
use Rattle.hmc_through.specs.Pipe.{PipeFields, flit_at, whole_fed}
use Rattle.hmc_through.proofs.pipe.Pipe.whole_fed.Goals.{else-is_none-via-then-is_none+else-from-len}
use Rattle.hmc_through.proofs.pipe.Pipe.whole_fed.Goals.{else-is_none-via-else-is_none}
use Rattle.hmc_through.proofs.pipe.Pipe.whole_fed.Goals as goal

fed : (pipe : PipeFields) (at : ℕ) (good : Option Bool) →
    (is_some good ≡ false → nat_lt at (length pipe.came) ≡ true) →
    Whole (flit_at pipe at) ≡ whole_fed pipe at good
fed pipe at None came = ap (λ (b : Bool). if b then Whole (flit_at pipe at) else Waiting)
    (sym (came refl))
fed pipe at (Some good) came = refl

pub returns : goal.returns
returns c =
    let inside = c.self.inside in
    let pipe : PipeFields = record {
      flits = inside.flits;
      profile = inside.profile;
      came = inside.came.items;
      good = inside.good;
    } in
    let came : is_some inside.good ≡ false → nat_lt c.args.at (length pipe.came) ≡ true =
    elim c.else-is_none.branch [
      | else-is_none-via-then-is_none+else-from-len w ↦ λ waits.
          lt-ltb c.args.at (length pipe.came)
          (omega (arith, w.if-from-len.false, w.from.ensures, w.len.ensures.value))
      | else-is_none-via-else-is_none w ↦ λ waits.
          absurd (both_ways (is_some inside.good) waits (c.is_none.ensures
          ∙ ap not w.if-is_none.false))
    ] in
    ap Whole c.flit_at.ensures
    ∙ ap (λ (p : PipeFields). Whole (flit_at p c.args.at)) (sym c.self.view_is)
    ∙ fed pipe c.args.at inside.good came
    ∙ ap (λ (p : PipeFields). whole_fed p c.args.at p.good) c.self.view_is
