use Rattle.std.proofs.Common.{◌∙◌, arith}
use Rattle.hmc_memory.proofs.KeptLemmas.{slot_inside}
use Rattle.hmc_memory.proofs.Calls.{Found, block_fits, block_is}
use Rattle.hmc_memory.proofs.banks.Banks.get16.Goals as goal

pub index-requires : goal.index-requires
index-requires c =
    omega (arith, slot_inside c.self.inside.shape c.self.inside.banks.items c.args.place c.self.invariant.are_banks, c.of-slot.ensures.bank, c.self.inside.banks.ok.0)

pub get16-requires : goal.get16-requires
get16-requires c =
    let found : Found c.self.inside.shape c.self.inside.banks.items c.args.self.now c.args.place c.of-slot.result.bank c.of-slot.result.place c.index.result.now = record {
      kept = c.self.invariant;
      view_is = c.self.view_is;
      multiple = c.requires.multiple;
      inside = c.requires.inside;
      slot_is = c.of-slot.ensures.bank;
      place_is = c.of-slot.ensures.place;
      read = c.index.ensures;
    } in
    block_fits _ _ _ _ _ _ _ found

pub returns : goal.returns
returns c =
    let found : Found c.self.inside.shape c.self.inside.banks.items c.args.self.now c.args.place c.of-slot.result.bank c.of-slot.result.place c.index.result.now = record {
      kept = c.self.invariant;
      view_is = c.self.view_is;
      multiple = c.requires.multiple;
      inside = c.requires.inside;
      slot_is = c.of-slot.ensures.bank;
      place_is = c.of-slot.ensures.place;
      read = c.index.ensures;
    } in
    c.get16.ensures ∙ block_is _ _ _ _ _ _ _ found
