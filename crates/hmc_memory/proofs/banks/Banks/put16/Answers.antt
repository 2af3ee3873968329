use Rattle.std.proofs.Common.{rules, arith}
use Rattle.hmc_memory.proofs.KeptLemmas.{slot_inside}
use Rattle.hmc_memory.proofs.Calls.{Found, block_fits, bytes_with_block, kept_with_block}
use Rattle.hmc_memory.proofs.banks.Banks.put16.Goals as goal

pub index_mut-requires : goal.index_mut-requires
index_mut-requires c =
    omega (arith, slot_inside c.self.inside.shape c.self.inside.banks.items c.args.place c.self.invariant.are_banks, c.of-slot.ensures.bank, c.self.inside.banks.ok.0)

pub put16-requires : goal.put16-requires
put16-requires c =
    let found : Found c.self.inside.shape c.self.inside.banks.items c.args.self.now c.args.place c.of-slot.result.bank c.of-slot.result.place c.index_mut.result.now = record {
      kept = c.self.invariant;
      view_is = c.self.view_is;
      multiple = c.requires.multiple;
      inside = c.requires.inside;
      slot_is = c.of-slot.ensures.bank;
      place_is = c.of-slot.ensures.place;
      read = c.index_mut.ensures.value;
    } in
    block_fits _ _ _ _ _ _ _ found

pub invariant_of-self : goal.invariant_of-self
invariant_of-self c =
    let found : Found c.self.inside.shape c.self.inside.banks.items c.args.self.now c.args.place c.of-slot.result.bank c.of-slot.result.place c.index_mut.result.now = record {
      kept = c.self.invariant;
      view_is = c.self.view_is;
      multiple = c.requires.multiple;
      inside = c.requires.inside;
      slot_is = c.of-slot.ensures.bank;
      place_is = c.of-slot.ensures.place;
      read = c.index_mut.ensures.value;
    } in
    kept_with_block _ _ _ _ _ _ _ _ _ found c.put16.ensures (search rules) (λ k. search rules)

pub returns-clause-bytes : goal.returns-clause-bytes
returns-clause-bytes c =
    let found : Found c.self.inside.shape c.self.inside.banks.items c.args.self.now c.args.place c.of-slot.result.bank c.of-slot.result.place c.index_mut.result.now = record {
      kept = c.self.invariant;
      view_is = c.self.view_is;
      multiple = c.requires.multiple;
      inside = c.requires.inside;
      slot_is = c.of-slot.ensures.bank;
      place_is = c.of-slot.ensures.place;
      read = c.index_mut.ensures.value;
    } in
    bytes_with_block _ _ _ _ _ _ _ _ _ found c.put16.ensures (search rules)
