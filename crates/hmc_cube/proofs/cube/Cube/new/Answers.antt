-- New parts make a new cube.
use Rattle.hmc_cube.proofs.CubeLemmas.{opening_is}
use Rattle.hmc_cube.proofs.cube.Cube.new.Goals as goal

pub returns : goal.returns
returns c =
    opening_is c.args.number c.args.shape (record { vault_bits = c.shape.inside.vault_bits; bank_bits = c.shape.inside.bank_bits; rows = c.shape.inside.rows; block = c.shape.inside.block }) c.args.queue c.in_ok-banks.banks c.new-registers.result c.in_ok-vaults.vaults.items c.in_ok-register_queue.register_queue c.in_ok-answers.answers
    c.shape.view_is c.shape.invariant.vault_bits c.in_ok-banks.ensures.shape c.in_ok-banks.ensures.zeros c.new-registers.ensures c.in_ok-vaults.ensures c.in_ok-register_queue.ensures.empty c.in_ok-register_queue.ensures.size c.in_ok-answers.ensures.empty
