use Rattle.std.proofs.Common.{ap, length, arith}
use Rattle.hmc_serial.proofs.Fine.{read_blocks, read_sizes, write_blocks, read_register_there, write_register_there, write_register_long, acted_short, acted_inside, worked_short, worked_inside}
use Rattle.hmc_serial.proofs.cube.carry_out.Goals as goal

pub read-payload-requires-clause-multiple : goal.read-payload-requires-clause-multiple
read-payload-requires-clause-multiple g c = (read_blocks c.args.banks.now.shape c.args.action _ c.args.request.now c.in-Read.size c.in-Read.is (record { asks = c.requires.action; no_error = c.requires.no_error; kept = c.invariant.ensures; view_is = c.request.view_is })).multiple

pub read-payload-requires-clause-blocks : goal.read-payload-requires-clause-blocks
read-payload-requires-clause-blocks g c = omega (arith, c.from.ensures, (read_sizes c.args.banks.now.shape c.args.action _ c.args.request.now c.in-Read.size c.in-Read.is (record { asks = c.requires.action; no_error = c.requires.no_error; kept = c.invariant.ensures; view_is = c.request.view_is })).0)

pub read-payload-requires-clause-few : goal.read-payload-requires-clause-few
read-payload-requires-clause-few g c = omega (arith, c.from.ensures, (read_sizes c.args.banks.now.shape c.args.action _ c.args.request.now c.in-Read.size c.in-Read.is (record { asks = c.requires.action; no_error = c.requires.no_error; kept = c.invariant.ensures; view_is = c.request.view_is })).1)

pub read-payload-requires-clause-inside : goal.read-payload-requires-clause-inside
read-payload-requires-clause-inside g c = omega (arith, c.from.ensures, (read_blocks c.args.banks.now.shape c.args.action _ c.args.request.now c.in-Read.size c.in-Read.is (record { asks = c.requires.action; no_error = c.requires.no_error; kept = c.invariant.ensures; view_is = c.request.view_is })).inside)

pub write-requires-clause-multiple : goal.write-requires-clause-multiple
write-requires-clause-multiple g c = (write_blocks c.args.banks.now.shape c.args.action _ c.args.request.now c.in-Write.is (record { asks = c.requires.action; no_error = c.requires.no_error; kept = c.invariant.ensures; view_is = c.request.view_is })).multiple

pub write-requires-clause-inside : goal.write-requires-clause-inside
write-requires-clause-inside g c = omega (arith, ap length c.as_slice.ensures.bytes, (write_blocks c.args.banks.now.shape c.args.action _ c.args.request.now c.in-Write.is (record { asks = c.requires.action; no_error = c.requires.no_error; kept = c.invariant.ensures; view_is = c.request.view_is })).inside)

pub read_register-requires : goal.read_register-requires
read_register-requires g c = read_register_there c.args.banks.now.shape c.args.action _ c.args.request.now c.in-ReadRegister.is (record { asks = c.requires.action; no_error = c.requires.no_error; kept = c.invariant.ensures; view_is = c.request.view_is })

pub write_register-requires-clause-there : goal.write_register-requires-clause-there
write_register-requires-clause-there g c = (write_register_there c.args.banks.now.shape c.args.action _ c.args.request.now c.in-WriteRegister.is (record { asks = c.requires.action; no_error = c.requires.no_error; kept = c.invariant.ensures; view_is = c.request.view_is })).0

pub write_register-requires-clause-written : goal.write_register-requires-clause-written
write_register-requires-clause-written g c = (write_register_there c.args.banks.now.shape c.args.action _ c.args.request.now c.in-WriteRegister.is (record { asks = c.requires.action; no_error = c.requires.no_error; kept = c.invariant.ensures; view_is = c.request.view_is })).1

pub write_register-requires-clause-long : goal.write_register-requires-clause-long
write_register-requires-clause-long g c = omega (arith, ap length c.as_slice-in-WriteRegister.ensures.bytes, write_register_long c.args.banks.now.shape c.args.action _ c.args.request.now c.in-WriteRegister.is (record { asks = c.requires.action; no_error = c.requires.no_error; kept = c.invariant.ensures; view_is = c.request.view_is }))

pub act_at-acted-requires-clause-short : goal.act_at-acted-requires-clause-short
act_at-acted-requires-clause-short g c = omega (arith, ap length c.as_slice-in-Act.ensures.bytes, acted_short c.args.banks.now.shape c.args.action _ c.args.request.now c.in-Act.op c.in-Act.is (record { asks = c.requires.action; no_error = c.requires.no_error; kept = c.invariant.ensures; view_is = c.request.view_is }))

pub act_at-acted-requires-clause-inside : goal.act_at-acted-requires-clause-inside
act_at-acted-requires-clause-inside g c = acted_inside c.args.banks.now.shape c.args.action _ c.args.request.now c.in-Act.op c.in-Act.is (record { asks = c.requires.action; no_error = c.requires.no_error; kept = c.invariant.ensures; view_is = c.request.view_is })

pub work_at-requires-clause-short : goal.work_at-requires-clause-short
work_at-requires-clause-short g c = worked_short c.args.request.now c.args.action c.in-Work.code c.in-Work.is c.requires.action c.invariant.ensures

pub work_at-requires-clause-inside : goal.work_at-requires-clause-inside
work_at-requires-clause-inside g c = worked_inside c.args.banks.now.shape c.args.request.now c.args.action c.in-Work.code c.in-Work.is c.requires.no_error
