-- Each packet costs the queue of the registers 1.
use Rattle.std.proofs.Common.{◌≡◌, ◌∙◌, length, ap, sym, arith}
use Rattle.std.proofs.lemmas.Bool.Decides.{nat_tests}
use Rattle.hmc_tokens.specs.Queue.{packets_of, all_cost_one}
use Rattle.hmc_cube.specs.Cube.{CubeFields}
use Rattle.hmc_cube.specs.Places.{entrance}
use Rattle.hmc_cube.proofs.cube.Cube.room.Goals as goal

pub returns-in-Registers : goal.returns-in-Registers
returns-in-Registers c =
    let queue : length (entrance c.args.self.now c.args.to) ≡ length c.args.self.now.register_queue = ap (λ to. length (entrance c.args.self.now to)) c.in-Registers.is in
    let used : c.used.result ≡ length (entrance c.args.self.now c.args.to) =
    c.used.ensures ∙ all_cost_one (packets_of c.self.inside.register_queue) ∙ ap (λ (q : CubeFields). length q.register_queue) c.self.view_is ∙ sym queue in
    let size : c.size.result ≡ c.args.self.now.size = c.size.ensures ∙ ap (λ (q : CubeFields). q.size) c.self.view_is in
    (λ h. grind (arith, nat_tests), λ h. grind (arith, nat_tests))
