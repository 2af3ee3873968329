-- What has room is kept with its numbers.
use Rattle.std.proofs.Common.{◌≡◌, ◌≤◌, ◌==◌, ◌∙◌, ℕ, suc, if◌then◌else◌, ap, subst, sym}
use Rattle.hmc_packet.specs.Packet.{flits_of}
use Rattle.hmc_retry.specs.RetryBuffer.{RetryFields, room_of, next_pointer, numbered}
use Rattle.hmc_retry.proofs.Kept.{room_for_packet, kept_with}
use Rattle.hmc_retry.proofs.buffer.RetryBuffer.keep_with.Goals as goal

pub append_numbered-requires : goal.append_numbered-requires
append_numbered-requires c =
    record { packet = c.requires.packet; room = room_for_packet _ c.args.packet.now c.self.inside.used c.self.inside.kept.capacity c.self.invariant (subst (λ (b : RetryFields). flits_of c.args.packet.now ≤ room_of b) (sym c.self.view_is) c.requires.room) }

pub invariant_of-self : goal.invariant_of-self
invariant_of-self c =
    kept_with (numbered c.args.rtc c.args.seq c.args.frp c.args.packet.now) _ c.self.inside.used c.self.inside.kept.capacity c.append_numbered.new.ring.items c.position_after_put-self-inside.result c.from-flits.result c.append_numbered.new.ring.capacity c.self.invariant
    (subst (λ (b : RetryFields). flits_of c.args.packet.now ≤ room_of b) (sym c.self.view_is) c.requires.room)
    (subst (λ (b : RetryFields). c.args.frp ≡ next_pointer b (flits_of c.args.packet.now)) (sym c.self.view_is) c.requires.pointer)
    c.append_numbered.ensures.items
    (c.position_after_put-self-inside.ensures ∙ ap (λ (n : ℕ). if c.self.inside.position == n then suc c.self.inside.position else c.self.inside.position) c.len.ensures.len)
    (c.from-flits.ensures ∙ c.flits.ensures.value)
    c.append_numbered.ensures.capacity
