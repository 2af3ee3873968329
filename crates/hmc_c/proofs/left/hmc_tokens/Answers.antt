-- What the network shows is what the journal leaves.
use Rattle.std.proofs.Common.{◌≡◌, ◌∙◌, ap, subst}
use Rattle.hmc_journal.specs.Final.{values_of}
use Rattle.hmc_c.specs.Handles.{shown}
use Rattle.hmc_c.specs.Values.{LeftShown, tokens_in, values_in}
use Rattle.hmc_c.specs.declared.held.Held.{Held}
use Rattle.hmc_c.proofs.LeftAlike.{tokens_alike, shows_left, values_alike}
use Rattle.hmc_c.proofs.left.hmc_tokens.Goals as goal

pub returns : goal.returns
returns c =
    let held = c.in-Some.held.value in
    let found : c.find_tokens.result ≡ tokens_in (values_in held) c.args.direction =
    c.find_tokens.ensures ∙ ap (λ (h : Held). tokens_in (values_in h) c.args.direction) c.deref-2.ensures in
    let shows : LeftShown c.show-status.result (shown held).passed c.find_tokens.result c.args.out.now c.show-status.new.out =
    subst (λ (h : Held). LeftShown c.show-status.result (shown h).passed c.find_tokens.result c.args.out.now c.show-status.new.out) c.deref.ensures c.show-status.ensures in
    shows_left (λ setup past. tokens_in (values_of setup past) c.args.direction) c.show-status.result c.args.handle.now.value c.put.new.handle.value held c.find_tokens.result c.args.out.now c.show-status.new.out c.in-Some.ensures.value c.put.ensures
    (λ setup past stands on. found ∙ tokens_alike (values_in held) (values_of setup past) c.args.direction (values_alike held setup past stands on)) shows
