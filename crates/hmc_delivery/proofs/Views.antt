-- What answers packets carry is read off a list packet by packet, and TRETs carry none.
use Rattle.std.proofs.Common.{◌≡◌, ◌∙◌, Bool, true, false, not, if◌then◌else◌, Option, Some, None, is_some, List, [], ◌∷◌, ◌++◌, filter, refl, sym, ap}
use Rattle.std.proofs.lemmas.List.Concat.{flat_map-append}
use Rattle.hmc_codes.specs.Commands.{layout_of, family_of_layout, is_flow}
use Rattle.hmc_codes.specs.declared.answer.Answer.{Answer}
use Rattle.hmc_codes.specs.declared.family.Family.TheVariants as families
use Rattle.hmc_codes.specs.declared.layout.Layout.{Layout}
use Rattle.hmc_codes.specs.declared.layout.Layout.TheVariants as layouts
use Rattle.hmc_packet.specs.Packet.{PacketFields}
use Rattle.hmc_packet.specs.Transactions.{answer_in}
use Rattle.hmc_packet.proofs.TransactionLemmas.{answer_in-replies}
use Rattle.hmc_send.specs.Places.{is_token}
use Rattle.hmc_journal.specs.Carried.{tagged_answer, tagged_answers}

-- ---- packet by packet

pub takings_none : tagged_answers [] ≡ []
unfolding tagged_answers
takings_none = refl

pub takings_append : (xs ys : List PacketFields) → tagged_answers (xs ++ ys) ≡ tagged_answers xs ++ tagged_answers ys
unfolding tagged_answers
takings_append xs ys = flat_map-append (λ packet. tagged_answer packet (answer_in packet)) xs ys

-- ---- a flow packet carries nothing

flow_replies : (layout : Layout) → not (is_flow layout) ≡ false → family_of_layout layout ≡ families.Reply → ⊥
flow_replies layouts.Ask flow is = absurd cc
flow_replies layouts.Reply flow is = absurd cc
flow_replies layouts.Null flow is = absurd cc
flow_replies layouts.Pret flow is = absurd cc
flow_replies layouts.Tret flow is = absurd cc
flow_replies layouts.Irtry flow is = absurd cc

none_by : (found : Option Answer) → (is_some found ≡ true → ⊥) → found ≡ None
none_by None none = refl
none_by (Some answer) none = absurd (none refl)

no_answer : (packet : PacketFields) → is_token packet ≡ false → answer_in packet ≡ None
no_answer packet flow = none_by (answer_in packet) (λ some. flow_replies (layout_of packet.command) flow ((answer_in-replies packet).0 some))

token_first : (packet : PacketFields) (packets : List PacketFields) (token : Bool) → is_token packet ≡ token → tagged_answers (filter is_token packets) ≡ tagged_answers packets
    → tagged_answers (if token then packet ∷ filter is_token packets else filter is_token packets) ≡ tagged_answers (packet ∷ packets)
unfolding tagged_answers
token_first packet packets true token before = ap (λ l. tagged_answer packet (answer_in packet) ++ l) before
token_first packet packets false token before = before ∙ ap (λ (a : Option Answer). tagged_answer packet a ++ tagged_answers packets) (sym (no_answer packet token))

pub takings_of_tokens : (packets : List PacketFields) → tagged_answers (filter is_token packets) ≡ tagged_answers packets
takings_of_tokens [] = refl
takings_of_tokens (packet ∷ packets) = token_first packet packets (is_token packet) refl (takings_of_tokens packets)
