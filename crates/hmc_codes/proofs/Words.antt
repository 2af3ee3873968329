-- No word of a command is longer than nine letters, and a request is its first words and its operand.
use Rattle.std.proofs.Common.{◌≡◌, ◌∙◌, ◌≤◌, ℕ, List, [], ◌∷◌, ◌++◌, length, Option, Some, None, option_to_list, sym, ap, decimal, lit≤, append-nil, append_assoc}
use Rattle.hmc_codes.specs.Table.{table_line}
use Rattle.hmc_codes.specs.Commands.{word_of}
use Rattle.hmc_codes.specs.Request.{RequestFields}
use Rattle.hmc_codes.specs.Text.{is_mdwr, operand_of, operand_words, request_with, request_text, hex_number}
use Rattle.hmc_codes.specs.declared.command.Command.{Command}
use Rattle.hmc_codes.specs.declared.command.Command.TheVariants as commands

pub word_length : (c : Command) → length (word_of c) ≤ 9
unfolding table_line
word_length commands.Null = lit≤ tt
word_length commands.Pret = lit≤ tt
word_length commands.Tret = lit≤ tt
word_length commands.Irtry = lit≤ tt
word_length commands.Wr16 = lit≤ tt
word_length commands.Wr32 = lit≤ tt
word_length commands.Wr48 = lit≤ tt
word_length commands.Wr64 = lit≤ tt
word_length commands.Wr80 = lit≤ tt
word_length commands.Wr96 = lit≤ tt
word_length commands.Wr112 = lit≤ tt
word_length commands.Wr128 = lit≤ tt
word_length commands.Wr256 = lit≤ tt
word_length commands.Pwr16 = lit≤ tt
word_length commands.Pwr32 = lit≤ tt
word_length commands.Pwr48 = lit≤ tt
word_length commands.Pwr64 = lit≤ tt
word_length commands.Pwr80 = lit≤ tt
word_length commands.Pwr96 = lit≤ tt
word_length commands.Pwr112 = lit≤ tt
word_length commands.Pwr128 = lit≤ tt
word_length commands.Pwr256 = lit≤ tt
word_length commands.Rd16 = lit≤ tt
word_length commands.Rd32 = lit≤ tt
word_length commands.Rd48 = lit≤ tt
word_length commands.Rd64 = lit≤ tt
word_length commands.Rd80 = lit≤ tt
word_length commands.Rd96 = lit≤ tt
word_length commands.Rd112 = lit≤ tt
word_length commands.Rd128 = lit≤ tt
word_length commands.Rd256 = lit≤ tt
word_length commands.Mdwr = lit≤ tt
word_length commands.Mdrd = lit≤ tt
word_length commands.Bwr = lit≤ tt
word_length commands.TwoAdd8 = lit≤ tt
word_length commands.Add16 = lit≤ tt
word_length commands.Pbwr = lit≤ tt
word_length commands.PtwoAdd8 = lit≤ tt
word_length commands.Padd16 = lit≤ tt
word_length commands.Bwr8r = lit≤ tt
word_length commands.TwoAdds8r = lit≤ tt
word_length commands.Adds16r = lit≤ tt
word_length commands.Xor16 = lit≤ tt
word_length commands.Or16 = lit≤ tt
word_length commands.Nor16 = lit≤ tt
word_length commands.And16 = lit≤ tt
word_length commands.Nand16 = lit≤ tt
word_length commands.Inc8 = lit≤ tt
word_length commands.Pinc8 = lit≤ tt
word_length commands.Casgt8 = lit≤ tt
word_length commands.Caslt8 = lit≤ tt
word_length commands.Casgt16 = lit≤ tt
word_length commands.Caslt16 = lit≤ tt
word_length commands.Caseq8 = lit≤ tt
word_length commands.Caszero16 = lit≤ tt
word_length commands.Eq16 = lit≤ tt
word_length commands.Eq8 = lit≤ tt
word_length commands.Swap16 = lit≤ tt
word_length commands.Unit0 = lit≤ tt
word_length commands.Unit1 = lit≤ tt
word_length commands.Unit2 = lit≤ tt
word_length commands.Unit3 = lit≤ tt
word_length commands.Unit4 = lit≤ tt
word_length commands.Unit5 = lit≤ tt
word_length commands.Unit6 = lit≤ tt
word_length commands.Unit7 = lit≤ tt
word_length commands.RdRs = lit≤ tt
word_length commands.WrRs = lit≤ tt
word_length commands.MdRdRs = lit≤ tt
word_length commands.MdWrRs = lit≤ tt
word_length commands.Error = lit≤ tt

spaced-after : (a b c word : List ℕ) → (a ++ (32 ∷ (b ++ (32 ∷ c)))) ++ (32 ∷ word) ≡ a ++ (32 ∷ (b ++ (32 ∷ (c ++ (32 ∷ word)))))
spaced-after a b c word = append_assoc a (32 ∷ (b ++ (32 ∷ c))) (32 ∷ word) ∙ ap (λ x. a ++ (32 ∷ x)) (append_assoc b (32 ∷ c) (32 ∷ word))

-- the word after the address comes after the other words
operand_after : (r : RequestFields) (word : Option (List ℕ)) → request_with r (option_to_list word) ≡ request_with r [] ++ operand_words word
operand_after r None = sym (append-nil (request_with r []))
operand_after r (Some word) = sym (spaced-after (word_of r.command) (decimal r.cube) (hex_number r.address) word)

-- a request is its first words and its operand
pub request_after : (old mid new : List ℕ) (r : RequestFields) → mid ≡ old ++ request_with r [] → new ≡ mid ++ operand_words (operand_of (is_mdwr r.command) r.payload) → new ≡ old ++ request_text r
unfolding request_text
request_after old mid new r mid_is new_is =
    let operand = operand_of (is_mdwr r.command) r.payload in
    new_is ∙ ap (λ m. m ++ operand_words operand) mid_is ∙ append_assoc old (request_with r []) (operand_words operand) ∙ ap (λ text. old ++ text) (sym (operand_after r operand))
