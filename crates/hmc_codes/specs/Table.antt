-- The command table: one line per command.
use Rattle.std.specs.Prelude.{ℕ, List, codes, Option, Some, None}
use Rattle.hmc_codes.specs.declared.layout.Layout.{Layout}
use Rattle.hmc_codes.specs.declared.layout.Layout.TheVariants as layouts
use Rattle.hmc_codes.specs.declared.length.Length.{Length}
use Rattle.hmc_codes.specs.declared.length.Length.TheVariants.{Fixed, Data}
use Rattle.hmc_codes.specs.declared.command.Command.{Command}
use Rattle.hmc_codes.specs.declared.command.Command.TheVariants as commands

-- a line of the table: the word, the code, the fields of a packet, its length, and the command of
-- the response
pub record Line : Type 0 where
  pub word : List ℕ
  pub code : ℕ
  pub layout : Layout
  pub flits : Length
  pub reply : Option Command

-- a flow packet: one flit, and no response
abbrev pub flow_packet : List ℕ → ℕ → Layout → Line
flow_packet word code layout =
    record { word = word; code = code; layout = layout; flits = Fixed 1; reply = None }

-- a request whose response has this command
abbrev pub answered_request : List ℕ → ℕ → Length → Command → Line
answered_request word code flits reply =
    record { word = word; code = code; layout = layouts.Ask; flits = flits; reply = Some reply }

-- a request without a response
abbrev pub posted_request : List ℕ → ℕ → Length → Line
posted_request word code flits =
    record { word = word; code = code; layout = layouts.Ask; flits = flits; reply = None }

-- a response
abbrev pub response_packet : List ℕ → ℕ → Length → Line
response_packet word code flits =
    record { word = word; code = code; layout = layouts.Reply; flits = flits; reply = None }

-- the table
unfoldable pub table_line : Command → Line
table_line commands.Null = flow_packet (codes "null") 0 layouts.Null
table_line commands.Pret = flow_packet (codes "pret") 1 layouts.Pret
table_line commands.Tret = flow_packet (codes "tret") 2 layouts.Tret
table_line commands.Irtry = flow_packet (codes "irtry") 3 layouts.Irtry
table_line commands.Wr16 = answered_request (codes "wr16") 8 (Fixed 2) commands.WrRs
table_line commands.Wr32 = answered_request (codes "wr32") 9 (Fixed 3) commands.WrRs
table_line commands.Wr48 = answered_request (codes "wr48") 10 (Fixed 4) commands.WrRs
table_line commands.Wr64 = answered_request (codes "wr64") 11 (Fixed 5) commands.WrRs
table_line commands.Wr80 = answered_request (codes "wr80") 12 (Fixed 6) commands.WrRs
table_line commands.Wr96 = answered_request (codes "wr96") 13 (Fixed 7) commands.WrRs
table_line commands.Wr112 = answered_request (codes "wr112") 14 (Fixed 8) commands.WrRs
table_line commands.Wr128 = answered_request (codes "wr128") 15 (Fixed 9) commands.WrRs
table_line commands.Wr256 = answered_request (codes "wr256") 79 (Fixed 17) commands.WrRs
table_line commands.Pwr16 = posted_request (codes "pwr16") 24 (Fixed 2)
table_line commands.Pwr32 = posted_request (codes "pwr32") 25 (Fixed 3)
table_line commands.Pwr48 = posted_request (codes "pwr48") 26 (Fixed 4)
table_line commands.Pwr64 = posted_request (codes "pwr64") 27 (Fixed 5)
table_line commands.Pwr80 = posted_request (codes "pwr80") 28 (Fixed 6)
table_line commands.Pwr96 = posted_request (codes "pwr96") 29 (Fixed 7)
table_line commands.Pwr112 = posted_request (codes "pwr112") 30 (Fixed 8)
table_line commands.Pwr128 = posted_request (codes "pwr128") 31 (Fixed 9)
table_line commands.Pwr256 = posted_request (codes "pwr256") 95 (Fixed 17)
table_line commands.Rd16 = answered_request (codes "rd16") 48 (Fixed 1) commands.RdRs
table_line commands.Rd32 = answered_request (codes "rd32") 49 (Fixed 1) commands.RdRs
table_line commands.Rd48 = answered_request (codes "rd48") 50 (Fixed 1) commands.RdRs
table_line commands.Rd64 = answered_request (codes "rd64") 51 (Fixed 1) commands.RdRs
table_line commands.Rd80 = answered_request (codes "rd80") 52 (Fixed 1) commands.RdRs
table_line commands.Rd96 = answered_request (codes "rd96") 53 (Fixed 1) commands.RdRs
table_line commands.Rd112 = answered_request (codes "rd112") 54 (Fixed 1) commands.RdRs
table_line commands.Rd128 = answered_request (codes "rd128") 55 (Fixed 1) commands.RdRs
table_line commands.Rd256 = answered_request (codes "rd256") 119 (Fixed 1) commands.RdRs
table_line commands.Mdwr = answered_request (codes "mdwr") 16 (Fixed 2) commands.MdWrRs
table_line commands.Mdrd = answered_request (codes "mdrd") 40 (Fixed 1) commands.MdRdRs
table_line commands.Bwr = answered_request (codes "bwr") 17 (Fixed 2) commands.WrRs
table_line commands.TwoAdd8 = answered_request (codes "2add8") 18 (Fixed 2) commands.WrRs
table_line commands.Add16 = answered_request (codes "add16") 19 (Fixed 2) commands.WrRs
table_line commands.Pbwr = posted_request (codes "pbwr") 33 (Fixed 2)
table_line commands.PtwoAdd8 = posted_request (codes "p2add8") 34 (Fixed 2)
table_line commands.Padd16 = posted_request (codes "padd16") 35 (Fixed 2)
table_line commands.Bwr8r = answered_request (codes "bwr8r") 81 (Fixed 2) commands.RdRs
table_line commands.TwoAdds8r = answered_request (codes "2adds8r") 82 (Fixed 2) commands.RdRs
table_line commands.Adds16r = answered_request (codes "adds16r") 83 (Fixed 2) commands.RdRs
table_line commands.Xor16 = answered_request (codes "xor16") 64 (Fixed 2) commands.RdRs
table_line commands.Or16 = answered_request (codes "or16") 65 (Fixed 2) commands.RdRs
table_line commands.Nor16 = answered_request (codes "nor16") 66 (Fixed 2) commands.RdRs
table_line commands.And16 = answered_request (codes "and16") 67 (Fixed 2) commands.RdRs
table_line commands.Nand16 = answered_request (codes "nand16") 68 (Fixed 2) commands.RdRs
table_line commands.Inc8 = answered_request (codes "inc8") 80 (Fixed 1) commands.WrRs
table_line commands.Pinc8 = posted_request (codes "pinc8") 84 (Fixed 1)
table_line commands.Casgt8 = answered_request (codes "casgt8") 96 (Fixed 2) commands.RdRs
table_line commands.Caslt8 = answered_request (codes "caslt8") 97 (Fixed 2) commands.RdRs
table_line commands.Casgt16 = answered_request (codes "casgt16") 98 (Fixed 2) commands.RdRs
table_line commands.Caslt16 = answered_request (codes "caslt16") 99 (Fixed 2) commands.RdRs
table_line commands.Caseq8 = answered_request (codes "caseq8") 100 (Fixed 2) commands.RdRs
table_line commands.Caszero16 = answered_request (codes "caszero16") 101 (Fixed 2) commands.RdRs
table_line commands.Eq16 = answered_request (codes "eq16") 104 (Fixed 2) commands.WrRs
table_line commands.Eq8 = answered_request (codes "eq8") 105 (Fixed 2) commands.WrRs
table_line commands.Swap16 = answered_request (codes "swap16") 106 (Fixed 2) commands.RdRs
table_line commands.Unit0 = answered_request (codes "unit0") 112 (Fixed 2) commands.RdRs
table_line commands.Unit1 = answered_request (codes "unit1") 113 (Fixed 2) commands.RdRs
table_line commands.Unit2 = answered_request (codes "unit2") 114 (Fixed 2) commands.RdRs
table_line commands.Unit3 = answered_request (codes "unit3") 115 (Fixed 2) commands.RdRs
table_line commands.Unit4 = answered_request (codes "unit4") 116 (Fixed 2) commands.RdRs
table_line commands.Unit5 = answered_request (codes "unit5") 117 (Fixed 2) commands.RdRs
table_line commands.Unit6 = answered_request (codes "unit6") 118 (Fixed 2) commands.RdRs
table_line commands.Unit7 = answered_request (codes "unit7") 120 (Fixed 2) commands.RdRs
table_line commands.RdRs = response_packet (codes "rd_rs") 56 Data
table_line commands.WrRs = response_packet (codes "wr_rs") 57 (Fixed 1)
table_line commands.MdRdRs = response_packet (codes "md_rd_rs") 58 (Fixed 2)
table_line commands.MdWrRs = response_packet (codes "md_wr_rs") 59 (Fixed 1)
table_line commands.Error = response_packet (codes "error") 62 (Fixed 1)
