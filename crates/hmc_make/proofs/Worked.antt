-- First draws and first requests, whose values were computed by another program.
use Rattle.std.proofs.Common.{◌≡◌, ◌^◌, ◌-◌, [], ◌∷◌, refl}
use Rattle.hmc_codes.specs.Table.{table_line}
use Rattle.hmc_codes.specs.declared.command.Command.TheVariants.{Wr64, Rd64, Add16}
use Rattle.hmc_make.specs.Chain.{links_of, link}
use Rattle.hmc_make.specs.Draws.{next, drawn, after, drawn_bytes}
use Rattle.hmc_make.specs.Numbered.{cube_count}
use Rattle.hmc_make.specs.Requests.{command_of, request_from, after_request}
use Rattle.hmc_codes.specs.declared.place.Place.TheVariants.{Host, Port}

first-draw : drawn 0 ≡ 335903614
unfolding next drawn
first-draw = refl

first-of_0 : request_from (cube_count 0) 0 ≡ record { command = Add16; cube = 0; address = 8704; payload = 233 ∷ 26 ∷ 182 ∷ 102 ∷ 218 ∷ 76 ∷ 53 ∷ 98 ∷ 54 ∷ 127 ∷ 148 ∷ 143 ∷ 112 ∷ 147 ∷ 64 ∷ 20 ∷ [] }
unfolding next drawn drawn_bytes command_of request_from table_line
first-of_0 = refl

first-of_1 : request_from (cube_count 1) 1 ≡ record { command = Add16; cube = 1; address = 6400; payload = 205 ∷ 85 ∷ 3 ∷ 98 ∷ 180 ∷ 118 ∷ 162 ∷ 203 ∷ 230 ∷ 129 ∷ 33 ∷ 128 ∷ 52 ∷ 181 ∷ 206 ∷ 141 ∷ [] }
unfolding next drawn drawn_bytes command_of request_from table_line
first-of_1 = refl

first-of_2 : request_from (cube_count 2) 2 ≡ record { command = Rd64; cube = 1; address = 4096; payload = [] }
unfolding next drawn drawn_bytes command_of request_from table_line
first-of_2 = refl

first-of_3 : request_from (cube_count 3) 3 ≡ record { command = Add16; cube = 3; address = 1792; payload = 148 ∷ 203 ∷ 157 ∷ 88 ∷ 105 ∷ 202 ∷ 124 ∷ 158 ∷ 71 ∷ 135 ∷ 59 ∷ 97 ∷ 190 ∷ 248 ∷ 234 ∷ 128 ∷ [] }
unfolding next drawn drawn_bytes command_of request_from table_line
first-of_3 = refl

second-of_0 : request_from (cube_count 0) (after_request 0) ≡ record { command = Add16; cube = 0; address = 14080; payload = 158 ∷ 34 ∷ 32 ∷ 162 ∷ 164 ∷ 77 ∷ 125 ∷ 93 ∷ 13 ∷ 170 ∷ 115 ∷ 12 ∷ 122 ∷ 16 ∷ 233 ∷ 24 ∷ [] }
unfolding next drawn after drawn_bytes command_of request_from table_line
second-of_0 = refl

-- the second has no payload, and the third one of 64 bytes
third-of_3 : request_from (cube_count 3) (after_request (after_request 3)) ≡ record { command = Wr64; cube = 1; address = 4352; payload = 203 ∷ 81 ∷ 172 ∷ 193 ∷ 140 ∷ 103 ∷ 152 ∷ 231 ∷ 210 ∷ 59 ∷ 183 ∷ 218 ∷ 118 ∷ 233 ∷ 69 ∷ 63 ∷ 119 ∷ 188 ∷ 91 ∷ 196 ∷ 143 ∷ 134 ∷ 45 ∷ 113 ∷ 177 ∷ 232 ∷ 238 ∷ 201 ∷ 202 ∷ 235 ∷ 9 ∷ 59 ∷ 125 ∷ 164 ∷ 202 ∷ 112 ∷ 247 ∷ 211 ∷ 173 ∷ 232 ∷ 165 ∷ 254 ∷ 115 ∷ 124 ∷ 58 ∷ 151 ∷ 49 ∷ 49 ∷ 54 ∷ 245 ∷ 86 ∷ 117 ∷ 22 ∷ 193 ∷ 140 ∷ 106 ∷ 103 ∷ 231 ∷ 158 ∷ 75 ∷ 155 ∷ 189 ∷ 42 ∷ 190 ∷ [] }
unfolding next drawn after drawn_bytes command_of request_from table_line
third-of_3 = refl

-- the greatest number
first-of_all : request_from (cube_count (2 ^ 64 - 1)) (2 ^ 64 - 1) ≡ record { command = Rd64; cube = 3; address = 11008; payload = [] }
unfolding next drawn drawn_bytes command_of request_from table_line
first-of_all = refl

-- a chain of three cubes
links-of_3 : links_of 3 ≡ link (Host 0) (Port 0 0) ∷ link (Port 0 1) (Port 1 0) ∷ link (Port 1 1) (Port 2 0) ∷ []
links-of_3 = refl
