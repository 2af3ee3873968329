-- The tokens of a direction, where no difference is cut off at zero.
use Rattle.std.specs.Prelude.{◌≡◌, ◌+◌, List}
use Rattle.hmc_codes.specs.Link.{LinkFields}
use Rattle.hmc_codes.specs.declared.counts.TokenRow.{TokenRow}
use Rattle.hmc_send.specs.LinkEntries.{LinkEntry, other, accepted_packets, takes}
use Rattle.hmc_send.specs.LinkSenders.{places_in}
use Rattle.hmc_send.specs.LinkTokens.{flits_begun, flits_accepted, flits_taken, tokens_returned, tokens_credited}
use Rattle.hmc_send.specs.declared.toward.Toward.{Toward}

-- Each of the five numbers with what is taken off is what it is taken off from, so none of them is
-- below zero; together they are what the end of the direction advertised.
pub record TokensBalance (link : LinkFields) (d : Toward) (past : List LinkEntry) (row : TokenRow)
    : Type 0 where
  -- tokens that were credited, less the flits that were begun
  pub held : row.held + flits_begun (places_in link d past)
      ≡ tokens_credited (accepted_packets link.profile (other d) past)
  -- flits that were begun, less those that were accepted
  pub transit : row.transit + flits_accepted (accepted_packets link.profile d past)
      ≡ flits_begun (places_in link d past)
  -- flits that were accepted, less those that left the buffer
  pub used : row.used + flits_taken (takes d past) (accepted_packets link.profile d past)
      ≡ flits_accepted (accepted_packets link.profile d past)
  -- tokens that were advertised, and those of flits that left the buffer, less those returned
  pub due : row.due + tokens_returned (places_in link (other d) past)
      ≡ link.tokens + flits_taken (takes d past) (accepted_packets link.profile d past)
  -- tokens that were returned, less those that were credited
  pub returning : row.returning + tokens_credited (accepted_packets link.profile (other d) past)
      ≡ tokens_returned (places_in link (other d) past)
  pub sum : row.held + row.transit + row.used + row.due + row.returning ≡ link.tokens
