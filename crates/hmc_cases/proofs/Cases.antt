-- Each case that is read keeps what every case keeps.
use Rattle.std.proofs.Common.{◌≡◌, ℕ, Ok, List, length, codes}
use Rattle.toml.specs.Data.{Members}
use Rattle.hmc_codes.specs.Limits.{most_cubes, most_links}
use Rattle.hmc_case.specs.Case.{CaseFields, IsCase, case_of}
use Rattle.hmc_case.specs.Keys.{known_keys, profile_at, text_at, count_of}
use Rattle.hmc_case.specs.Parts.{PartsFields, table_in, parts_of}
use Rattle.hmc_case.specs.Plan.{plan_of}
use Rattle.hmc_case.specs.Reading.{in_section}
use Rattle.hmc_case.specs.declared.fault.CaseKind.TheVariants as kinds
use Rattle.hmc_case.specs.declared.fault.Section.TheVariants as sections
use Rattle.hmc_case.specs.declared.keys.Part.TheVariants as parts
use Rattle.hmc_cases.proofs.Keys.{IsAmong, items_known}
use Rattle.hmc_cases.proofs.Nets.{net_known}
use Rattle.hmc_cases.proofs.Reading.{IfRead, value, after, after_any, in_section_too, in_text_too}
use Rattle.hmc_cases.proofs.Schedules.{schedule_known}
use Rattle.hmc_cases.proofs.Scripts.{script_known}

-- as many cubes and links as a case may have
record AreParts (parts : PartsFields) : Type 0 where
  cubes : IsAmong 1 most_cubes (count_of parts.cubes)
  links : IsAmong 1 most_links (count_of parts.links)

parts_known : (table : Members) → IfRead (parts_of table) AreParts
unfolding parts_of
parts_known table =
    after_any (known_keys parts.Top table) (λ known.
    after_any (profile_at table) (λ profile.
    after (items_known (codes "cubes") most_cubes table) (λ cubes in_cubes.
    after (items_known (codes "links") most_links table) (λ links in_links.
    after_any (text_at (codes "script") table) (λ script.
    after_any (text_at (codes "schedule") table) (λ schedule.
    value (record { cubes = in_cubes; links = in_links })))))))

-- the document, its keys, the cubes and links, the script, and the schedule
case_known : (bytes : List ℕ) → IfRead (case_of bytes) IsCase
unfolding case_of
case_known bytes =
    after_any (in_section sections.Toml 0 (table_in bytes)) (λ table.
    after (in_section_too sections.Top 0 (parts_known table)) (λ parts are.
    after (net_known parts.profile parts.cubes parts.links are.cubes are.links) (λ net is.
    let cubes = length net.cubes in
    let script_is = script_known net.hosts cubes parts.script is.few_hosts is.graph.few_cubes in
    after (in_text_too sections.Script kinds.Script script_is) (λ script good.
    let schedule_is = schedule_known (plan_of net) parts.schedule in
    after (in_text_too sections.Schedule kinds.Schedule schedule_is) (λ schedule works.
    value (record {
      net = is;
      requests = good.script;
      script = good.within;
      schedule = λ k d inside. (works k d inside).within;
      masks = λ k d inside. (works k d inside).mask;
    }))))))

pub read_is_case : (bytes : List ℕ) (case : CaseFields) → case_of bytes ≡ Ok case → IsCase case
read_is_case bytes = (case_known bytes).keeps
