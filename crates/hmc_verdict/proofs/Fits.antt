-- The entries of a log that was read with its case.
use Rattle.std.proofs.Common.{◌≡◌, ℕ, true, false, Some, None, Result, Ok, Err, List, [], ◌∷◌, length, reverse, refl, subst}
use Rattle.std.specs.List.{All}
use Rattle.std.proofs.lemmas.List.Elements.{All-head, All-tail}
use Rattle.std.proofs.lemmas.List.{length-map}
use Rattle.hmc_case.specs.Case.{CaseFields, case_of}
use Rattle.hmc_case.specs.Line.{bad_line as case_line}
use Rattle.hmc_entries.specs.declared.entry.Entry.{Entry}
use Rattle.hmc_entries.specs.declared.entry.Entry.TheVariants.{Gave, Took, Retired}
use Rattle.hmc_log.specs.Fault.{bad_line as log_line, no_text_line}
use Rattle.hmc_log.specs.Laws.{FitsCase}
use Rattle.hmc_log.specs.Log.{LogFields}
use Rattle.hmc_log.specs.Text.{log_of}
use Rattle.hmc_log.proofs.Fits.{All-reverse, read_entries_fit}
use Rattle.hmc_log.proofs.Steps.{ok_then, if_passed}
use Rattle.hmc_search.specs.Reached.{IsUntagged}
use Rattle.hmc_verdict.specs.Subject.{SubjectFields, cube_shapes, or_line, log_in, log_in_bytes, subject_of}
use Rattle.std.specs.Str.{is_utf8}

or_line_ok : {A F : Type 0} (line_of : F → List ℕ) (r : Result A F) (x : A) →
    or_line line_of r ≡ Ok x → r ≡ Ok x
or_line_ok line_of (Ok y) x is = cc is
or_line_ok line_of (Err fault) x is = absurd (cc is)

log_fits : (case : CaseFields) (bytes : List ℕ) (log : LogFields) →
    log_in_bytes case bytes ≡ Ok log →
    All (FitsCase case.net.hosts (length case.net.cubes)) log.entries
unfolding log_in_bytes
log_fits case bytes log is =
    let shapes = cube_shapes case.net.cubes in
    let text = if_passed (is_utf8 bytes) no_text_line (log_in case bytes) log is in
    subst (λ n. All (FitsCase case.net.hosts n) log.entries)
    (length-map case.net.cubes (λ cube. cube.shape))
    (read_entries_fit case.net.hosts shapes bytes log
    (or_line_ok log_line (log_of case.net.hosts shapes bytes) log text.1))

pub subject_fits : (case log : List ℕ) (subject : SubjectFields) →
    subject_of case log ≡ Ok subject →
    All (FitsCase subject.case.net.hosts (length subject.case.net.cubes)) subject.log.entries
unfolding subject_of
subject_fits case_bytes log_bytes subject is =
    let case = ok_then (or_line case_line (case_of case_bytes)) _ subject is in
    let log = ok_then (log_in_bytes case.0 log_bytes) _ subject case.2 in
    let made : record { case = case.0; log = log.0 } ≡ subject = cc log.2 in
    subst (λ (s : SubjectFields). All (FitsCase s.case.net.hosts (length s.case.net.cubes))
    s.log.entries) made (log_fits case.0 log_bytes log.0 log.1)

fit_untagged : (hosts cubes : ℕ) (entries : List Entry) →
    All (FitsCase hosts cubes) entries → IsUntagged entries
fit_untagged hosts cubes [] fit = tt
fit_untagged hosts cubes (Gave host None true request ∷ past) fit = (
  refl,
  fit_untagged hosts cubes past
      (All-tail (FitsCase hosts cubes) (Gave host None true request) past fit),
)
fit_untagged hosts cubes (Gave host (Some tag) true request ∷ past) fit =
    let first = All-head (FitsCase hosts cubes) (Gave host (Some tag) true request) past fit in
    absurd (cc first.2)
fit_untagged hosts cubes (Gave host tag false request ∷ past) fit =
    fit_untagged hosts cubes past
    (All-tail (FitsCase hosts cubes) (Gave host tag false request) past fit)
fit_untagged hosts cubes (Took host tag answer ∷ past) fit =
    fit_untagged hosts cubes past
    (All-tail (FitsCase hosts cubes) (Took host tag answer) past fit)
fit_untagged hosts cubes (Retired slot ∷ past) fit =
    fit_untagged hosts cubes past (All-tail (FitsCase hosts cubes) (Retired slot) past fit)
fit_untagged hosts cubes (entry ∷ past) fit =
    fit_untagged hosts cubes past (All-tail (FitsCase hosts cubes) entry past fit)

pub subject_untagged : (case log : List ℕ) (subject : SubjectFields) →
    subject_of case log ≡ Ok subject → IsUntagged (reverse subject.log.entries)
subject_untagged case log subject is =
    let hosts = subject.case.net.hosts in
    let cubes = length subject.case.net.cubes in
    fit_untagged hosts cubes (reverse subject.log.entries)
    (All-reverse (FitsCase hosts cubes) subject.log.entries (subject_fits case log subject is))
