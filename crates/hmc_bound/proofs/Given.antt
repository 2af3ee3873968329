-- Where each request was given no host gives one more.
use Rattle.std.proofs.Common.{◌≡◌, ◌≤◌, ◌<◌, ◌==◌, ℕ, Bool, true, false, Some, List, [], ◌∷◌, ◌++◌, length, slice_get, refl, subst, arith}
use Rattle.std.proofs.lemmas.Bool.{eqb-true}
use Rattle.std.proofs.lemmas.Option.{slice_get_within}
use Rattle.hmc_host.specs.Host.{items_of}
use Rattle.hmc_entries.specs.declared.entry.Entry.{Entry}
use Rattle.hmc_entries.specs.declared.entry.Entry.TheVariants.{Gave}
use Rattle.hmc_journal.specs.Hosts.{host_of, given_count, count_if}
use Rattle.hmc_journal.specs.Lawful.{Lawful}
use Rattle.hmc_journal.specs.Setup.{Setup}
use Rattle.hmc_journal.proofs.EntryRule.{entry_rule, lawful_past}
use Rattle.hmc_rounds.proofs.Journals.{given_more}
use Rattle.hmc_bound.specs.Ends.{AllGiven}

below : (setup : Setup) (host : ℕ) (past : List Entry) (item : _) →
    slice_get (items_of host setup.script) (given_count host past) ≡ Some item →
    given_count host past < length (items_of host setup.script)
below setup host past item is =
    slice_get_within (items_of host setup.script) (given_count host past) item is

counted : (b : Bool) (n m : ℕ) → n ≤ m → (b ≡ true → n < m) → count_if b n ≤ m
counted true n m le lt = omega (arith, lt refl)
counted false n m le lt = le

few_more : (setup : Setup) (host : ℕ) (entry : Entry) (past : List Entry) →
    Lawful setup (entry ∷ past) → given_count host past ≤ length (items_of host setup.script) →
    given_count host (entry ∷ past) ≤ length (items_of host setup.script)
unfolding given_count host_of
few_more setup host (Gave h tag poisoned request) past lawful le =
    let has = entry_rule setup (Gave h tag poisoned request) past lawful in
    counted (h == host) (given_count host past) (length (items_of host setup.script)) le
    (λ e. subst (λ (k : ℕ). given_count k past < length (items_of k setup.script))
    (eqb-true h host e) (below setup h past has.item has.is_next))
few_more setup host _ past lawful le = le

few_given : (setup : Setup) (host : ℕ) (past : List Entry) → Lawful setup past →
    given_count host past ≤ length (items_of host setup.script)
unfolding given_count
few_given setup host [] lawful = omega arith
few_given setup host (entry ∷ past) lawful =
    few_more setup host entry past lawful
    (few_given setup host past (lawful_past setup entry past lawful))

more_given : (host : ℕ) (later past : List Entry) →
    given_count host past ≤ given_count host (later ++ past)
more_given host [] past = omega arith
more_given host (entry ∷ later) past =
    omega (arith, more_given host later past, given_more host entry (later ++ past))

pub gives_idle : (setup : Setup) (past later : List Entry) → Lawful setup (later ++ past) →
    AllGiven setup past → (host : ℕ) → given_count host (later ++ past) ≡ given_count host past
gives_idle setup past later lawful all host =
    omega (arith, few_given setup host (later ++ past) lawful, more_given host later past, all host)
