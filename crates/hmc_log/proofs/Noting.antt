-- What is kept of the entries, when one is added.
use Rattle.std.proofs.Common.{◌≡◌, ◌∙◌, ℕ, zero, suc, ◌+◌, ◌==◌, ◌&&◌, Bool, true, false, Option, Some, None, List, [], ◌∷◌, replicate, refl, sym, ap}
use Rattle.std.specs.Prelude.{slice_index_or, if◌then◌else◌}
use Rattle.hmc_codes.specs.Request.{RequestFields}
use Rattle.hmc_codes.specs.declared.answer.Answer.{Answer}
use Rattle.hmc_codes.specs.declared.command.Command.{Command}
use Rattle.hmc_entries.specs.declared.entry.Entry.{Entry}
use Rattle.hmc_entries.specs.declared.entry.Entry.TheVariants.{Gave, Took, Retired}
use Rattle.hmc_log.specs.Before.{out_under, given_by, is_retired}
use Rattle.hmc_log.specs.declared.counts.Counts.{Counts}
use Rattle.hmc_log.specs.Counts.{command_at, IsSet, Knows}

-- no place of equal ones has another
same_places : {A : Type 0} (n k : ℕ) (x : A) → slice_index_or (replicate n x) k x ≡ x
same_places zero k x = refl
same_places (suc n) zero x = refl
same_places (suc n) (suc k) x = same_places n k x

no_command : (n k : ℕ) (tag : ℕ) →
    command_at (replicate n (replicate 2048 None)) k tag ≡ None
no_command zero k tag = refl
no_command (suc n) zero tag = same_places 2048 tag None
no_command (suc n) (suc k) tag = no_command n k tag

-- at first nothing is known
pub Knows-nothing : (counts : Counts) → counts.out ≡ replicate 8 (replicate 2048 None) →
    counts.given ≡ replicate 8 0 → counts.retired ≡ replicate 8 false → Knows counts []
unfolding out_under given_by is_retired
Knows-nothing counts out given retired = record {
  out = λ h t. ap (λ o. command_at o h t) out ∙ no_command 8 h t;
  given = λ h. ap (λ o. slice_index_or o h 0) given ∙ same_places 8 h 0;
  retired = λ s. ap (λ o. slice_index_or o s false) retired ∙ same_places 8 s false;
}

-- a host gave one more
abbrev IsMore : (old new : List ℕ) → (host : ℕ) → Type 0
IsMore old new host = (h : ℕ) → slice_index_or new h 0 ≡
    (if host == h then slice_index_or old h 0 + 1 else slice_index_or old h 0)

given_more : (old new : List ℕ) (host : ℕ) (tag : Option ℕ) (poisoned : Bool)
    (request : RequestFields) (past : List Entry) → IsMore old new host →
    ((h : ℕ) → slice_index_or old h 0 ≡ given_by h past) → (h : ℕ) →
    slice_index_or new h 0 ≡ given_by h (Gave host tag poisoned request ∷ past)
unfolding given_by
given_more old new host tag poisoned request past more knows h =
    more h ∙ ap (λ n. if host == h then n + 1 else n) (knows h)

pub Knows-given : (old mid new : Counts) (host t : ℕ) (tag : Option ℕ) (command : Command)
    (poisoned : Bool) (request : RequestFields) (past : List Entry) → tag ≡ Some t →
    request.command ≡ command →
    IsMore old.given mid.given host → mid.out ≡ old.out → mid.retired ≡ old.retired →
    IsSet mid.out new.out host t (Some command) → new.given ≡ mid.given →
    new.retired ≡ mid.retired → Knows old past →
    Knows new (Gave host tag poisoned request ∷ past)
unfolding out_under is_retired
Knows-given old mid new host t tag command poisoned request past is of_command more kept same set
    gave still knows =
    rw is (record {
      out = λ h u. set h u ∙ ap
          (λ o. if host == h && t == u then Some command else command_at o h u) kept
          ∙ ap (λ o. if host == h && t == u then Some command else o) (knows.out h u)
          ∙ ap (λ c. if host == h && t == u then Some c else out_under h u past) (sym of_command);
      given = λ h. ap (λ o. slice_index_or o h 0) gave
          ∙ given_more old.given mid.given host (Some t) poisoned request past more knows.given h;
      retired = λ s. ap (λ o. slice_index_or o s false) (still ∙ same) ∙ knows.retired s;
    })

pub Knows-untagged : (old new : Counts) (host : ℕ) (tag : Option ℕ) (poisoned : Bool)
    (request : RequestFields) (past : List Entry) → tag ≡ None →
    IsMore old.given new.given host → new.out ≡ old.out → new.retired ≡ old.retired →
    Knows old past → Knows new (Gave host tag poisoned request ∷ past)
unfolding out_under is_retired
Knows-untagged old new host tag poisoned request past is more kept same knows =
    rw is (record {
      out = λ h u. ap (λ o. command_at o h u) kept ∙ knows.out h u;
      given = given_more old.given new.given host None poisoned request past more knows.given;
      retired = λ s. ap (λ o. slice_index_or o s false) same ∙ knows.retired s;
    })

pub Knows-taken : (old new : Counts) (host tag : ℕ) (answer : Answer) (past : List Entry) →
    IsSet old.out new.out host tag None → new.given ≡ old.given → new.retired ≡ old.retired →
    Knows old past → Knows new (Took host tag answer ∷ past)
unfolding out_under given_by is_retired
Knows-taken old new host tag answer past set gave same knows = record {
  out = λ h u. set h u ∙ ap (λ o. if host == h && tag == u then None else o) (knows.out h u);
  given = λ h. ap (λ o. slice_index_or o h 0) gave ∙ knows.given h;
  retired = λ s. ap (λ o. slice_index_or o s false) same ∙ knows.retired s;
}

pub Knows-retired : (old new : Counts) (slot : ℕ) (past : List Entry) →
    ((s : ℕ) → slice_index_or new.retired s false ≡
    (if slot == s then true else slice_index_or old.retired s false)) → new.out ≡ old.out →
    new.given ≡ old.given → Knows old past → Knows new (Retired slot ∷ past)
unfolding out_under given_by is_retired
Knows-retired old new slot past set kept gave knows = record {
  out = λ h u. ap (λ o. command_at o h u) kept ∙ knows.out h u;
  given = λ h. ap (λ o. slice_index_or o h 0) gave ∙ knows.given h;
  retired = λ s. set s ∙ ap (λ b. if slot == s then true else b) (knows.retired s);
}
