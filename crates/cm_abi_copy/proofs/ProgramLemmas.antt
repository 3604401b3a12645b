-- What is looked at by checks is scanned.
use Rattle.std.proofs.Common.{◌≡◌, ◌+◌, ◌<◌, List, ◌++◌, length, refl, sym, ap, ◌∙◌, arith}
use Rattle.std.proofs.lemmas.List.{length-append}
use Rattle.std.specs.Prelude.{Result, Ok, Err, ⊤}
use Rattle.cm_types.specs.Values.{Val}
use Rattle.cm_abi_model.specs.declared.record.PartRecord.{PartRecord}
use Rattle.cm_abi_load.specs.declared.stop.Stop.{Stop}
use Rattle.cm_abi_load.specs.declared.stop.Stop.TheVariants as stop
use Rattle.cm_abi_load.specs.Making.{HasMore}
use Rattle.cm_abi_load.specs.Outcomes.{Outcome, State, mapped}
use Rattle.cm_abi_lift.specs.Keeping.{KeepsMore, count_kept}
use Rattle.cm_abi_lift.specs.Records.{Scans, ScansToKeep}
use Rattle.cm_abi_running.specs.Checking.{Looked}
use Rattle.cm_abi_running.specs.Looks.{Looks}

behind : (old : List PartRecord) (R : Val → List PartRecord) (r : Outcome Val) → mapped (λ v. old ++ R v) r ≡ mapped (λ rs. old ++ rs) (mapped R r)
behind old R (Ok x) = refl
behind old R (Err e) = refl

more : (R : Val → List PartRecord) (old : List PartRecord) (s : State) (r : Outcome Val) → HasMore (λ (rs : List PartRecord). rs) s (mapped R r) → KeepsMore (count_kept old s) (mapped (λ v. old ++ R v) r)
more R old s (Ok x) has = omega (arith, has, length-append old (R x.0))
more R old s (Err e) has = tt

module _ (R : Val → List PartRecord) (read : State → Outcome Val) (looked : Looked) (old new : List PartRecord) (s t : State) (is : looked ≡ mapped R (read s)) where
  pub looks_scan : (result : Result ⊤ Stop) → Looks looked old new s t result → Scans R read old new s t result
  looks_scan (Ok u) looks =
      behind old R (read s)
      ∙ ap (λ q. mapped (λ rs. old ++ rs) q) (sym is ∙ looks.1)
      ∙ ap (λ rs. read_ok rs) (sym looks.2)
    where
      read_ok : List PartRecord → Outcome (List PartRecord)
      read_ok rs = Ok (rs, t)
  looks_scan (Err stop.Memory) looks = tt
  looks_scan (Err (stop.Fault f)) looks = behind old R (read s) ∙ ap (λ q. mapped (λ rs. old ++ rs) q) (sym is ∙ looks)

  pub looks_keep : (result : Result ⊤ Stop) → Looks looked old new s t result → ScansToKeep R read old s result
  looks_keep (Ok u) looks = tt
  looks_keep (Err stop.Memory) looks = more R old s (read s) (rw is at looks)
  looks_keep (Err (stop.Fault f)) looks = tt
