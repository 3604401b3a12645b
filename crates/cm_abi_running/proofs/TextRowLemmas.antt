-- What looking at strings in a row comes to.
use Rattle.std.proofs.Common.{◌≡◌, ℕ, ◌+◌, List, subst}
use Rattle.std.specs.Prelude.{Result, ⊤}
use Rattle.cm_abi_model.specs.declared.encoding.StringEncoding.{StringEncoding}
use Rattle.cm_abi_model.specs.declared.record.PartRecord.{PartRecord}
use Rattle.cm_abi_load.specs.declared.stop.Stop.{Stop}
use Rattle.cm_abi_load.specs.Outcomes.{State}
use Rattle.cm_abi_load.specs.Reading.{Source}
use Rattle.cm_abi_programs.specs.Checks.{one_check, text_check}
use Rattle.cm_abi_running.specs.Checking.{Numbers, all_checked, checked, text_checked}
use Rattle.cm_abi_running.proofs.LookedLemmas.{followed_none}
use Rattle.cm_abi_running.specs.Looks.{Looks}
use Rattle.cm_abi_running.proofs.LookLemmas.{looks_so}

-- a string alone
module _ (w : Source) (t : StringEncoding) (f : Numbers) where
  pub one_text : (at p n m : ℕ) (s u : State) (old new : List PartRecord) (r : Result ⊤ Stop) → n ≡ f.number 4 (p + at) → m ≡ f.number 4 (p + at + f.length_behind)
      → Looks (text_checked w t n m s) old new s u r → Looks (all_checked w t f (one_check (text_check at)) p s) old new s u r
  one_text at p n m s u old new r first second looks =
      looks_so (all_checked w t f (one_check (text_check at)) p s) (checked w t f (text_check at) p s) old new s u r (followed_none (checked w t f (text_check at) p s))
      (subst (λ y. Looks (text_checked w t (f.number 4 (p + at)) y s) old new s u r) second (subst (λ x. Looks (text_checked w t x m s) old new s u r) first looks))
