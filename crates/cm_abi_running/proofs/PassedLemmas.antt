-- What looking at what a call passes comes to.
use Rattle.std.proofs.Common.{◌≡◌, ℕ, ◌+◌, ◌%◌, ◌<◌, ◌≤◌, List, [], ◌∷◌, ◌++◌, append_assoc, length, refl, sym, ap, subst, ◌∙◌, arith}
use Rattle.std.proofs.lemmas.Bool.{le-ltb, lt-ltb}
use Rattle.std.proofs.lemmas.Bool.Decides.{nat_tests}
use Rattle.std.specs.Prelude.{Bool, true, false, not, ◌==◌, nat_lt, if◌then◌else◌, Result, Ok, Err, ⊤}
use Rattle.cm_types.specs.declared.core_value.CoreValue.{CoreValue}
use Rattle.cm_layout.specs.Shapes.{LayoutTy}
use Rattle.cm_layout.specs.declared.heads.Head.{Head}
use Rattle.cm_abi_model.specs.Numbers.{wrapped_at}
use Rattle.cm_abi_model.specs.declared.encoding.StringEncoding.{StringEncoding}
use Rattle.cm_abi_model.specs.declared.fault.AbiFault.TheVariants as fault
use Rattle.cm_abi_model.specs.declared.record.PartRecord.{PartRecord}
use Rattle.cm_abi_load.specs.declared.stop.Stop.{Stop}
use Rattle.cm_abi_load.specs.declared.stop.Stop.TheVariants as stop
use Rattle.cm_abi_load.specs.Making.{HasMore, KeepsHandles}
use Rattle.cm_abi_load.specs.Outcomes.{State, mapped}
use Rattle.cm_abi_load.specs.Reading.{Source}
use Rattle.cm_abi_load.specs.Records.{element_record}
use Rattle.cm_abi_programs.specs.Checks.{Checks, checks_of, flat_checks_of, passed_checks_of}
use Rattle.cm_abi_running.specs.Checking.{Looked, all_checked, in_memory, in_slots, passed_checked, spilled_checked}
use Rattle.cm_abi_running.specs.Looks.{Looks}
use Rattle.cm_abi_running.proofs.LookLemmas.{looks_so}
use Rattle.cm_abi_running.proofs.LookingLemmas.{keeps_all}

-- in more core values than may pass it, or not
pub wide_checks : (limit : ℕ) (l : LayoutTy) → limit < l.head.width → passed_checks_of limit l ≡ checks_of l.shape
wide_checks limit l wide = rw (lt-ltb limit l.head.width wide) refl

pub narrow_checks : (limit : ℕ) (l : LayoutTy) → l.head.width ≤ limit → passed_checks_of limit l ≡ flat_checks_of l.shape
narrow_checks limit l narrow = rw (le-ltb limit l.head.width narrow) refl

module _ (w : Source) (t : StringEncoding) where
  pub wide_looked : (limit : ℕ) (e : Head) (cs : Checks) (slots : List CoreValue) (s u : State) (old new : List PartRecord) (r : Result ⊤ Stop) (at : ℕ) → limit < e.width → at ≡ wrapped_at 4 slots 0
      → Looks (spilled_checked w t e cs at s) old new s u r → Looks (passed_checked w t limit e cs slots s) old new s u r
  wide_looked limit e cs slots s u old new r at wide is looks =
      looks_so (passed_checked w t limit e cs slots s) (spilled_checked w t e cs at s) old new s u r
      (rw (lt-ltb limit e.width wide) (ap (λ p. spilled_checked w t e cs p s) (sym is))) looks

  pub narrow_looked : (limit : ℕ) (e : Head) (cs : Checks) (slots : List CoreValue) (s u : State) (old new : List PartRecord) (r : Result ⊤ Stop) → e.width ≤ limit
      → Looks (all_checked w t (in_slots slots) cs 0 s) old new s u r → Looks (passed_checked w t limit e cs slots s) old new s u r
  narrow_looked limit e cs slots s u old new r narrow looks =
      looks_so (passed_checked w t limit e cs slots s) (all_checked w t (in_slots slots) cs 0 s) old new s u r (rw (le-ltb limit e.width narrow) refl) looks

  module _ (e : Head) (cs : Checks) (at : ℕ) (s : State) where
    pub misaligned : (not (at % e.align == 0)) ≡ true → spilled_checked w t e cs at s ≡ Err (fault.Misaligned, s)
    misaligned bad = rw bad refl

    pub beyond : (not (at % e.align == 0)) ≡ false → length w.memory < at + e.size → spilled_checked w t e cs at s ≡ Err (fault.PointerBounds, s)
    beyond aligned past = rw (aligned, lt-ltb (length w.memory) (at + e.size) past) refl

    inside : (not (at % e.align == 0)) ≡ false → at + e.size ≤ length w.memory → spilled_checked w t e cs at s ≡ mapped (λ rs. element_record e at 1 ∷ rs) (all_checked w t (in_memory w.memory) cs at s)
    inside aligned within = rw (aligned, le-ltb (length w.memory) (at + e.size) within) refl

    more_behind : (q : Looked) → KeepsHandles s q → HasMore (λ (rs : List PartRecord). rs) s (mapped (λ rs. element_record e at 1 ∷ rs) q)
    more_behind (Ok x) kept = omega (arith, kept)
    more_behind (Err f) kept = tt

    pub spilled_more : (not (at % e.align == 0)) ≡ false → at + e.size ≤ length w.memory → HasMore (λ (rs : List PartRecord). rs) s (spilled_checked w t e cs at s)
    spilled_more aligned within =
        subst (λ q. HasMore (λ (rs : List PartRecord). rs) s q) (sym (inside aligned within))
        (more_behind (all_checked w t (in_memory w.memory) cs at s) (keeps_all w t (in_memory w.memory) cs at s))

    pub spilled_looked : (old now new : List PartRecord) (u : State) (r : Result ⊤ Stop) → (not (at % e.align == 0)) ≡ false → at + e.size ≤ length w.memory → now ≡ old ++ element_record e at 1 ∷ []
        → Looks (all_checked w t (in_memory w.memory) cs at s) now new s u r → Looks (spilled_checked w t e cs at s) old new s u r
    spilled_looked old now new u (Ok a) aligned within kept looks =
        (element_record e at 1 ∷ looks.0, inside aligned within ∙ ap (λ q. mapped (λ rs. element_record e at 1 ∷ rs) q) looks.1, looks.2 ∙ (ap (λ xs. xs ++ looks.0) kept ∙ append_assoc old (element_record e at 1 ∷ []) looks.0))
    spilled_looked old now new u (Err stop.Memory) aligned within kept looks = spilled_more aligned within
    spilled_looked old now new u (Err (stop.Fault f)) aligned within kept looks = inside aligned within ∙ ap (λ q. mapped (λ rs. element_record e at 1 ∷ rs) q) looks

-- whether a number is a multiple, as a test
pub test_some : (n : ℕ) → (n ≡ 0 → ⊥) → (not (n == 0)) ≡ true
test_some n some = grind (arith, nat_tests, some)

pub test_none : (n : ℕ) → n ≡ 0 → (not (n == 0)) ≡ false
test_none n none = rw none refl
