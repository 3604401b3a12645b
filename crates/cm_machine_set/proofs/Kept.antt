-- What is kept in a set's lists is what is on its way.
use Rattle.std.proofs.Common.{◌≡◌, ℕ, ◌+◌, Bool, true, false, List, [], ◌∷◌, length, Option, Some, None, refl, ap, ◌∙◌, arith}
use Rattle.std.specs.Prelude.{if◌then◌else◌}
use Rattle.cm_abi_model.specs.HandleLeaves.{owned_in}
use Rattle.cm_abi_model.specs.Receives.{HandleLeaf}
use Rattle.cm_abi_model.specs.Scanned.{IsInOrder, Scanned}
use Rattle.cm_abi_model.specs.declared.record.PartRecord.{PartRecord}
use Rattle.cm_machine_model.specs.State.{Passage, State}
use Rattle.cm_machine_model.specs.declared.frame.Work.{Work}
use Rattle.cm_machine_model.specs.Work.{IsKeptOf, IsValueOf, handles_kept, lends_kept, records_kept, top_call, work_of}
use Rattle.cm_machine_parts.specs.declared.passing.Passing.{Passing}
use Rattle.cm_machine_parts.specs.States.{passage_of}

value_of : (b : Bool) (p : Passage) (k : Scanned) → k.parts.records ≡ p.records → k.handles ≡ p.leaves → k.has_value ≡ b → IsValueOf (if b then Some p else None) k
value_of true p k records handles is = (records, handles)
value_of false p k records handles is = is

pub kept_of : (p : Passing) → IsInOrder p.scan → IsKeptOf (passage_of p) p.scan
kept_of p order = record { order = order; value = value_of p.scan.has_value _ p.scan refl refl refl }

none_owned : (ls : List HandleLeaf) → length ls ≡ 0 → length (owned_in ls) ≡ 0
none_owned [] none = refl
none_owned (l ∷ ls) none = absurd (omega (arith, none))

pub records_are : (o : Option Passage) (k : Scanned) → IsKeptOf o k → length k.parts.records ≡ records_kept o
records_are None k is = omega (arith, is.order.empty is.value)
records_are (Some p) k is = ap (λ (rs : List PartRecord). length rs) is.value.0

pub handles_are : (o : Option Passage) (k : Scanned) → IsKeptOf o k → length (owned_in k.handles) ≡ handles_kept o
handles_are None k is = none_owned k.handles (omega (arith, is.order.empty is.value))
handles_are (Some p) k is = ap (λ (ls : List HandleLeaf). length (owned_in ls)) is.value.1

abbrev pub work : ℕ → ℕ → ℕ → Work
work records handles lends = record { records = records; handles = handles; lends = lends }

-- what is kept in a set's lists is what is told of it
pub work_is : (s : State) (k : Scanned) (records handles lends : ℕ) → IsKeptOf s.passage k → records ≡ length k.parts.records → handles ≡ length (owned_in k.handles) → lends ≡ lends_kept (top_call s.stack) s.lends
    → work records handles lends ≡ work_of s
work_is s k records handles lends is r h l =
    ap (λ (n : ℕ). work n handles lends) (r ∙ records_are s.passage k is)
    ∙ ap (λ (n : ℕ). work (records_kept s.passage) n lends) (h ∙ handles_are s.passage k is)
    ∙ ap (λ (n : ℕ). work (records_kept s.passage) (handles_kept s.passage) n) l
