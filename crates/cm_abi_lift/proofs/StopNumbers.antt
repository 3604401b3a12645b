-- Lifting stops at the faults of lifting alone, which are the traps 4 to 13.
use Rattle.std.proofs.Common.{◌≡◌, ℕ, zero, suc, ◌+◌, ◌*◌, ◌≤◌, inl, inr, Bool, true, false, List, [], ◌∷◌, ◌++◌, sym, subst, arith}
use Rattle.cm_types.specs.declared.core_value.CoreValue.{CoreValue}
use Rattle.cm_types.specs.declared.resource.ResourceId.{ResourceId}
use Rattle.cm_types.specs.Types.{Ty, Fields, Cases, bool, signed, unsigned, char, string, list, fixed_list, fields, cases, flags, own, borrow, no_fields, field, no_cases, plain, carrying}
use Rattle.cm_types.specs.Values.{Val}
use Rattle.cm_handles.specs.Handles.{Handles}
use Rattle.cm_layout.specs.Alignment.{align_to}
use Rattle.cm_layout.specs.Sizes.{align_of, size_of, case_count, discriminant_size, payload_offset}
use Rattle.cm_abi_model.specs.declared.fault.AbiFault.{AbiFault}
use Rattle.cm_abi_model.specs.declared.fault.AbiFault.TheVariants as fault
use Rattle.cm_abi_model.specs.Faults.{abi_fault_number}
use Rattle.cm_abi_model.specs.FlatShows.{width_of}
use Rattle.cm_abi_model.specs.Numbers.{number_at, wrapped_at}
use Rattle.cm_abi_model.specs.Requests.{is_spilled, tuple_of}
use Rattle.cm_abi_model.specs.Taken.{Met, after_met, content, met_at, met_flat}
use Rattle.cm_abi_model.specs.Texts.{text_align, text_size}
use Rattle.cm_abi_model.specs.Views.{View, Way}
use Rattle.cm_abi_model.specs.LiftStops.{BorrowStops, CaseStops, CharStops, ContentStops, EachStops, FieldsStop, FlatCaseStops, FlatFieldsStop, FlatStopsAt, IsLiftedAt, IsLiftedFlat, LiftStops, LiftStopsBy, ListStops, OwnStops, PointerStops, StopsAt, TextStops}

abbrev pub IsOfLifting : AbiFault → Type 0
IsOfLifting f = (4 ≤ abi_fault_number f) × (abi_fault_number f ≤ 13)

pointer_number : (memory : List ℕ) (align at size : ℕ) (f : AbiFault) → PointerStops memory align at size f → IsOfLifting f
pointer_number memory align at size fault.Misaligned h = (omega arith, omega arith)
pointer_number memory align at size fault.PointerBounds h = (omega arith, omega arith)
pointer_number memory align at size f h = absurd h

content_number : (memory : List ℕ) (align at size : ℕ) (ms : List Met) (f : AbiFault) → ContentStops memory align at size ms f → IsOfLifting f
content_number memory align at size ms fault.TooLarge h = (omega arith, omega arith)
content_number memory align at size ms f h = pointer_number memory align at size f h

text_number : (w : View) (at n : ℕ) (ms : List Met) (f : AbiFault) → TextStops w at n ms f → IsOfLifting f
text_number w at n ms fault.BadText h = (omega arith, omega arith)
text_number w at n ms f h = content_number w.memory (text_align w.encoding) at (text_size w.encoding n) ms f h

char_number : (c : ℕ) (f : AbiFault) → CharStops c f → IsOfLifting f
char_number c f h = subst IsOfLifting (sym h.0) (omega arith, omega arith)

case_number : (f : AbiFault) → f ≡ fault.BadCase → IsOfLifting f
case_number f e = subst IsOfLifting (sym e) (omega arith, omega arith)

borrow_number : (t : Handles) (r : ResourceId) (i : ℕ) (f : AbiFault) → BorrowStops t r i f → IsOfLifting f
borrow_number t r i fault.NoHandle h = (omega arith, omega arith)
borrow_number t r i fault.WrongResource h = (omega arith, omega arith)
borrow_number t r i f h = absurd h

own_number : (t : Handles) (r : ResourceId) (i : ℕ) (f : AbiFault) → OwnStops t r i f → IsOfLifting f
own_number t r i fault.StillLent h = (omega arith, omega arith)
own_number t r i fault.NotOwned h = (omega arith, omega arith)
own_number t r i f h = borrow_number t r i f h

each_number : (S : ℕ → List Met → AbiFault → Type 0) (L : ℕ → List Met → Val → Type 0) (M : ℕ → Val → List Met) → ((p : ℕ) (ms : List Met) (f : AbiFault) → S p ms f → IsOfLifting f)
    → (size n p : ℕ) (ms : List Met) (f : AbiFault) → EachStops S L M size n p ms f → IsOfLifting f
each_number S L M one size zero p ms f h = absurd h
each_number S L M one size (suc n) p ms f (inl x) = one p ms f x
each_number S L M one size (suc n) p ms f (inr x) = each_number S L M one size n (p + size) (ms ++ M p x.0) f x.2

list_number : (w : View) (S : ℕ → List Met → AbiFault → Type 0) (L : ℕ → List Met → Val → Type 0) (M : ℕ → Val → List Met) → ((p : ℕ) (ms : List Met) (f : AbiFault) → S p ms f → IsOfLifting f)
    → (align size at n : ℕ) (ms : List Met) (f : AbiFault) → ListStops w S L M align size at n ms f → IsOfLifting f
list_number w S L M one align size at n ms f (inl x) = content_number w.memory align at (n * size) ms f x
list_number w S L M one align size at n ms f (inr x) = each_number S L M one size n at (ms ++ content (n * size) ∷ []) f x.1

mutual
  at_number : (w : View) (t : Ty) (p : ℕ) (ms : List Met) (f : AbiFault) → StopsAt w t p ms f → IsOfLifting f
  at_number w bool p ms f h = absurd h
  at_number w (signed k) p ms f h = absurd h
  at_number w (unsigned k) p ms f h = absurd h
  at_number w char p ms f h = char_number (number_at 4 w.memory p) f h
  at_number w string p ms f h = text_number w (number_at 4 w.memory p) (number_at 4 w.memory (p + 4)) ms f h
  at_number w (list t) p ms f h =
      list_number w (StopsAt w t) (IsLiftedAt w t) (met_at w t) (λ q ns g x. at_number w t q ns g x) (align_of t) (size_of t) (number_at 4 w.memory p) (number_at 4 w.memory (p + 4)) ms f h
  at_number w (fixed_list t n) p ms f h = each_number (StopsAt w t) (IsLiftedAt w t) (met_at w t) (λ q ns g x. at_number w t q ns g x) (size_of t) n p ms f h
  at_number w (fields k fs) p ms f h = fields_number w fs p 0 ms f h
  at_number w (cases k cs) p ms f h = cases_number w cs (number_at (discriminant_size (case_count cs)) w.memory p) (p + payload_offset cs) ms f h
  at_number w (flags ls) p ms f h = absurd h
  at_number w (own r) p ms f h = own_number (after_met w.table ms) r (number_at 4 w.memory p) f h
  at_number w (borrow r) p ms f h = borrow_number (after_met w.table ms) r (number_at 4 w.memory p) f h

  fields_number : (w : View) (fs : Fields) (p end : ℕ) (ms : List Met) (f : AbiFault) → FieldsStop w fs p end ms f → IsOfLifting f
  fields_number w no_fields p end ms f h = absurd h
  fields_number w (field l t fs) p end ms f (inl x) = at_number w t (p + align_to (align_of t) end) ms f x
  fields_number w (field l t fs) p end ms f (inr x) =
      fields_number w fs p (align_to (align_of t) end + size_of t) (ms ++ met_at w t (p + align_to (align_of t) end) x.0) f x.2

  cases_number : (w : View) (cs : Cases) (i p : ℕ) (ms : List Met) (f : AbiFault) → CaseStops w cs i p ms f → IsOfLifting f
  cases_number w no_cases i p ms f h = case_number f h
  cases_number w (plain l cs) zero p ms f h = absurd h
  cases_number w (plain l cs) (suc i) p ms f h = cases_number w cs i p ms f h
  cases_number w (carrying l t cs) zero p ms f h = at_number w t p ms f h
  cases_number w (carrying l t cs) (suc i) p ms f h = cases_number w cs i p ms f h

mutual
  flat_number : (w : View) (s : List CoreValue) (t : Ty) (k : ℕ) (ms : List Met) (f : AbiFault) → FlatStopsAt w s t k ms f → IsOfLifting f
  flat_number w s bool k ms f h = absurd h
  flat_number w s (signed b) k ms f h = absurd h
  flat_number w s (unsigned b) k ms f h = absurd h
  flat_number w s char k ms f h = char_number (wrapped_at 4 s k) f h
  flat_number w s string k ms f h = text_number w (wrapped_at 4 s k) (wrapped_at 4 s (k + 1)) ms f h
  flat_number w s (list t) k ms f h =
      list_number w (StopsAt w t) (IsLiftedAt w t) (met_at w t) (λ q ns g x. at_number w t q ns g x) (align_of t) (size_of t) (wrapped_at 4 s k) (wrapped_at 4 s (k + 1)) ms f h
  flat_number w s (fixed_list t n) k ms f h = each_number (FlatStopsAt w s t) (IsLiftedFlat w s t) (met_flat w s t) (λ q ns g x. flat_number w s t q ns g x) (width_of t) n k ms f h
  flat_number w s (fields c fs) k ms f h = flat_fields_number w s fs k ms f h
  flat_number w s (cases c cs) k ms f h = flat_cases_number w s cs (wrapped_at 4 s k) (k + 1) ms f h
  flat_number w s (flags ls) k ms f h = absurd h
  flat_number w s (own r) k ms f h = own_number (after_met w.table ms) r (wrapped_at 4 s k) f h
  flat_number w s (borrow r) k ms f h = borrow_number (after_met w.table ms) r (wrapped_at 4 s k) f h

  flat_fields_number : (w : View) (s : List CoreValue) (fs : Fields) (k : ℕ) (ms : List Met) (f : AbiFault) → FlatFieldsStop w s fs k ms f → IsOfLifting f
  flat_fields_number w s no_fields k ms f h = absurd h
  flat_fields_number w s (field l t fs) k ms f (inl x) = flat_number w s t k ms f x
  flat_fields_number w s (field l t fs) k ms f (inr x) = flat_fields_number w s fs (k + width_of t) (ms ++ met_flat w s t k x.0) f x.2

  flat_cases_number : (w : View) (s : List CoreValue) (cs : Cases) (i k : ℕ) (ms : List Met) (f : AbiFault) → FlatCaseStops w s cs i k ms f → IsOfLifting f
  flat_cases_number w s no_cases i k ms f h = case_number f h
  flat_cases_number w s (plain l cs) zero k ms f h = absurd h
  flat_cases_number w s (plain l cs) (suc i) k ms f h = flat_cases_number w s cs i k ms f h
  flat_cases_number w s (carrying l t cs) zero k ms f h = flat_number w s t k ms f h
  flat_cases_number w s (carrying l t cs) (suc i) k ms f h = flat_cases_number w s cs i k ms f h

by_number : (b : Bool) (w : View) (t : Ty) (slots : List CoreValue) (f : AbiFault) → LiftStopsBy b w t slots f → IsOfLifting f
by_number true w t slots f (inl x) = pointer_number w.memory (align_of t) (wrapped_at 4 slots 0) (size_of t) f x
by_number true w t slots f (inr x) = at_number w t (wrapped_at 4 slots 0) [] f x.1
by_number false w t slots f h = flat_number w slots t 0 [] f h

pub number : (w : View) (way : Way) (types : Fields) (slots : List CoreValue) (f : AbiFault) → LiftStops w way types slots f → IsOfLifting f
number w way types slots f h = by_number (is_spilled way types) w (tuple_of types) slots f h
