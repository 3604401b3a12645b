-- How many handles were handed over.
use Rattle.std.proofs.Common.{◌≡◌, ℕ, ◌+◌, List, [], ◌∷◌, length, Ok, Err, refl, arith, ap, length-append}
use Rattle.std.specs.Prelude.{Result}
use Rattle.cm_handles.specs.Handles.{look_up, if_not_lent, if_owned}
use Rattle.cm_handles.specs.declared.handle.Handle.{Handle}
use Rattle.cm_handles.specs.declared.fault.HandleFault.{HandleFault}
use Rattle.cm_layout.specs.declared.layouts.HandleType.{HandleType}
use Rattle.cm_layout.specs.declared.layouts.HandleType.TheVariants as handle_type
use Rattle.cm_abi_load.specs.declared.progress.MetHandle.{MetHandle}
use Rattle.cm_abi_model.specs.declared.fault.AbiFault.{AbiFault}
use Rattle.cm_abi_model.specs.Lifts.{Hands}
use Rattle.cm_abi_lift.specs.HandingOver.{hand_one, hand_over, taken_out, lent_out, hand_next}

abbrev count_of : Hands → ℕ
count_of h = length h.owns + length h.lends

same_Ok : (a b : Hands) → ◌≡◌ {A = Result Hands AbiFault} (Ok a) (Ok b) → count_of a ≡ count_of b
same_Ok a b e = ap (λ (r : Result Hands AbiFault). by r) e where
  by : Result Hands AbiFault → ℕ
  by (Ok h) = count_of h
  by (Err f) = 0

taken : (h k : Hands) (i : ℕ) (r : Result Handle HandleFault) → taken_out h i r ≡ Ok k → count_of k ≡ count_of h + 1
taken h k i (Ok entry) e = omega (arith, same_Ok _ k e, length-append h.owns (entry ∷ []))
taken h k i (Err f) e = absurd (cc)

lent : (h k : Hands) (i : ℕ) (r : Result Handle HandleFault) → lent_out h i r ≡ Ok k → count_of k ≡ count_of h + 1
lent h k i (Ok entry) e = omega (arith, same_Ok _ k e, length-append h.lends (i ∷ []))
lent h k i (Err f) e = absurd (cc)

one : (h k : Hands) (t : HandleType) (i : ℕ) → hand_one h t i ≡ Ok k → count_of k ≡ count_of h + 1
unfolding hand_one
one h k (handle_type.Own r) i e = taken h k i (if_owned (if_not_lent (look_up h.table i r))) e
one h k (handle_type.Borrow r) i e = lent h k i (look_up h.table i r) e

over : (h k : Hands) (ms : List MetHandle) → hand_over h ms ≡ Ok k → count_of k ≡ count_of h + length ms
over h k [] e = omega (arith, same_Ok h k e)
over h k (m ∷ ms) e = by (hand_one h m.wanted m.index) refl e (λ x. over x k ms) where
  by : (r : Result Hands AbiFault) → hand_one h m.wanted m.index ≡ r → hand_next r (λ x. hand_over x ms) ≡ Ok k → ((x : Hands) → hand_over x ms ≡ Ok k → count_of k ≡ count_of x + length ms)
      → count_of k ≡ count_of h + length (m ∷ ms)
  by (Ok x) is e rest = omega (arith, one h x m.wanted m.index is, rest x e)
  by (Err f) is e rest = absurd (cc)

-- each handle that was met was taken or lent
pub all_handed : (h k : Hands) (ms : List MetHandle) → hand_over h ms ≡ Ok k → count_of h ≡ 0 → length k.owns + length k.lends ≡ length ms
all_handed h k ms e none = omega (arith, over h k ms e, none)
