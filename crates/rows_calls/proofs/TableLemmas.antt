-- How often the handles of a table are lent.
use Rattle.std.proofs.Common.{◌≡◌, ℕ, zero, suc, ◌^◌, ◌<◌, inl, inr, Some, sym, ap, subst, ◌∙◌, arith}
use Rattle.std.proofs.lemmas.Bool.{cases_eq}
use Rattle.cm_handles.specs.Handles.{Changes, Handles, handle_at, no_handles}
use Rattle.cm_handles.specs.declared.handle.Handle.{Handle}
use Rattle.cm_abi_model.specs.Lifts.{LendsBelow}
use Rattle.cm_handles.proofs.HandleLaws.{some_is}

pub added : (n : ℕ) (old new : Handles) (i : ℕ) (h : Handle) → LendsBelow n old → h.lends < n → Changes old new i (Some h) → LendsBelow n new
added n old new i h below few changes j x e = elim (cases_eq j i) [
  | inl same ↦ let is : h ≡ x = some_is (sym changes.here ∙ (ap (handle_at new) (sym same) ∙ e)) in subst (λ (y : Handle). y.lends < n) is few
  | inr other ↦ below j x (sym (changes.others j other) ∙ e)
]

pub none_lent : (n : ℕ) → LendsBelow n no_handles
none_lent n zero h e = absurd (cc)
none_lent n (suc i) h e = absurd (cc)

pub weaker : (t : Handles) → LendsBelow 256 t → LendsBelow (2 ^ 100) t
weaker t below i h e = let lt : h.lends < 256 = below i h e in omega (arith, lt)

pub ruleset lends = (added, none_lent, weaker)
