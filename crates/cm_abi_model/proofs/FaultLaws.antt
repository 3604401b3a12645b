-- Laws of what Fault defines, for this crate and those above it.
use Rattle.std.proofs.Common.{Result, List, Bool, ◌≡◌, Ok, Err, Some, None, true, false, refl, ℕ, ◌≤◌, sym, ap, arith}
use Rattle.std.proofs.lemmas.Bool.{le-ltb, ltb-false}
use Rattle.std.proofs.lemmas.Option.{none-some}
use Rattle.std.specs.Prelude.{if◌then◌else◌, not, nat_lt}
use Rattle.cm_abi_model.specs.Lifts.{Hands}
use Rattle.cm_abi_model.specs.declared.fault.AbiFault.{AbiFault}
use Rattle.cm_abi_model.specs.declared.fault.AbiFault.TheVariants as fault
use Rattle.cm_types.specs.Values.{Val}

pub not_both : (r : Result (Val × List Bool × Hands) AbiFault) (x : Val × List Bool × Hands) (f : AbiFault) → r ≡ Ok x → r ≡ Err f → ⊥
not_both r x f a b = cc

pub choice : (a b : Bool) → (if not a then Some fault.Misaligned else (if b then Some fault.PointerBounds else None)) ≡ None → (a ≡ true) × (b ≡ false)
choice true true h = absurd (cc)
choice true false h = (refl, refl)
choice false b h = absurd (cc)

pub by_bound : (n m x : ℕ) (c : Bool) → nat_lt n x ≡ c → n ≤ m → (if c then Some fault.PointerBounds else None) ≡ None → (if nat_lt m x then Some fault.PointerBounds else None) ≡ None
by_bound n m x true is le e = absurd (none-some fault.PointerBounds (sym e))
by_bound n m x false is le e = ap (λ (c : Bool). if c then Some fault.PointerBounds else None) (le-ltb m x (omega (arith, ltb-false n x is, le)))

pub still_fine_by : (n m : ℕ) (b : Bool) (x : ℕ) → n ≤ m → (if b then Some fault.Misaligned else (if nat_lt n x then Some fault.PointerBounds else None)) ≡ None → (if b then Some fault.Misaligned else (if nat_lt m x then Some fault.PointerBounds else None)) ≡ None
still_fine_by n m true x le e = absurd (none-some fault.Misaligned (sym e))
still_fine_by n m false x le e = by_bound n m x (nat_lt n x) refl le e
