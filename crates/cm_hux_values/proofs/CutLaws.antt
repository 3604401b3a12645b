-- A cut of a text of one front.
use Rattle.std.proofs.Common.{◌≡◌, ◌≤◌, ◌<◌, ◌+◌, ℕ, suc, false, true, List, ◌++◌, length, take, Option, Some, None, refl, sym, ap, ◌∙◌, arith, inl, inr, min, IfOk, Result, Ok, Err, subst, ◌⊎◌}
use Rattle.std.specs.Prelude.{codes}
use Rattle.std.specs.String.{string_bytes}
use Rattle.std.proofs.lemmas.List.{length-take, take_all, take-take}
use Rattle.std.specs.declared.alloc.AllocError.{AllocError}
use Rattle.cm_values.specs.Written.{front}
use Rattle.cm_hux_values.specs.Cut.{IsCutTo}
use Rattle.cm_hux_values.specs.declared.cutting.Said.{Said}

-- lists that are one up to a place behind the end of the first
same_short : (m : ℕ) (a s : List ℕ) → take (m + 1) a ≡ take (m + 1) s → length a ≤ m → a ≡ s
same_short m a s e le =
    let whole = take_all (m + 1) a (omega arith) in
    let count : length (take (m + 1) s) ≡ length a = ap length (sym e ∙ whole) in
    let least : min (m + 1) (length s) ≡ length a = sym (length-take (m + 1) s) ∙ count in
    let short : length s ≤ m = omega (arith, least, le) in
    sym whole ∙ (e ∙ take_all (m + 1) s (omega (arith, short)))

-- the second list is as long, where the first goes beyond
long_too : (m : ℕ) (a s : List ℕ) → take (m + 1) a ≡ take (m + 1) s → m < length a → m < length s
long_too m a s e lt =
    let counts : min (m + 1) (length a) ≡ min (m + 1) (length s) = sym (length-take (m + 1) a) ∙ (ap length e ∙ length-take (m + 1) s) in
    omega (arith, counts, lt)

same_front : (m n : ℕ) (a s : List ℕ) → take (m + 1) a ≡ take (m + 1) s → n ≤ m → take n a ≡ take n s
same_front m n a s e le =
    sym (take-take n (m + 1) a (omega arith)) ∙ (ap (take n) e ∙ take-take n (m + 1) s (omega arith))

-- a cut of a text is one of each text of the same front, which goes beyond the room
pub cut_alike : (m : ℕ) (a s : List ℕ) (said : Said) → IsCutTo m a said → take (m + 1) a ≡ take (m + 1) s → IsCutTo m s said
cut_alike m a s said (inl (kept, le, is)) e =
    let same = same_short m a s e le in
    inl (kept, rw (sym same) le, is ∙ same)
cut_alike m a s said (inr (was, lt, (n, le, is))) e =
    inr (was, long_too m a s e lt, (n, le, is ∙ ap (λ (z : List ℕ). z ++ codes "..") (same_front m n a s e le)))

-- a cut of the front that is looked at
pub said_alike : (m : ℕ) (r : Option ℕ) (a s : List ℕ) (result : Result Said AllocError) → (r ≡ Some (m + 1)) ⊎ (r ≡ None) → front r a ≡ front r s → IfOk result (IsCutTo m a) → IfOk result (IsCutTo m s)
said_alike m r a s (Ok said) (inl e) f h = cut_alike m a s said h (subst (λ (z : Option ℕ). front z a ≡ front z s) e f)
said_alike m r a s (Ok said) (inr e) f h = subst (λ (z : List ℕ). IsCutTo m z said) (subst (λ (z : Option ℕ). front z a ≡ front z s) e f) h
said_alike m r a s (Err x) e f h = h

pub ruleset said_laws = (said_alike)
