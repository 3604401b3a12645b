-- Reading the number at the front of bytes. What is read, and which fault is given, is stated in
-- Numbers; these functions compute it.
use Rattle.std.specs.Prelude.{◌≡◌, ℕ, zero, suc, ◌+◌, ◌-◌, ◌*◌, ◌^◌, List, [], ◌∷◌, length, drop}
use Rattle.std.specs.Prelude.{Result, Ok, Err, nat_lt, if◌then◌else◌, ℤ, pos, neg_ℤ, int_le, int_lt}
use Rattle.std.specs.Prelude.{Bool, ◌&&◌}
use Rattle.cm_leb.specs.declared.fault.LebFault.{LebFault}
use Rattle.cm_leb.specs.declared.fault.LebFault.TheVariants.{BadLastBits, TooLong}
use Rattle.cm_leb.specs.declared.fault.LebFault.TheVariants.{Truncated}
use Rattle.cm_leb.specs.Numbers.{two_complement, greatest_length}

-- What a function returned, seen by view, is what reading gives.
abbrev pub Finds : {X Y : Type 0} → (X → Y) → Result X LebFault → Result Y LebFault → Type 0
Finds view (Ok x) read = read ≡ Ok (view x)
Finds view (Err e) read = read ≡ Err e

-- The next step, where the one before did not fail.
infixl 10 ◌>>=◌
abbrev pub ◌>>=◌ : {A B : Type 0} → Result A LebFault → (A → Result B LebFault) → Result B LebFault
(Ok x) >>= f = f x
(Err e) >>= f = Err e

-- The digits of the number in front, of at most so many bytes, and what follows it.
unfoldable pub group_at : ℕ → List ℕ → Result (ℕ × List ℕ) LebFault
group_at zero bytes = Err TooLong
group_at (suc room) [] = Err Truncated
group_at (suc room) (b ∷ bytes) = if nat_lt b 128 then Ok (b, bytes)
    else (group_at room bytes >>= λ x. Ok ((b - 128) + 128 * x.0, x.1))

-- The digits as a number of so many bits without a sign.
abbrev pub in_range : ℕ → ℕ × List ℕ → Result (ℕ × List ℕ) LebFault
in_range bits x = if nat_lt x.0 (2 ^ bits) then Ok x else Err BadLastBits

-- The number of so many bits without a sign at the front, and the bytes after it.
unfoldable pub unsigned_at : ℕ → List ℕ → Result (ℕ × List ℕ) LebFault
unsigned_at bits bytes = group_at (greatest_length bits) bytes >>= λ x. in_range bits x

-- A test of a number of so many bits with a sign.
abbrev pub is_within : ℕ → ℤ → Bool
is_within bits z = int_le (neg_ℤ (pos (2 ^ (bits - 1)))) z && int_lt z (pos (2 ^ (bits - 1)))

-- The digits, of so many bytes, as a number of so many bits with a sign.
abbrev pub in_signed_range : ℕ → ℤ × List ℕ → Result (ℤ × List ℕ) LebFault
in_signed_range bits x = if is_within bits x.0 then Ok x else Err BadLastBits

-- The number of so many bits with a sign at the front, and the bytes after it.
unfoldable pub signed_at : ℕ → List ℕ → Result (ℤ × List ℕ) LebFault
signed_at bits bytes = group_at (greatest_length bits) bytes
    >>= λ x. in_signed_range bits (two_complement (7 * (length bytes - length x.1)) x.0, x.1)

-- The number at a place, and the place after it.
unfoldable pub unsigned_from : ℕ → List ℕ → ℕ → Result (ℕ × ℕ) LebFault
unsigned_from bits bytes at =
    unsigned_at bits (drop at bytes) >>= λ x. Ok (x.0, length bytes - length x.1)

-- The number with a sign at a place, and the place after it.
unfoldable pub signed_from : ℕ → List ℕ → ℕ → Result (ℤ × ℕ) LebFault
signed_from bits bytes at =
    signed_at bits (drop at bytes) >>= λ x. Ok (x.0, length bytes - length x.1)
