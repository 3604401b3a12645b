-- The shortest spelling of a number, computed. That no spelling is shorter is stated where it is
-- written.
use Rattle.cm_leb.specs.declared.fault.SignedFault.{SignedFault}
use Rattle.cm_leb.specs.declared.fault.SignedFault.TheVariants.{Memory, TooLarge}
use Rattle.std.specs.Prelude.{ℕ, zero, suc, ◌+◌, ◌-◌, ◌*◌, ◌/◌, ◌%◌, ◌^◌, List, [], ◌∷◌, nat_lt}
use Rattle.std.specs.Prelude.{if◌then◌else◌, ℤ, pos, negsuc}
use Rattle.cm_leb.specs.NumbersRead.{is_within}

-- The low digits of v in so many bytes, each but the last with its top bit set.
abbrev pub group_of : ℕ → ℕ → List ℕ
group_of zero v = []
group_of (suc zero) v = v % 128 ∷ []
group_of (suc (suc k)) v = (128 + v % 128) ∷ group_of (suc k) (v / 128)

-- How many digits a number of 32 bits has in base 128.
abbrev pub unsigned_length : ℕ → ℕ
unsigned_length n = if nat_lt n (2 ^ 7) then 1
    else (if nat_lt n (2 ^ 14) then 2
    else (if nat_lt n (2 ^ 21) then 3 else (if nat_lt n (2 ^ 28) then 4 else 5)))

-- The shortest spelling of a number of 32 bits.
abbrev pub shortest_unsigned : ℕ → List ℕ
shortest_unsigned n = group_of (unsigned_length n) n

-- How many digits a number of 33 bits has in two's complement.
abbrev pub signed_length : ℤ → ℕ
signed_length z = if is_within 7 z then 1
    else (if is_within 14 z then 2
    else (if is_within 21 z then 3 else (if is_within 28 z then 4 else 5)))

-- z in two's complement of so many bits.
abbrev pub to_two_complement : ℕ → ℤ → ℕ
to_two_complement bits (pos n) = n
to_two_complement bits (negsuc n) = 2 ^ bits - (n + 1)

-- The shortest spelling of a number of 33 bits with a sign.
abbrev pub shortest_signed : ℤ → List ℕ
shortest_signed z = group_of (signed_length z) (to_two_complement (7 * signed_length z) z)

-- The number by which it is known why a number is not written, this project's own.
abbrev pub signed_fault_number : SignedFault → ℕ
signed_fault_number TooLarge = 1
signed_fault_number Memory = 2
