-- Powers of 128.
use Rattle.std.proofs.Common.{◌≡◌, ℕ, zero, suc, ◌-◌, ◌*◌, ◌^◌, ◌≤◌, arith}
use Rattle.std.proofs.Math.Nat.{pow-le-pow_right, pow-suc}

pub pow_room : (room : ℕ) → 128 ^ suc room ≡ 128 * 128 ^ room
pow_room room = omega (arith, pow-suc 128 room)

pub pow_five : (room : ℕ) → room ≤ 5 → 128 ^ room ≤ 34359738368
pow_five room h = let p : 128 ^ room ≤ 128 ^ 5 = pow-le-pow_right {n = 128} (omega arith) {i = room} {j = 5} h in p

pub pow_one : (room : ℕ) → 1 ≤ room → 128 ≤ 128 ^ room
pow_one room h = let p : 128 ^ 1 ≤ 128 ^ room = pow-le-pow_right {n = 128} (omega arith) {i = 1} {j = room} h in p

pub pow_less : (room : ℕ) → 1 ≤ room → 128 ^ room ≡ 128 * 128 ^ (room - 1)
pow_less zero h = absurd (omega arith)
pow_less (suc room) h = let e : suc room - 1 ≡ room = omega arith in rw e (pow_room room)
