-- Truth values, chars and flags.
use Rattle.std.proofs.Common.{◌≡◌, ℕ, ℤ, ◌*◌, ◌<◌, Bool, true, false, not, ◌==◌, List, slice_index, sym, ap, subst, ◌∙◌, arith}
use Rattle.std.proofs.lemmas.Bool.Decides.{nat_tests}
use Rattle.cm_types.specs.Types.{Width, width_bytes, bool, unsigned, signed, char}
use Rattle.cm_types.specs.Values.{truth, number, signed_number, scalar, IsScalarValue}
use Rattle.cm_abi_model.specs.Numbers.{as_signed, number_at}
use Rattle.cm_abi_model.specs.Shows.{Shows}
use Rattle.cm_abi_model.specs.Stores.{Given, Holds, stored}
use Rattle.cm_abi_model.specs.Views.{View}
use Rattle.cm_abi_model.specs.Bytes.{StandsAt, AreBytes, IsTwosComplement}
use Rattle.cm_abi_model.proofs.NumberLaws.{number_stands, signed_only, signed_read, stands_number}

byte_one : (m : List ℕ) (p : ℕ) → number_at 1 m p ≡ slice_index m p
unfolding number_at
byte_one m p = omega arith

pub zero_is_false : (w : View) (p : ℕ) (b : Bool) → slice_index w.memory p ≡ 0 → Shows w bool p (truth b) → b ≡ false
zero_is_false w p b z h = h ∙ ap (λ n. not (n == 0)) (byte_one w.memory p ∙ z)

pub others_are_true : (w : View) (p : ℕ) (b : Bool) → 0 < slice_index w.memory p → Shows w bool p (truth b) → b ≡ true
others_are_true w p b some h =
    let byte = byte_one w.memory p in
    let test : not (number_at 1 w.memory p == 0) ≡ true = grind (arith, nat_tests, byte, some) in
    h ∙ test

pub unsigned_shown : (w : View) (k : Width) (p n : ℕ) → AreBytes w.memory → Shows w (unsigned k) p (number n) → StandsAt w.memory p (width_bytes k) n
unsigned_shown w k p n bytes h = subst (λ x. StandsAt w.memory p (width_bytes k) x) (sym h) (number_stands (width_bytes k) w.memory p bytes)

pub signed_shown : (w : View) (k : Width) (p : ℕ) (z : ℤ) → AreBytes w.memory → Shows w (signed k) p (signed_number z) → (n : ℕ) × StandsAt w.memory p (width_bytes k) n × IsTwosComplement (8 * width_bytes k) n z
signed_shown w k p z bytes h =
    let s = number_stands (width_bytes k) w.memory p bytes in
    (number_at (width_bytes k) w.memory p, s, subst (λ x. IsTwosComplement (8 * width_bytes k) (number_at (width_bytes k) w.memory p) x) (sym h) (signed_read k (number_at (width_bytes k) w.memory p) s.below))

pub scalar_shown : (w : View) (p c : ℕ) → AreBytes w.memory → Shows w char p (scalar c) → StandsAt w.memory p 4 c × IsScalarValue c
scalar_shown w p c bytes h = (subst (λ x. StandsAt w.memory p 4 x) (sym h.0) (number_stands 4 w.memory p bytes), h.1)

-- ---- stored

pub true_stored : (m : List ℕ) (g : Given) (p k h : ℕ) → Holds m (stored g bool (truth true) p k h) → slice_index m p ≡ 1
true_stored m g p k h s = s.0

pub false_stored : (m : List ℕ) (g : Given) (p k h : ℕ) → Holds m (stored g bool (truth false) p k h) → slice_index m p ≡ 0
false_stored m g p k h s = s.0

-- ---- what stands there is shown

pub false_shown : (w : View) (p : ℕ) → slice_index w.memory p ≡ 0 → Shows w bool p (truth false)
false_shown w p z = sym (ap (λ n. not (n == 0)) (byte_one w.memory p ∙ z))

pub true_shown : (w : View) (p : ℕ) → 0 < slice_index w.memory p → Shows w bool p (truth true)
true_shown w p some =
    let byte = byte_one w.memory p in
    let test : not (number_at 1 w.memory p == 0) ≡ true = grind (arith, nat_tests, byte, some) in
    sym test

pub unsigned_stands : (w : View) (k : Width) (p n : ℕ) → StandsAt w.memory p (width_bytes k) n → Shows w (unsigned k) p (number n)
unsigned_stands w k p n s = stands_number (width_bytes k) w.memory p n s

pub signed_stands : (w : View) (k : Width) (p n : ℕ) (z : ℤ) → StandsAt w.memory p (width_bytes k) n → IsTwosComplement (8 * width_bytes k) n z → Shows w (signed k) p (signed_number z)
signed_stands w k p n z s t = signed_only k n z s.below t ∙ ap (λ x. as_signed (width_bytes k) x) (stands_number (width_bytes k) w.memory p n s)

pub scalar_stands : (w : View) (p c : ℕ) → StandsAt w.memory p 4 c → IsScalarValue c → Shows w char p (scalar c)
scalar_stands w p c s is = (stands_number 4 w.memory p c s, is)
