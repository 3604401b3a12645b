-- Types are one where their numbers are.
use Rattle.std.proofs.Common.{◌≡◌, ◌∙◌, ◌↔◌, ℕ, Bool, IsTrue, Option, Some, ap, sym}
use Rattle.cm_types.specs.Types.{FuncTy, Ty}
use Rattle.cm_validate_model.specs.Definitions.{TypeDef, value, func_type, resource}
use Rattle.cm_shims.specs.Judging.{AreOne}
use Rattle.cm_lemmas.proofs.Options.{some_is}

value_is : (x y : Ty) → value x ≡ value y → x ≡ y
value_is x y h = cc

func_is : (f g : FuncTy) → func_type f ≡ func_type g → f ≡ g
func_is f g h = cc

resource_is : (m n : ℕ) → resource m ≡ resource n → m ≡ n
resource_is m n h = cc

-- Two types are one where what they are made of is.
pub value_one : (r : Bool) (x y : Ty) → IsTrue r ↔ (x ≡ y) → IsTrue r ↔ AreOne (value x) (value y)
value_one r x y h = (λ t. (tt, ap value (h.0 t)), λ o. h.1 (value_is x y o.1))

pub func_one : (r : Bool) (f g : FuncTy) → IsTrue r ↔ (f ≡ g) → IsTrue r ↔ AreOne (func_type f) (func_type g)
func_one r f g h = (λ t. (tt, ap func_type (h.0 t)), λ o. h.1 (func_is f g o.1))

pub resource_one : (r : Bool) (m n : ℕ) → IsTrue r ↔ (m ≡ n) → IsTrue r ↔ AreOne (resource m) (resource n)
resource_one r m n h = (λ t. (tt, ap resource (h.0 t)), λ o. h.1 (resource_is m n o.1))

-- A function has a type where the two are one.
pub has_type_is : (r : Bool) (of : Option FuncTy) (there : Option TypeDef) (f : FuncTy) (d : TypeDef) → Some f ≡ of → Some d ≡ there → IsTrue r ↔ AreOne (func_type f) d → IsTrue r ↔ ((x : FuncTy) × (of ≡ Some x) × (there ≡ Some (func_type x)))
has_type_is r of there f d is at h = (
  λ t. (f, sym is, sym at ∙ ap Some (sym (h.0 t).1)),
  λ w. h.1 (tt, ap func_type (some_is f w.0 (is ∙ w.1)) ∙ sym (some_is d (func_type w.0) (at ∙ w.2))),
)
