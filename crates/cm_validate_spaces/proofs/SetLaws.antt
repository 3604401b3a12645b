-- Whatever index spaces stand for is a set: so what is said of a component by an equation has one
-- proof at most, and holds where it is known that some proof is there.
use Rattle.std.proofs.Common.{◌≡◌, ℕ, Bool, true, List, Option, Some, None, IfSome}
use Rattle.std.proofs.Math.Logic.{∥∥₁_elim}
use Rattle.std.proofs.Props.{props}
use Rattle.std.specs.Coded.{Unit-prop}
use Rattle.cm_types.specs.Signatures.{NamedExtern, NamedItem}
use Rattle.cm_types.specs.Types.{FuncTy}
use Rattle.cm_binary_model.specs.declared.canons.CanonOption.{CanonOption}
use Rattle.cm_validate_model.specs.Definitions.{CoreFuncDef, FuncDef, NamedExport, NamedMember, ResourceDef, TypeDef}
use Rattle.cm_validate_spaces.proofs.TySets.{Fields-set, Ty-set}

func_type_set : IsSet FuncTy
func_type_set = Prim.hlevel (props, Fields-set, Ty-set)

item_set : IsSet NamedItem
item_set = Prim.hlevel (props, func_type_set, Ty-set)

option_set : IsSet CanonOption
option_set = Prim.hlevel props

func_set : IsSet FuncDef
func_set = Prim.hlevel (props, func_type_set, option_set)

type_set : IsSet TypeDef
type_set = Prim.hlevel (props, func_type_set, item_set, Ty-set)

member_set : IsSet NamedMember
member_set = Prim.hlevel (props, func_set, type_set)

pub imports_set : IsSet (List NamedExtern)
imports_set = Prim.hlevel (props, func_type_set, item_set)

pub exports_set : IsSet (List NamedExport)
exports_set = Prim.hlevel (props, func_set, member_set)

pub core_func_set : IsSet (Option CoreFuncDef)
core_func_set = Prim.hlevel (props, func_type_set, option_set)

pub resource_set : IsSet (Option ResourceDef)
resource_set = Prim.hlevel props

pub number_set : IsSet ℕ
number_set = Prim.hlevel props

pub test_set : IsSet Bool
test_set = Prim.hlevel props

pub some_prop : {A : Type 0} (test : A → Bool) (o : Option A) → IsProp (IfSome o (λ x. test x ≡ true))
some_prop test None = Unit-prop
some_prop test (Some x) = test_set (test x) true

-- an equation holds where it follows from a fact of which some proof is there
pub held : {A P : Type 0} → IsSet A → (x y : A) → ∥ P ∥₁ → (P → x ≡ y) → x ≡ y
held set x y p f = ∥∥₁_elim p (set x y) f

-- so does what a test says of what is found
pub held_of : {A P : Type 0} (test : A → Bool) (o : Option A) → ∥ P ∥₁ → (P → IfSome o (λ x. test x ≡ true)) → IfSome o (λ x. test x ≡ true)
held_of test o p f = ∥∥₁_elim p (some_prop test o) f
