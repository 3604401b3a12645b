-- Sketches of types whose resources are replaced.
use Rattle.std.proofs.Common.{◌≡◌, Bool, true, false, List, ℕ, Option, Some, None, refl, sym, ap, ◌∙◌, codes, if◌then◌else◌}
use Rattle.std.specs.Option.{option_map}
use Rattle.std.specs.Str.{bytes_eq}
use Rattle.cm_types.specs.declared.resource.ResourceId.{ResourceId}
use Rattle.cm_types.specs.Holds.{holds, is_borrow}
use Rattle.cm_types.specs.Types.{Ty, Fields, FuncTy, bool, signed, unsigned, char, string, list, fixed_list, fields, cases, flags, own, borrow, no_fields, field}
use Rattle.cm_types_arena.specs.Replaced.{Standing, replaced, replaced_fields, replaced_func}
use Rattle.cm_validate_instances.specs.declared.sketches.FuncSketch.{FuncSketch}
use Rattle.cm_validate_instances.specs.Sketches.{func_replaced, own_result, resource_borrowed, resource_owned, self_borrow, sketch_func, sketch_holding, sketch_value, value_replaced}

module _ (s : Standing) where
  plain_same : (b : Bool) → value_replaced s (sketch_holding b) ≡ sketch_holding b
  plain_same true = refl
  plain_same false = refl

  holding : (t : Ty) → holds is_borrow (replaced s t) ≡ holds is_borrow t → value_replaced s (sketch_holding (holds is_borrow t)) ≡ sketch_holding (holds is_borrow (replaced s t))
  holding t e = plain_same (holds is_borrow t) ∙ ap sketch_holding (sym e)

  pub value_told : ((t : Ty) → holds is_borrow (replaced s t) ≡ holds is_borrow t) → (t : Ty) → value_replaced s (sketch_value t) ≡ sketch_value (replaced s t)
  value_told e bool = refl
  value_told e (signed w) = refl
  value_told e (unsigned w) = refl
  value_told e char = refl
  value_told e string = refl
  value_told e (list t) = holding (list t) (e (list t))
  value_told e (fixed_list t n) = holding (fixed_list t n) (e (fixed_list t n))
  value_told e (fields k fs) = holding (fields k fs) (e (fields k fs))
  value_told e (cases k cs) = holding (cases k cs) (e (cases k cs))
  value_told e (flags ls) = refl
  value_told e (own r) = refl
  value_told e (borrow r) = refl

  borrowed_told : (t : Ty) → option_map s (resource_borrowed t) ≡ resource_borrowed (replaced s t)
  borrowed_told bool = refl
  borrowed_told (signed w) = refl
  borrowed_told (unsigned w) = refl
  borrowed_told char = refl
  borrowed_told string = refl
  borrowed_told (list t) = refl
  borrowed_told (fixed_list t n) = refl
  borrowed_told (fields k fs) = refl
  borrowed_told (cases k cs) = refl
  borrowed_told (flags ls) = refl
  borrowed_told (own r) = refl
  borrowed_told (borrow r) = refl

  owned_told : (t : Ty) → option_map s (resource_owned t) ≡ resource_owned (replaced s t)
  owned_told bool = refl
  owned_told (signed w) = refl
  owned_told (unsigned w) = refl
  owned_told char = refl
  owned_told string = refl
  owned_told (list t) = refl
  owned_told (fixed_list t n) = refl
  owned_told (fields k fs) = refl
  owned_told (cases k cs) = refl
  owned_told (flags ls) = refl
  owned_told (own r) = refl
  owned_told (borrow r) = refl

  where_self : (b : Bool) (o : Option ResourceId) → option_map s (if b then o else None) ≡ (if b then option_map s o else None)
  where_self true o = refl
  where_self false o = refl

  self_told : (fs : Fields) → option_map s (self_borrow fs) ≡ self_borrow (replaced_fields s fs)
  self_told no_fields = refl
  self_told (field l t fs) =
      where_self (bytes_eq l (codes "self")) (resource_borrowed t) ∙ ap (λ o. if bytes_eq l (codes "self") then o else None) (borrowed_told t)

  result_told : (o : Option Ty) → option_map s (own_result o) ≡ own_result (option_map (replaced s) o)
  result_told None = refl
  result_told (Some t) = owned_told t

  abbrev make_sketch : Option ResourceId → Option ResourceId → FuncSketch
  make_sketch a b = record { self_borrow = a; own_result = b }

  pub func_told : (f : FuncTy) → func_replaced s (sketch_func f) ≡ sketch_func (replaced_func s f)
  func_told f = ap (λ a. make_sketch a (option_map s (own_result f.result))) (self_told f.params) ∙ ap (make_sketch (self_borrow (replaced_fields s f.params))) (result_told f.result)
