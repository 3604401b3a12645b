-- Sketches of functions whose resources are replaced.
use Rattle.std.proofs.Common.{◌≡◌, Bool, true, false, cond, Option, Some, None, refl, sym, ap, ◌∙◌}
use Rattle.std.specs.Option.{option_map}
use Rattle.std.specs.Prelude.{codes}
use Rattle.std.specs.Str.{bytes_eq}
use Rattle.cm_types.specs.Types.{Ty, Fields, FuncTy, bool, signed, unsigned, char, string, list, fixed_list, fields, cases, flags, own, borrow, no_fields, field}
use Rattle.cm_types.specs.declared.resource.ResourceId.{ResourceId}
use Rattle.cm_types_arena.specs.Replaced.{Standing, replaced, replaced_fields, replaced_func}
use Rattle.cm_validate_instances.specs.Sketches.{own_result, resource_borrowed, resource_owned, self_borrow, sketch_func}
use Rattle.cm_validate_instances.specs.declared.sketches.FuncSketch.{FuncSketch}

module _ (s : Standing) where
  borrowed : (t : Ty) → resource_borrowed (replaced s t) ≡ option_map s (resource_borrowed t)
  borrowed bool = refl
  borrowed (signed w) = refl
  borrowed (unsigned w) = refl
  borrowed char = refl
  borrowed string = refl
  borrowed (list t) = refl
  borrowed (fixed_list t n) = refl
  borrowed (fields k fs) = refl
  borrowed (cases k cs) = refl
  borrowed (flags ls) = refl
  borrowed (own r) = refl
  borrowed (borrow r) = refl

  owned : (t : Ty) → resource_owned (replaced s t) ≡ option_map s (resource_owned t)
  owned bool = refl
  owned (signed w) = refl
  owned (unsigned w) = refl
  owned char = refl
  owned string = refl
  owned (list t) = refl
  owned (fixed_list t n) = refl
  owned (fields k fs) = refl
  owned (cases k cs) = refl
  owned (flags ls) = refl
  owned (own r) = refl
  owned (borrow r) = refl

  of_params : (fs : Fields) → self_borrow (replaced_fields s fs) ≡ option_map s (self_borrow fs)
  of_params no_fields = refl
  of_params (field l t fs) = here (bytes_eq l (codes "self"))
    where
      here : (b : Bool) → cond b (resource_borrowed (replaced s t)) None ≡ option_map s (cond b (resource_borrowed t) None)
      here true = borrowed t
      here false = refl

  of_result : (o : Option Ty) → own_result (option_map (replaced s) o) ≡ option_map s (own_result o)
  of_result None = refl
  of_result (Some t) = owned t

abbrev make : Option ResourceId → Option ResourceId → FuncSketch
make b o = record { self_borrow = b; own_result = o }

pub sketch_moved : (s : Standing) (f g : FuncTy) (a b : Option ResourceId) → g ≡ f → a ≡ option_map s (self_borrow g.params) → b ≡ option_map s (own_result g.result)
    → make a b ≡ sketch_func (replaced_func s f)
sketch_moved s f g a b same e h =
    ap (λ v. make v b) e
    ∙ ap (make (option_map s (self_borrow g.params))) h
    ∙ ap (λ (v : FuncTy). make (option_map s (self_borrow v.params)) (option_map s (own_result v.result))) same
    ∙ ap (λ v. make v (option_map s (own_result f.result))) (sym (of_params s f.params))
    ∙ ap (make (self_borrow (replaced_fields s f.params))) (sym (of_result s f.result))
