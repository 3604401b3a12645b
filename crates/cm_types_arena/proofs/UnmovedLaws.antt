-- A type with no resource moved is itself.
use Rattle.std.proofs.Common.{◌≡◌, Option, Some, None, refl, ap, ◌∙◌}
use Rattle.std.specs.Option.{option_map}
use Rattle.cm_types.specs.Types.{Ty, FuncTy, Fields, Cases, bool, signed, unsigned, char, string, list, fixed_list, fields, cases, flags, own, borrow, no_fields, field, no_cases, plain, carrying}
use Rattle.cm_types_arena.specs.Replaced.{replaced, replaced_fields, replaced_cases, replaced_func}
use Rattle.cm_types_arena.specs.Placed.{moved_by}
use Rattle.cm_types.proofs.TypesLaws.{make_func}

mutual
  pub unmoved : (t : Ty) → replaced (moved_by None) t ≡ t
  unmoved bool = refl
  unmoved (signed w) = refl
  unmoved (unsigned w) = refl
  unmoved char = refl
  unmoved string = refl
  unmoved (list t) = ap list (unmoved t)
  unmoved (fixed_list t n) = ap (λ u. fixed_list u n) (unmoved t)
  unmoved (fields k fs) = ap (fields k) (fields_unmoved fs)
  unmoved (cases k cs) = ap (cases k) (cases_unmoved cs)
  unmoved (flags ls) = refl
  unmoved (own r) = refl
  unmoved (borrow r) = refl

  fields_unmoved : (fs : Fields) → replaced_fields (moved_by None) fs ≡ fs
  fields_unmoved no_fields = refl
  fields_unmoved (field l t fs) = ap (λ u. field l u (replaced_fields (moved_by None) fs)) (unmoved t) ∙ ap (field l t) (fields_unmoved fs)

  cases_unmoved : (cs : Cases) → replaced_cases (moved_by None) cs ≡ cs
  cases_unmoved no_cases = refl
  cases_unmoved (plain l cs) = ap (plain l) (cases_unmoved cs)
  cases_unmoved (carrying l t cs) = ap (λ u. carrying l u (replaced_cases (moved_by None) cs)) (unmoved t) ∙ ap (carrying l t) (cases_unmoved cs)

result_unmoved : (o : Option Ty) → option_map (replaced (moved_by None)) o ≡ o
result_unmoved None = refl
result_unmoved (Some t) = ap Some (unmoved t)

pub func_unmoved : (f : FuncTy) → replaced_func (moved_by None) f ≡ f
func_unmoved f = ap (λ ps. make_func ps (option_map (replaced (moved_by None)) f.result)) (fields_unmoved f.params) ∙ ap (make_func f.params) (result_unmoved f.result)
