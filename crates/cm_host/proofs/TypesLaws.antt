-- A host sees no resource: where an import counts them otherwise, its types are the same to it.
use Rattle.std.proofs.Common.{◌≡◌, ℕ, List, [], Option, Some, None, refl, ap, subst, sym, ◌∙◌, IfOk, Result, Ok, Err}
use Rattle.std.specs.Option.{option_map}
use Rattle.cm_binary_model.specs.declared.canons.CanonOption.{CanonOption}
use Rattle.cm_types.specs.Types.{Ty, Fields, Cases, FuncTy, bool, signed, unsigned, char, string}
use Rattle.cm_types.specs.Types.{list, fixed_list, fields, cases, flags, own, borrow, no_fields}
use Rattle.cm_types.specs.Types.{field, no_cases, plain, carrying}
use Rattle.cm_types_arena.specs.Placed.{moved_by, placed_func}
use Rattle.cm_types_arena.specs.Replaced.{Standing, replaced, replaced_fields, replaced_cases}
use Rattle.cm_types_arena.specs.TypeDefs.{func_at}
use Rattle.cm_types_arena.specs.declared.placed.Placed.{Placed}
use Rattle.cm_host_values.specs.Indexed.{indexed, indexed_fields, indexed_cases}
use Rattle.cm_host_values.specs.Indexed.{host_types}
use Rattle.cm_host_values.specs.Rows.{fields_of_result}
use Rattle.cm_host_values.specs.declared.host_types.HostTypes.{HostTypes}
use Rattle.cm_host.specs.Seats.{ArePassedBy, Exports, Imports, IsUtf8}
use Rattle.cm_host.specs.declared.seat.HostFunc.{HostFunc}
use Rattle.cm_host.specs.declared.seat.Seat.{Seat}

mutual
  same_type : (s : Standing) (t : Ty) → indexed (replaced s t) ≡ indexed t
  same_type s bool = refl
  same_type s (signed w) = refl
  same_type s (unsigned w) = refl
  same_type s char = refl
  same_type s string = refl
  same_type s (list t) = ap list (same_type s t)
  same_type s (fixed_list t n) = ap (λ u. fixed_list u n) (same_type s t)
  same_type s (fields k fs) = ap (fields k) (same_fields s fs)
  same_type s (cases k cs) = ap (cases k) (same_cases s cs)
  same_type s (flags ls) = refl
  same_type s (own r) = refl
  same_type s (borrow r) = refl

  same_fields : (s : Standing) (fs : Fields) → indexed_fields (replaced_fields s fs) ≡ indexed_fields fs
  same_fields s no_fields = refl
  same_fields s (field l t fs) = ap (λ u. field l u (indexed_fields (replaced_fields s fs))) (same_type s t) ∙ ap (field l (indexed t)) (same_fields s fs)

  same_cases : (s : Standing) (cs : Cases) → indexed_cases (replaced_cases s cs) ≡ indexed_cases cs
  same_cases s no_cases = refl
  same_cases s (plain l cs) = ap (plain l) (same_cases s cs)
  same_cases s (carrying l t cs) = ap (λ u. carrying l u (indexed_cases (replaced_cases s cs))) (same_type s t) ∙ ap (carrying l (indexed t)) (same_cases s cs)

same_row : (s : Standing) (fs : Fields) → host_types (replaced_fields s fs) ≡ host_types fs
same_row s no_fields = refl
same_row s (field l t fs) = ap (λ u. field [] u (host_types (replaced_fields s fs))) (same_type s t) ∙ ap (field [] (indexed t)) (same_row s fs)

same_result : (s : Standing) (r : Option Ty) → host_types (fields_of_result (option_map (replaced s) r)) ≡ host_types (fields_of_result r)
same_result s None = refl
same_result s (Some t) = same_row s (field [] t no_fields)

-- what passes the values of a function passes those of one whose resources are counted otherwise
pub passed_by_placed : (funcs : List FuncTy) (p : Placed) (params results : HostTypes) → ArePassedBy (func_at funcs p.place) params results → ArePassedBy (placed_func funcs p) params results
passed_by_placed funcs p params results h =
    record {
      params_are = h.params_are ∙ sym (same_row (moved_by p.by) (func_at funcs p.place).params);
      params_go = h.params_go;
      results_are = h.results_are ∙ sym (same_result (moved_by p.by) (func_at funcs p.place).result);
      results_go = h.results_go;
    }

-- what a function of a component is in terms of values
pub imports_of : {E : Type 0} (s : Seat) (name : List ℕ) (core_func : ℕ) (funcs : List FuncTy) (p : Placed) (options : List CanonOption) (r : Result HostFunc E) → (IsUtf8 options → Imports s name core_func (placed_func funcs p))
    → IfOk r (λ f. IsUtf8 options) → IfOk r (λ f. f.core_func ≡ core_func) → IfOk r (λ f. ArePassedBy (func_at funcs p.place) f.params f.results)
    → IfOk r (λ f. (x : FuncTy) × Imports s name f.core_func x × ArePassedBy x f.params f.results)
imports_of s name core_func funcs p options (Ok f) m u i a = (placed_func funcs p, subst (λ c. Imports s name c (placed_func funcs p)) (sym i) (m u), passed_by_placed funcs p f.params f.results a)
imports_of s name core_func funcs p options (Err e) m u i a = tt

pub exports_of : {E : Type 0} (s : Seat) (name : List ℕ) (core_func : ℕ) (funcs : List FuncTy) (p : Placed) (options : List CanonOption) (r : Result HostFunc E) → (IsUtf8 options → Exports s name core_func (placed_func funcs p))
    → IfOk r (λ f. IsUtf8 options) → IfOk r (λ f. f.core_func ≡ core_func) → IfOk r (λ f. ArePassedBy (func_at funcs p.place) f.params f.results)
    → IfOk r (λ f. (x : FuncTy) × Exports s name f.core_func x × ArePassedBy x f.params f.results)
exports_of s name core_func funcs p options (Ok f) m u i a = (placed_func funcs p, subst (λ c. Exports s name c (placed_func funcs p)) (sym i) (m u), passed_by_placed funcs p f.params f.results a)
exports_of s name core_func funcs p options (Err e) m u i a = tt
