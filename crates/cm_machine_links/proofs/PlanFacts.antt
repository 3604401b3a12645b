-- The plan of a set, and what holds of it.
use Rattle.std.proofs.Common.{◌≡◌, ◌∙◌, ◌+◌, ℕ, zero, suc, List, [], ◌∷◌, length, map, true, Option, Some, None, is_some, refl, ap, sym, subst, arith, slice_get, option_and_then}
use Rattle.std.specs.Prelude.{unwrap_or}
use Rattle.std.specs.List.{AllByRecursion}
use Rattle.cm_validate_model.specs.Definitions.{CoreFuncDef}
use Rattle.cm_validate_model.specs.Spaces.{Spaces}
use Rattle.cm_match_model.specs.Imports.{LinkSet}
use Rattle.cm_machine_model.specs.Plan as plan
use Rattle.cm_machine_model.specs.Plan.{CoreFunc, Plan, core_func_at}
use Rattle.cm_machine_links.specs.Planned.{AreCoreFuncsOf, AreRowsOf, IsCoreFuncOf, IsFound}
use Rattle.cm_machine_links.specs.Planning.{core_def_in, core_func_of}
use Rattle.cm_machine_links.specs.Standing.{AllStand, EachStands, IsCoreSpelled, RowsStand, Stands}
use Rattle.cm_machine_links.specs.declared.core_funcs.CoreFunc.{CoreFunc as CoreFunction}
use Rattle.cm_lemmas.proofs.Lists.{got_at}

-- ---- the plan

abbrev pub row_of : LinkSet → ℕ → List CoreFuncDef → List CoreFunc
row_of set c ds = map (λ d. unwrap_or (core_func_of set c d) plan.guest) ds

abbrev pub plan_from : LinkSet → ℕ → List Spaces → Plan
plan_from set c [] = []
plan_from set c (s ∷ ss) = row_of set c s.core_funcs ∷ plan_from set (c + 1) ss

abbrev pub plan_of : LinkSet → Plan
plan_of set = plan_from set 0 set.spaces

pub as_many : (set : LinkSet) (c : ℕ) (ss : List Spaces) → length (plan_from set c ss) ≡ length ss
as_many set c [] = refl
as_many set c (s ∷ ss) = ap suc (as_many set (c + 1) ss)

some_value : (o : Option CoreFunc) → is_some o ≡ true → Some (unwrap_or o plan.guest) ≡ o
some_value None h = cc h
some_value (Some c) h = refl

row_at : (set : LinkSet) (c : ℕ) (ds : List CoreFuncDef) (f : ℕ) → AllByRecursion (λ d. is_some (core_func_of set c d) ≡ true) ds
    → slice_get (row_of set c ds) f ≡ option_and_then (core_func_of set c) (slice_get ds f)
row_at set c [] f h = refl
row_at set c (d ∷ ds) zero h = some_value (core_func_of set c d) h.0
row_at set c (d ∷ ds) (suc f) h = row_at set c ds f h.1

-- those of a component, counted from a number on
abbrev defs_in : List Spaces → ℕ → ℕ → Option CoreFuncDef
defs_in ss c f = option_and_then (λ s. slice_get s.core_funcs f) (slice_get ss c)

plan_at : (set : LinkSet) (c : ℕ) (ss : List Spaces) (k m f : ℕ) → m ≡ c + k → EachStands set c ss
    → core_func_at (plan_from set c ss) k f ≡ option_and_then (core_func_of set m) (defs_in ss k f)
plan_at set c [] k m f e h = refl
plan_at set c (s ∷ ss) zero m f e h =
    let same : m ≡ c = omega (arith, e) in
    row_at set c s.core_funcs f h.0 ∙ ap (λ n. option_and_then (core_func_of set n) (slice_get s.core_funcs f)) (sym same)
plan_at set c (s ∷ ss) (suc k) m f e h = plan_at set (c + 1) ss k m f (omega (arith, e)) h.1

pub planned_at : (set : LinkSet) (c f : ℕ) → EachStands set 0 set.spaces → core_func_at (plan_of set) c f ≡ option_and_then (core_func_of set c) (core_def_in set c f)
planned_at set c f h = plan_at set 0 set.spaces c c f (omega arith) h

each_from : (set : LinkSet) (c : ℕ) (ss : List Spaces) (k m f : ℕ) (d : CoreFuncDef) → m ≡ c + k → EachStands set c ss → defs_in ss k f ≡ Some d → is_some (core_func_of set m d) ≡ true
each_from set c [] k m f d e h at = cc at
each_from set c (s ∷ ss) zero m f d e h at =
    let same : m ≡ c = omega (arith, e) in
    subst (λ n. is_some (core_func_of set n d) ≡ true) (sym same) (got_at (λ d. is_some (core_func_of set c d) ≡ true) s.core_funcs f d h.0 at)
each_from set c (s ∷ ss) (suc k) m f d e h at = each_from set (c + 1) ss k m f d (omega (arith, e)) h.1 at

pub each_stands : (set : LinkSet) (c f : ℕ) (d : CoreFuncDef) → EachStands set 0 set.spaces → core_def_in set c f ≡ Some d → is_some (core_func_of set c d) ≡ true
each_stands set c f d h at = each_from set 0 set.spaces c c f d (omega arith) h at

-- where each of the components does
pub all_from : (set : LinkSet) (c : ℕ) (ss : List Spaces)
    → ((k m : ℕ) (s : Spaces) → m ≡ c + k → slice_get ss k ≡ Some s → AllByRecursion (λ d. is_some (core_func_of set m d) ≡ true) s.core_funcs) → EachStands set c ss
all_from set c [] h = tt
all_from set c (s ∷ ss) h = (h zero c s (omega arith) refl, all_from set (c + 1) ss (λ k m t e at. h (suc k) m t (omega (arith, e)) at))

pub row_stands : (set : LinkSet) (c : ℕ) (ss : List Spaces) (k m : ℕ) (s : Spaces) → m ≡ c + k → EachStands set c ss → slice_get ss k ≡ Some s → AllByRecursion (λ d. is_some (core_func_of set m d) ≡ true) s.core_funcs
row_stands set c [] k m s e h at = cc at
row_stands set c (t ∷ ss) zero m s e h at =
    let same : m ≡ c = omega (arith, e) in
    let here : t ≡ s = cc in
    subst (λ n. AllByRecursion (λ d. is_some (core_func_of set n d) ≡ true) s.core_funcs) (sym same) (subst (λ x. AllByRecursion (λ d. is_some (core_func_of set c d) ≡ true) x.core_funcs) here h.0)
row_stands set c (t ∷ ss) (suc k) m s e h at = row_stands set (c + 1) ss k m s (omega (arith, e)) h.1 at

-- ---- what is made stands for the plan

func_planned : (set : LinkSet) (c : ℕ) (d : CoreFuncDef) (f : CoreFunction) → is_some (core_func_of set c d) ≡ true → Stands set c d f → IsCoreFuncOf (unwrap_or (core_func_of set c d) plan.guest) f
func_planned set c d f some h = (h (unwrap_or (core_func_of set c d) plan.guest) (sym (some_value (core_func_of set c d) some))).0

row_planned : (set : LinkSet) (c : ℕ) (ds : List CoreFuncDef) (fs : List CoreFunction) → AllByRecursion (λ d. is_some (core_func_of set c d) ≡ true) ds → AllStand set c ds fs → AreCoreFuncsOf (row_of set c ds) fs
row_planned set c [] [] some h = tt
row_planned set c [] (f ∷ fs) some h = absurd h
row_planned set c (d ∷ ds) [] some h = absurd h
row_planned set c (d ∷ ds) (f ∷ fs) some h = (func_planned set c d f some.0 h.0, row_planned set c ds fs some.1 h.1)

pub rows_planned : (set : LinkSet) (c : ℕ) (ss : List Spaces) (rows : List (List CoreFunction)) → EachStands set c ss → RowsStand set c ss rows → AreRowsOf (plan_from set c ss) rows
rows_planned set c [] [] some h = tt
rows_planned set c [] (fs ∷ rows) some h = absurd h
rows_planned set c (s ∷ ss) [] some h = absurd h
rows_planned set c (s ∷ ss) (fs ∷ rows) some h = (row_planned set c s.core_funcs fs some.0 h.0, rows_planned set (c + 1) ss rows some.1 h.1)

-- and is spelled
row_spelled : (set : LinkSet) (c : ℕ) (ds : List CoreFuncDef) (fs : List CoreFunction) (i : ℕ) (d : CoreFuncDef) (p : CoreFunc) → AllStand set c ds fs → slice_get ds i ≡ Some d → core_func_of set c d ≡ Some p → IsCoreSpelled p
row_spelled set c [] fs i d p h at e = cc at
row_spelled set c (x ∷ ds) [] i d p h at e = absurd h
row_spelled set c (x ∷ ds) (f ∷ fs) zero d p h at e = let same : x ≡ d = cc in (h.0 p (subst (λ y. core_func_of set c y ≡ Some p) (sym same) e)).1
row_spelled set c (x ∷ ds) (f ∷ fs) (suc i) d p h at e = row_spelled set c ds fs i d p h.1 at e

rows_spelled : (set : LinkSet) (c : ℕ) (ss : List Spaces) (rows : List (List CoreFunction)) (k m f : ℕ) (d : CoreFuncDef) (p : CoreFunc) → m ≡ c + k → RowsStand set c ss rows → defs_in ss k f ≡ Some d → core_func_of set m d ≡ Some p → IsCoreSpelled p
rows_spelled set c [] rows k m f d p e h at is = cc at
rows_spelled set c (s ∷ ss) [] k m f d p e h at is = absurd h
rows_spelled set c (s ∷ ss) (fs ∷ rows) zero m f d p e h at is =
    let same : m ≡ c = omega (arith, e) in
    row_spelled set c s.core_funcs fs f d p h.0 at (subst (λ n. core_func_of set n d ≡ Some p) same is)
rows_spelled set c (s ∷ ss) (fs ∷ rows) (suc k) m f d p e h at is = rows_spelled set (c + 1) ss rows k m f d p (omega (arith, e)) h.1 at is

pub spelled_at : (set : LinkSet) (rows : List (List CoreFunction)) (c f : ℕ) (d : CoreFuncDef) (p : CoreFunc) → RowsStand set 0 set.spaces rows → core_def_in set c f ≡ Some d → core_func_of set c d ≡ Some p → IsCoreSpelled p
spelled_at set rows c f d p h at is = rows_spelled set 0 set.spaces rows c c f d p (omega arith) h at is

-- ---- what is found

found_in : (cs : List CoreFunc) (fs : List CoreFunction) (f : ℕ) → AreCoreFuncsOf cs fs → IsFound (slice_get cs f) (slice_get fs f)
found_in [] [] f h = tt
found_in [] (x ∷ fs) f h = absurd h
found_in (c ∷ cs) [] f h = absurd h
found_in (c ∷ cs) (x ∷ fs) zero h = h.0
found_in (c ∷ cs) (x ∷ fs) (suc f) h = found_in cs fs f h.1

pub found_at : (p : Plan) (rows : List (List CoreFunction)) (i f : ℕ) → AreRowsOf p rows → IsFound (core_func_at p i f) (option_and_then (λ fs. slice_get fs f) (slice_get rows i))
found_at [] [] i f h = tt
found_at [] (fs ∷ rows) i f h = absurd h
found_at (cs ∷ p) [] i f h = absurd h
found_at (cs ∷ p) (fs ∷ rows) zero f h = found_in cs fs f h.0
found_at (cs ∷ p) (fs ∷ rows) (suc i) f h = found_at p rows i f h.1
