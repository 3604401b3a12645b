-- The names of cases.
use Rattle.std.specs.Prelude.{ℕ, if◌then◌else◌, List, [], ◌∷◌, codes}
use Rattle.std.specs.Str.{bytes_eq}
use Rattle.cm_types.specs.Types.{Cases, CasesKind, no_cases, plain, carrying, result_type}

-- the name of a case: its label, but `err` for the case `error` of a result
abbrev pub case_name : CasesKind → List ℕ → List ℕ
case_name result_type l = if bytes_eq l (codes "error") then codes "err" else l
case_name k l = l

-- the names of cases, in order
abbrev pub case_names : CasesKind → Cases → List (List ℕ)
case_names k no_cases = []
case_names k (plain l cs) = case_name k l ∷ case_names k cs
case_names k (carrying l t cs) = case_name k l ∷ case_names k cs
