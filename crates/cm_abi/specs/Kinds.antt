-- Numbers in core values of a kind (CanonicalABI.md, "Flattening").
use Rattle.std.specs.Prelude.{ℕ, ◌<◌, ◌^◌, ⊤, List, [], ◌∷◌}
use Rattle.cm_types.specs.declared.core_value.CoreKind.{CoreKind}
use Rattle.cm_types.specs.declared.core_value.CoreKind.TheVariants as kind

-- a number, one of 64 bits, fits a core value of this kind
abbrev pub IsNumberOf : CoreKind → ℕ → Type 0
IsNumberOf kind.I32 n = n < 2 ^ 32
IsNumberOf kind.I64 n = ⊤

-- numbers fit core values of these kinds, one for one
abbrev pub AreNumbersOf : List CoreKind → List ℕ → Type 0
AreNumbersOf [] [] = ⊤
AreNumbersOf [] (n ∷ ns) = ⊥
AreNumbersOf (k ∷ ks) [] = ⊥
AreNumbersOf (k ∷ ks) (n ∷ ns) = IsNumberOf k n × AreNumbersOf ks ns
