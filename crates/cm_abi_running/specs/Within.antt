-- Where checks lie in a value.
use Rattle.std.specs.Prelude.{ℕ, ◌+◌, ◌*◌, ◌≤◌, ◌<◌, ⊤}
use Rattle.cm_abi_load.specs.Sized.{IsNumberSize}
use Rattle.cm_abi_programs.specs.Checks.{Check, Checks, CaseChecks, no_checks, check, no_cases}
use Rattle.cm_abi_programs.specs.Checks.{case, char_check, below_check, text_check, list_check}
use Rattle.cm_abi_programs.specs.Checks.{each_check, cases_check, handle_check, part_check}

abbrev mutual
  -- what is looked at in memory lies within so many bytes from where the value begins
  pub IsWithin : ℕ → Check → Type 0
  IsWithin n (char_check at) = at + 4 ≤ n
  IsWithin n (below_check at b c) = (at + b ≤ n) × IsNumberSize b × (b ≤ 4)
  IsWithin n (text_check at) = at + 8 ≤ n
  IsWithin n (list_check at e cs) = (at + 8 ≤ n) × (0 < e.align) × AreWithin e.size cs
  IsWithin n (each_check at d c cs) = (at + c * d ≤ n) × AreWithin d cs
  IsWithin n (cases_check at b d cs) =
      (at + b ≤ n) × IsNumberSize b × (b ≤ 4)
      × ((m : ℕ) × (at + d + m ≤ n) × AreCasesWithin m cs)
  IsWithin n (handle_check at h) = at + 4 ≤ n
  IsWithin n (part_check at cs) = (m : ℕ) × (at + m ≤ n) × AreWithin m cs

  -- by each check
  pub AreWithin : ℕ → Checks → Type 0
  AreWithin n no_checks = ⊤
  AreWithin n (check c cs) = IsWithin n c × AreWithin n cs

  -- in what each case carries
  pub AreCasesWithin : ℕ → CaseChecks → Type 0
  AreCasesWithin n no_cases = ⊤
  AreCasesWithin n (case cs rest) = AreWithin n cs × AreCasesWithin n rest

-- what a check, or each of these, looks at in a value that begins at an address lies within so many
-- bytes of memory
pub record LiesWithin (c : Check) (at memory : ℕ) : Type 0 where
  pub size : ℕ
  pub within : IsWithin size c
  pub room : at + size ≤ memory

pub record LieWithin (cs : Checks) (at memory : ℕ) : Type 0 where
  pub size : ℕ
  pub within : AreWithin size cs
  pub room : at + size ≤ memory

abbrev mutual
  -- what is looked at behind core values lies within the elements of its list
  pub IsBehind : Check → Type 0
  IsBehind (list_check at e cs) = (0 < e.align) × AreWithin e.size cs
  IsBehind (each_check at d c cs) = AreBehind cs
  IsBehind (cases_check at b d cs) = AreCasesBehind cs
  IsBehind (part_check at cs) = AreBehind cs
  IsBehind c = ⊤

  -- by each check
  pub AreBehind : Checks → Type 0
  AreBehind no_checks = ⊤
  AreBehind (check c cs) = IsBehind c × AreBehind cs

  -- in what each case carries
  pub AreCasesBehind : CaseChecks → Type 0
  AreCasesBehind no_cases = ⊤
  AreCasesBehind (case cs rest) = AreBehind cs × AreCasesBehind rest
