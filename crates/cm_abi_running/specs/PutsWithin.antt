-- Where puts lie in a value.
use Rattle.std.specs.Prelude.{ℕ, ◌+◌, ◌*◌, ◌≤◌, ⊤}
use Rattle.cm_abi_load.specs.Sized.{IsNumberSize, IsSizedLeaf}
use Rattle.cm_layout.specs.declared.layouts.Leaf.TheVariants as leaf
use Rattle.cm_abi_programs.specs.Puts.{Put, Puts, CasePuts, no_puts, put, no_cases, case}
use Rattle.cm_abi_programs.specs.Puts.{run_put, truth_put, flags_put, text_put, list_put}
use Rattle.cm_abi_programs.specs.Puts.{each_put, cases_put, handle_put, part_put}

abbrev mutual
  -- what is read and written lies within so many bytes from where the value begins
  pub IsPutWithin : ℕ → Put → Type 0
  IsPutWithin n (run_put at m) = at + m ≤ n
  IsPutWithin n (truth_put at) = at + 1 ≤ n
  IsPutWithin n (flags_put at b labels) = (at + b ≤ n) × IsSizedLeaf (leaf.Flags labels b)
  IsPutWithin n (text_put at) = at + 8 ≤ n
  IsPutWithin n (list_put at d cs) = (at + 8 ≤ n) × ArePutsWithin d cs
  IsPutWithin n (each_put at d c cs) = (at + c * d ≤ n) × ArePutsWithin d cs
  IsPutWithin n (cases_put at b d cs) =
      (at + b ≤ n) × IsNumberSize b × (b ≤ 4)
      × ((m : ℕ) × (at + d + m ≤ n) × AreCasePutsWithin m cs)
  IsPutWithin n (handle_put at) = at + 4 ≤ n
  IsPutWithin n (part_put at cs) = (m : ℕ) × (at + m ≤ n) × ArePutsWithin m cs

  -- by each put
  pub ArePutsWithin : ℕ → Puts → Type 0
  ArePutsWithin n no_puts = ⊤
  ArePutsWithin n (put c cs) = IsPutWithin n c × ArePutsWithin n cs

  -- in what each case carries
  pub AreCasePutsWithin : ℕ → CasePuts → Type 0
  AreCasePutsWithin n no_cases = ⊤
  AreCasePutsWithin n (case cs rest) = ArePutsWithin n cs × AreCasePutsWithin n rest
