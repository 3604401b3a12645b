-- What an allocator answers to the requests of a lowering (CanonicalABI.md, "Storing", `realloc`).
use Rattle.std.specs.Prelude.{◌≡◌, ◌⊎◌, ℕ, List, [], ◌∷◌}
use Rattle.cm_abi_model.specs.declared.request.Request.{Request}
use Rattle.cm_machine_guests.specs.Regions.{HasRoom, IsGiven}
use Rattle.cm_machine_guests.specs.declared.bump.Bump.{Bump}

-- requests were answered one after another, by regions that were given out
abbrev pub AreAnswers : Bump → List Request → List ℕ → Bump → Type 0
AreAnswers old [] [] new = new ≡ old
AreAnswers old (r ∷ rs) (a ∷ answers) new =
    (mid : Bump) × IsGiven old r.size r.align a mid × AreAnswers mid rs answers new
AreAnswers old rs answers new = ⊥

-- the range has no room for one of the requests, once those before it were given out
abbrev pub HasNoRoom : Bump → List Request → Type 0
HasNoRoom b [] = ⊥
HasNoRoom b (r ∷ rs) =
    (HasRoom b r.size r.align → ⊥)
    ⊎ ((at : ℕ) × (mid : Bump) × IsGiven b r.size r.align at mid × HasNoRoom mid rs)
