-- Whether the answers to requests will do (CanonicalABI.md, "Storing", `trap_if` behind `realloc`).
use Rattle.std.specs.Prelude.{◌≡◌, ℕ, ◌+◌, ◌%◌, ◌<◌, ◌==◌, ◌^◌, ◌⊎◌, not, ⊤, nat_lt}
use Rattle.std.specs.Prelude.{if◌then◌else◌, Bool, true, List, [], ◌∷◌, map, Option, Some, None}
use Rattle.cm_abi_model.specs.declared.encoding.StringEncoding.{StringEncoding}
use Rattle.cm_abi_model.specs.declared.fault.AbiFault.{AbiFault}
use Rattle.cm_abi_model.specs.declared.fault.AbiFault.TheVariants as fault
use Rattle.cm_abi_model.specs.declared.request.Request.{Request}
use Rattle.cm_abi_model.specs.Parts.{Part}
use Rattle.cm_abi_model.specs.Regions.{element_count}
use Rattle.cm_abi_model.specs.Requests.{HasScalars, read_charset, first_tag, tags_behind}
use Rattle.cm_abi_model.specs.declared.region.Region.{Region}
use Rattle.cm_abi_model.specs.Overlap.{AreDisjoint}

-- what is wrong with one answer: it is not aligned, else what was asked for passes the end of the
-- memory
abbrev pub answer_fault : ℕ → Request → ℕ → Option AbiFault
answer_fault memory_length r at =
    if not (at % r.align == 0) then Some fault.Misaligned
    else (if nat_lt memory_length (at + r.size) then Some fault.PointerBounds else None)

-- what is wrong, and behind it what else
abbrev pub fault_before : Option AbiFault → Option AbiFault → Option AbiFault
fault_before None later = later
fault_before (Some f) later = Some f

-- what is wrong with the first answer that will not do
abbrev pub first_fault : ℕ → List Request → List ℕ → Option AbiFault
first_fault memory_length [] answers = None
first_fault memory_length (r ∷ rs) [] = None
first_fault memory_length (r ∷ rs) (a ∷ answers) =
    fault_before (answer_fault memory_length r a) (first_fault memory_length rs answers)

-- each request has an alignment
abbrev pub AreAligned : List Request → Type 0
AreAligned [] = ⊤
AreAligned (r ∷ rs) = (0 < r.align) × AreAligned rs

-- the first of the requests, if there is one, is the first for its part
abbrev pub begins_part : List Request → Bool
begins_part [] = true
begins_part (r ∷ rs) = not r.chained

-- the regions of parts: each begins at the answer to the last request for its part, and has the
-- size of that request
abbrev pub regions_of : List Request → List ℕ → List Region
regions_of [] answers = []
regions_of (r ∷ rs) [] = []
regions_of (r ∷ rs) (a ∷ answers) =
    if begins_part rs then record { at = a; size = r.size } ∷ regions_of rs answers
    else regions_of rs answers

-- where the parts stand: the answers to the last requests for them
abbrev pub places_of : List Request → List ℕ → List ℕ
places_of rs answers = map (λ (r : Region). r.at) (regions_of rs answers)

-- why answers of which each will do, with these regions, will not do together: two overlap, or
-- there is no memory to tell
abbrev pub IsFaultTogether : List Region → AbiFault → Type 0
IsFaultTogether regions fault.Overlap = AreDisjoint regions → ⊥
IsFaultTogether regions fault.EngineMemory = ⊤
IsFaultTogether regions other = ⊥

-- why answers will not do: what is wrong with the first that will not do, or else with all together
abbrev pub IsFaultOfAnswers : ℕ → List Request → List ℕ → AbiFault → Type 0
IsFaultOfAnswers memory_length rs answers f =
    (first_fault memory_length rs answers ≡ Some f)
    ⊎ ((first_fault memory_length rs answers ≡ None) × IsFaultTogether (regions_of rs answers) f)

-- The answers to requests will do in a memory of so many bytes: each is aligned with its region in
-- the memory, and the regions of two parts have no address in common.
pub record IsGood (memory_length : ℕ) (rs : List Request) (answers : List ℕ) : Type 0 where
  pub each : first_fault memory_length rs answers ≡ None
  pub apart : AreDisjoint (regions_of rs answers)

-- parts can come from a source: the scalars of each string are spelled there, by its tag
abbrev pub HaveScalars : StringEncoding → List Bool → List Part → Type 0
HaveScalars source tags [] = ⊤
HaveScalars source tags (p ∷ ps) =
    HasScalars (read_charset source (first_tag tags)) p × HaveScalars source (tags_behind p tags) ps

-- the elements of each list are counted in 32 bits
abbrev pub AreCounted : List Part → Type 0
AreCounted [] = ⊤
AreCounted (p ∷ ps) = (element_count p < 2 ^ 32) × AreCounted ps
