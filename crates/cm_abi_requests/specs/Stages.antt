-- How far the requests for parts are answered, as the code keeps it: some parts have all their
-- answers, and the next one has so many of its.
use Rattle.std.specs.Prelude.{◌≡◌, ℕ, ◌+◌, ◌<◌, ◌≤◌, ⊤, List, [], ◌∷◌, length, take, drop}
use Rattle.cm_abi_model.specs.declared.encoding.StringEncoding.{StringEncoding}
use Rattle.cm_abi_model.specs.declared.record.PartRecord.{PartRecord}
use Rattle.cm_abi_model.specs.Answered.{Requesting}
use Rattle.cm_abi_model.specs.RecordRequests.{AreAskable, kind_sizes, record_requests}
use Rattle.cm_abi_model.specs.RecordRequests.{requests_for}

-- how many requests are answered: those for so many parts, and so many for the next one
abbrev pub answered_count : StringEncoding → StringEncoding → List PartRecord → ℕ → ℕ → ℕ
answered_count source target records done stage =
    length (requests_for source target (take done records)) + stage

-- what is asked for, by what the code keeps
abbrev pub requesting_of : List PartRecord → StringEncoding → StringEncoding → List ℕ → ℕ → ℕ
    → Requesting
requesting_of records source target places stage last =
    record {
      records = records;
      source = source;
      target = target;
      places = places;
      answered = answered_count source target records (length places) stage;
      last = last;
    }

-- so many requests for the first of the parts are answered, and not all
abbrev pub IsStage : StringEncoding → StringEncoding → List PartRecord → ℕ → Type 0
IsStage source target [] stage = stage ≡ 0
IsStage source target (r ∷ rs) stage = stage < length (record_requests source target r)

-- these are the sizes that are asked for the first of the parts, if there is one
abbrev pub AreSizesOfFirst : StringEncoding → StringEncoding → List PartRecord → List ℕ → Type 0
AreSizesOfFirst source target [] sizes = ⊤
AreSizesOfFirst source target (r ∷ rs) sizes =
    sizes ≡ kind_sizes source target r.kind r.count r.size

-- The parts can be asked for; so many of them have all their answers, and the next one so many of
-- its, which are not all; the sizes at hand are the next one's. There is room for the places and
-- for the regions of all.
pub record IsAtStage (records : List PartRecord) (source target : StringEncoding)
    (done stage : ℕ) (sizes : List ℕ) (places regions : ℕ) : Type 0 where
  pub askable : AreAskable records
  pub few : done ≤ length records
  pub within : IsStage source target (drop done records) stage
  pub next : AreSizesOfFirst source target (drop done records) sizes
  pub room : length records ≤ places
  pub space : length records ≤ regions
