-- Requests that are answered one after another (CanonicalABI.md, `realloc`).
use Rattle.std.specs.Prelude.{◌≡◌, ℕ, ◌≤◌, List, [], ◌∷◌, length}
use Rattle.std.specs.Prelude.{Option, None, if◌then◌else◌, option_map, slice_get}
use Rattle.cm_abi_model.specs.declared.encoding.StringEncoding.{StringEncoding}
use Rattle.cm_abi_model.specs.declared.encoding.StringEncoding.TheVariants.{Utf8}
use Rattle.cm_abi_model.specs.declared.record.PartRecord.{PartRecord}
use Rattle.cm_abi_model.specs.declared.request.Request.{Request}
use Rattle.cm_abi_model.specs.Answering.{places_of}
use Rattle.cm_abi_model.specs.RecordRequests.{requests_for}

-- the last of answers; 0 where there is none
abbrev pub last_answer : List ℕ → ℕ
last_answer [] = 0
last_answer (a ∷ []) = a
last_answer (a ∷ b ∷ answers) = last_answer (b ∷ answers)

-- a request with its old pointer: where it is chained the answer to the request before it, else 0
abbrev pub with_last : ℕ → Request → Request × ℕ
with_last last r = (r, (if r.chained then last else 0))

abbrev pub with_old : List ℕ → Request → Request × ℕ
with_old answers r = with_last (last_answer answers) r

-- the request behind those that were answered, with its old pointer
abbrev pub next_of : List Request → List ℕ → Option (Request × ℕ)
next_of requests answers = option_map (with_old answers) (slice_get requests (length answers))

-- The parts that are asked for, by their records, with how strings are encoded in their source and
-- where they are stored; where the parts stand that have all their answers, in order; how many
-- requests are answered, and the answer that came last, 0 before the first one.
pub record Requesting : Type 0 where
  pub records : List PartRecord
  pub source : StringEncoding
  pub target : StringEncoding
  pub places : List ℕ
  pub answered : ℕ
  pub last : ℕ

-- the requests for the parts, in order
abbrev pub all_requests : Requesting → List Request
all_requests p = requests_for p.source p.target p.records

-- parts are asked for, and no request is answered
abbrev pub unanswered : List PartRecord → StringEncoding → StringEncoding → Requesting
unanswered records source target =
    record {
      records = records;
      source = source;
      target = target;
      places = [];
      answered = 0;
      last = 0;
    }

-- nothing is asked for
abbrev pub nothing_asked : Requesting
nothing_asked = unanswered [] Utf8 Utf8

-- The first of the requests have these answers: as many are answered, each part whose requests are
-- all answered stands at the answer to its last one, and the last answer is the last of these.
pub record IsAnswered (p : Requesting) (answers : List ℕ) : Type 0 where
  pub few : length answers ≤ length (all_requests p)
  pub count : p.answered ≡ length answers
  pub places : p.places ≡ places_of (all_requests p) answers
  pub last : p.last ≡ last_answer answers

-- all requests are answered
abbrev pub IsAllAnswered : Requesting → List ℕ → Type 0
IsAllAnswered p answers = IsAnswered p answers × (next_of (all_requests p) answers ≡ None)

-- answers were kept, and nothing else is changed
abbrev pub OnlyAnswered : Requesting → Requesting → Type 0
OnlyAnswered old new =
    new ≡ record old { places = new.places; answered = new.answered; last = new.last }
