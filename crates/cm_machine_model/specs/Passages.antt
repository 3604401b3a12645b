-- What is on its way in a call: which value it is, what it asks for, and how far that is answered
-- (CanonicalABI.md, "Lifting and Lowering Values"; that the value stays where it was scanned, and
-- what is kept of it, is this project's own choice).
use Rattle.std.specs.Prelude.{◌≡◌, ℕ, List, [], ◌∷◌, ◌++◌, length}
use Rattle.std.specs.Prelude.{if◌then◌else◌}
use Rattle.cm_types.specs.declared.core_value.CoreValue.{CoreValue}
use Rattle.cm_types.specs.declared.core_value.CoreValue.TheVariants as core_value
use Rattle.cm_types.specs.Types.{Fields}
use Rattle.cm_types.specs.Values.{Val}
use Rattle.cm_abi_model.specs.declared.encoding.StringEncoding.{StringEncoding}
use Rattle.cm_abi_model.specs.declared.request.Request.{Request}
use Rattle.cm_abi_model.specs.Denotes.{Denotes}
use Rattle.cm_abi_model.specs.Receives.{leaves_in}
use Rattle.cm_abi_model.specs.Requests.{call_parts, requests, tuple_of}
use Rattle.cm_abi_model.specs.Taken.{met, tags_of as tags_met}
use Rattle.cm_abi_model.specs.Views.{View, Way}
use Rattle.cm_abi_model.specs.Answering.{places_of}
use Rattle.cm_abi_model.specs.RecordRequests.{tags_of}
use Rattle.cm_abi_model.specs.Answered.{last_answer}
use Rattle.cm_abi_model.specs.Telling.{TellAll}
use Rattle.cm_machine_model.specs.Plan.{Link, types_of, giver_side, receiver_side}
use Rattle.cm_machine_model.specs.State.{Passage}

-- ---- requests

-- what the value of a passage asks for, where the link passes it that way
abbrev pub asked_for : Link → Way → Passage → Val → List Request
asked_for l way p v =
    requests way (types_of l way) v (giver_side l way).encoding (receiver_side l way).encoding
    (tags_of p.records)

-- a request as an allocator gets it: the old pointer, which is the answer to the request before it
-- where it is chained and else 0, the old size, the alignment, the size
abbrev pub as_args : ℕ → Request → List CoreValue
as_args last r =
    core_value.I32 (if r.chained then last else 0) ∷ core_value.I32 r.old_size
    ∷ core_value.I32 r.align ∷ core_value.I32 r.size ∷ []

-- A passage has these answers to the first of these requests.
pub record HasAnswers (rs : List Request) (answers : List ℕ) (p : Passage) : Type 0 where
  pub count : p.answered ≡ length answers
  pub last : p.last ≡ last_answer answers
  pub places : p.places ≡ places_of rs answers

-- ---- values

-- The memory of its giver shows this value at the core values of a passage, in a view with whatever
-- handles; the handles of the passage are the value's, and its records tell the parts.
pub record Shown (memory : List ℕ) (source target : StringEncoding) (way : Way) (types : Fields)
    (p : Passage) (v : Val) : Type 0 where
  pub view : View
  pub memory_is : view.memory ≡ memory
  pub encoding_is : view.encoding ≡ source
  pub denoted : Denotes view way types p.slots v
  pub handles : p.leaves ≡ leaves_in (tuple_of types) v
  pub starts : List ℕ
  pub told : TellAll view target p.records (call_parts way types v) starts

-- The value on its way over a link, by the giver's memory as it is now.
abbrev pub Carries : List ℕ → Link → Way → Passage → Val → Type 0
Carries memory l way p v =
    Shown memory (giver_side l way).encoding (receiver_side l way).encoding way (types_of l way) p v

-- What a scan in a view keeps of a value: the core values that it looked at, the records, which ask
-- for what the value does with the tags of its strings, and the handles; no request is answered
-- yet.
pub record IsScanned (w : View) (l : Link) (way : Way) (slots : List CoreValue) (v : Val)
    (p : Passage) : Type 0 where
  pub slots_are : p.slots ≡ slots
  pub carried : Carries w.memory l way p v
  pub asks : asked_for l way p v
      ≡ requests way (types_of l way) v (giver_side l way).encoding (receiver_side l way).encoding
      (tags_met (met w way (types_of l way) slots v))
  pub none_placed : p.places ≡ []
  pub none_answered : p.answered ≡ 0
  pub none_last : p.last ≡ 0

-- One more request is answered than before: the last one of its part gives the part its place.
pub record IsAnswered (rs : List Request) (old : Passage) (at : ℕ) (new : Passage) : Type 0 where
  pub slots : new.slots ≡ old.slots
  pub records : new.records ≡ old.records
  pub leaves : new.leaves ≡ old.leaves
  pub answers : (before : List ℕ) → HasAnswers rs before old → HasAnswers rs (before ++ at ∷ []) new
