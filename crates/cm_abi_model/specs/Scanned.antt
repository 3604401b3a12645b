-- What is kept of a value on its way, between its scan and its copy (CanonicalABI.md, "Lifting and
-- Lowering Values"; that this is kept is this project's own choice).
use Rattle.std.specs.Prelude.{◌≡◌, ℕ, ◌+◌, ◌≤◌, Bool, true, false, List, [], length}
use Rattle.cm_types.specs.declared.core_value.CoreValue.{CoreValue}
use Rattle.cm_types.specs.Spellable.{are_spellable}
use Rattle.cm_types.specs.Types.{Fields}
use Rattle.cm_types.specs.Values.{Val}
use Rattle.cm_handles.specs.Handles.{Handles}
use Rattle.cm_handles.specs.declared.handle.Handle.{Handle}
use Rattle.cm_abi_model.specs.Answered.{IsAnswered, OnlyAnswered, Requesting, nothing_asked}
use Rattle.cm_abi_model.specs.CallPlaces.{call_places}
use Rattle.cm_abi_model.specs.Denotes.{Denotes}
use Rattle.cm_abi_model.specs.Lifts.{Hands, Lifts}
use Rattle.cm_abi_model.specs.Receives.{HandleLeaf, leaves_in}
use Rattle.cm_abi_model.specs.RecordRequests.{tags_of}
use Rattle.cm_abi_model.specs.Requests.{CanStore, call_parts, tuple_of}
use Rattle.cm_abi_model.specs.Taken.{content_of, met}
use Rattle.cm_abi_model.specs.Taken as taken
use Rattle.cm_abi_model.specs.Telling.{TellAll}
use Rattle.cm_abi_model.specs.Views.{View, Way}
use Rattle.cm_abi_model.specs.declared.encoding.StringEncoding.{StringEncoding}
use Rattle.cm_abi_model.specs.declared.encoding.StringEncoding.TheVariants.{Latin1OrUtf16}

-- What is kept of a value, and whether there is one: its parts, with how far they are asked for;
-- its handles, in reading order, each as its type has it; those that were taken out of the giver's
-- table, and the indices that were lent; how many bytes its strings and lists are in their source;
-- and, once it was copied, the numbers that stand for its handles.
pub record Scanned : Type 0 where
  pub has_value : Bool
  pub parts : Requesting
  pub handles : List HandleLeaf
  pub owns : List Handle
  pub lends : List ℕ
  pub content : ℕ
  pub numbers : List ℕ

-- nothing is kept
abbrev pub nothing_kept : Scanned
nothing_kept = record {
  has_value = false;
  parts = nothing_asked;
  handles = [];
  owns = [];
  lends = [];
  content = 0;
  numbers = [];
}

-- how many things are kept: a record of each part, and the handles
abbrev pub things_kept : Scanned → ℕ
things_kept s = length s.parts.records + length s.handles

-- how many members all lists have together: the records of the parts, their places, the handles,
-- those that were taken and those that were lent, and their numbers
abbrev pub all_kept : Scanned → ℕ
all_kept s =
    length s.parts.records + length s.parts.places + length s.handles + length s.owns
    + length s.lends + length s.numbers

-- What is kept is in order: no part has two places; of no handle it is kept twice that it was taken
-- or lent, or what its number is; and where there is no value, nothing is kept.
pub record IsInOrder (s : Scanned) : Type 0 where
  pub places : length s.parts.places ≤ length s.parts.records
  pub handed : length s.owns + length s.lends ≤ length s.handles
  pub numbers : length s.numbers ≤ length s.handles
  pub empty : s.has_value ≡ false → things_kept s ≡ 0

-- the handles after values were scanned
abbrev pub scanned_with : Handles → Scanned → Hands
scanned_with table s = record { table = table; owns = s.owns; lends = s.lends }

-- Values were scanned in a view, for strings to be stored in an encoding: the core values denote
-- one that can be handed over, its handles are, and are told as the value has them. The records
-- tell its parts, each at its place, with the tags of its strings where these have tags; and the
-- parts are asked for, with none of the requests answered.
pub record ScansCall (w : View) (target : StringEncoding) (way : Way) (types : Fields)
    (slots : List CoreValue) (v : Val) (table : Handles) (s : Scanned) : Type 0 where
  pub lifts : (tags : List Bool) × Lifts w way types slots v tags (scanned_with table s)
  pub tells : TellAll w target s.parts.records (call_parts way types v)
      (call_places w way types slots v)
  pub tagged : w.encoding ≡ Latin1OrUtf16
      → tags_of s.parts.records ≡ taken.tags_of (met w way types slots v)
  pub unanswered : IsAnswered s.parts []
  pub source : s.parts.source ≡ w.encoding
  pub goes_to : s.parts.target ≡ target
  pub handles : s.handles ≡ leaves_in (tuple_of types) v
  pub content : s.content ≡ content_of (met w way types slots v)
  pub not_given : s.numbers ≡ []

-- What was scanned in a view of the giver goes on as a value of these types, which a file can
-- spell, from the encoding of the view to one in which values of them may be stored: the core
-- values denote it there, the records tell its parts, and the handles are its. Of the view this
-- asks for the memory and the encoding, and for its table as it was when the value was scanned.
pub record GoesOn (giver : View) (way : Way) (types : Fields) (slots : List CoreValue) (v : Val)
    (s : Scanned) : Type 0 where
  pub spellable : are_spellable types ≡ true
  pub encoding : giver.encoding ≡ s.parts.source
  pub stores : CanStore s.parts.target types
  pub denoted : Denotes giver way types slots v
  pub starts : List ℕ
  pub told : TellAll giver s.parts.target s.parts.records (call_parts way types v) starts
  pub handles : s.handles ≡ leaves_in (tuple_of types) v

-- answers were kept for a value on its way, and nothing else is changed
pub record OnlyAsked (old new : Scanned) : Type 0 where
  pub kept : new ≡ record old { parts = new.parts }
  pub parts : OnlyAnswered old.parts new.parts
