-- What the code comes to that looks at values (what it keeps is this project's own choice).
use Rattle.std.specs.Prelude.{◌≡◌, ℕ, ◌+◌, ◌*◌, ◌≤◌, ◌++◌, List, [], ◌∷◌, length}
use Rattle.std.specs.Prelude.{Result, Ok, Err, ⊤}
use Rattle.cm_text.specs.Ascii.{ascii_run}
use Rattle.cm_layout.specs.declared.heads.Head.{Head}
use Rattle.cm_abi_load.specs.declared.stop.Stop.{Stop}
use Rattle.cm_abi_load.specs.declared.stop.Stop.TheVariants as stop
use Rattle.cm_abi_load.specs.Making.{HasMore}
use Rattle.cm_abi_load.specs.Outcomes.{State, Stops}
use Rattle.cm_abi_load.specs.Reading.{Source, region}
use Rattle.cm_abi_load.specs.Records.{element_record}
use Rattle.cm_abi_model.specs.declared.encoding.StringEncoding.{StringEncoding}
use Rattle.cm_abi_model.specs.declared.encoding.StringEncoding.TheVariants as encoding
use Rattle.cm_abi_model.specs.declared.record.PartRecord.{PartRecord}
use Rattle.cm_abi_model.specs.Texts.{bytes_from}
use Rattle.cm_abi_running.specs.Checking.{Looked}

-- it stops where looking does; for want of memory only where there is a record or a handle to keep
abbrev pub StopsLooking : Looked → State → State → Stop → Type 0
StopsLooking looked s t stop.Memory = HasMore (λ (rs : List PartRecord). rs) s looked
StopsLooking looked s t (stop.Fault f) = looked ≡ Err (f, t)

-- it keeps the records that looking comes to behind those that were kept before, or stops
abbrev pub Looks : {A : Type 0} → Looked → List PartRecord → List PartRecord → State → State
    → Result A Stop → Type 0
Looks looked old new s t (Ok a) =
    (rs : List PartRecord) × (looked ≡ Ok (rs, t)) × (new ≡ old ++ rs)
Looks looked old new s t (Err e) = StopsLooking looked s t e

-- the region of a list of so many elements at a pointer is looked at, and the record of the list is
-- kept behind others; or it stops where that does, or for want of memory
abbrev pub KeepsList : Source → Head → ℕ → ℕ → List PartRecord → List PartRecord → State → State
    → Result ⊤ Stop → Type 0
KeepsList w e at n old new s t (Ok u) =
    (region w.memory e.align at (n * e.size) s ≡ Ok (tt, t))
    × (new ≡ old ++ element_record e at n ∷ [])
KeepsList w e at n old new s t (Err f) = Stops f t (region w.memory e.align at (n * e.size) s)

-- so many bytes at a pointer are ASCII, as a string that comes from UTF-8 and goes to UTF-8: they
-- lie in the memory, and are no more than may still come
pub record IsAscii (w : Source) (target : StringEncoding) (at size left : ℕ) : Type 0 where
  pub from : w.encoding ≡ encoding.Utf8
  pub to : target ≡ encoding.Utf8
  pub inside : at + size ≤ length w.memory
  pub few : size ≤ left
  pub ascii : ascii_run (bytes_from w.memory at size) ≡ size
