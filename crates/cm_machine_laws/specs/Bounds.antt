-- How much is kept of a value that is on its way (this project's own choice).
use Rattle.std.specs.Prelude.{◌≡◌, ℕ, ◌*◌, ◌≤◌, ⊤, List, [], ◌∷◌, length, Option, Some, None}
use Rattle.cm_types.specs.Values.{Val}
use Rattle.cm_abi_model.specs.Scanned.{Scanned, all_kept, things_kept}
use Rattle.cm_abi_model.specs.Taken.{lent_of}
use Rattle.cm_abi_model.specs.Views.{params, results}
use Rattle.cm_machine_laws.specs.Doing.{Doing, LoweredCall, body, doing, handing, placing, tidying}
use Rattle.cm_machine_model.specs.History.{Occurrence}
use Rattle.cm_abi_model.specs.Requests.{parts_of}
use Rattle.cm_machine_model.specs.Plan.{Plan, types_of}
use Rattle.cm_machine_model.specs.State.{Passage, State}
use Rattle.cm_machine_model.specs.Work.{IsKeptOf}
use Rattle.cm_machine_laws.specs.Told.{WasReturned, WasSent, met_at_call}

-- What is kept of a value of so many parts and handles: no more records, no more places and no more
-- handles; and all lists of the set together have at most three members for each: a record and a
-- place for a part; for a handle how its type has it, where it went, and its number.
pub record IsBounded (o : Option Passage) (count : ℕ) : Type 0 where
  pub records : (p : Passage) → o ≡ Some p → length p.records ≤ count
  pub places : (p : Passage) → o ≡ Some p → length p.places ≤ count
  pub handles : (p : Passage) → o ≡ Some p → length p.leaves ≤ count
  pub things : (k : Scanned) → IsKeptOf o k → things_kept k ≤ count
  pub all : (k : Scanned) → IsKeptOf o k → all_kept k ≤ 3 * count

-- Nothing is kept: nothing is on its way, and no list of the set has a member.
pub record KeepsNothing (o : Option Passage) : Type 0 where
  pub passage : o ≡ None
  pub all : (k : Scanned) → IsKeptOf o k → all_kept k ≡ 0

-- Of a value that is on its way no more is kept than it has parts and handles; of a call on which
-- none is, nothing.
abbrev pub IsBoundedBy : List Doing → State → Type 0
IsBoundedBy (placing x asked ∷ ds) s =
    (v : Val) × WasSent x v × IsBounded s.passage (parts_of params (types_of x.link params) v)
IsBoundedBy (handing x asked r more ∷ ds) s =
    (v : Val) × WasReturned x r v
    × IsBounded s.passage (parts_of results (types_of x.link results) v)
IsBoundedBy ds s = KeepsNothing s.passage

-- a call that goes on borrows no more handles than its value has parts and handles
abbrev pub BorrowsFew : LoweredCall → Type 0
BorrowsFew x = (v : Val) → WasSent x v
    → length (lent_of (met_at_call x v)) ≤ parts_of params (types_of x.link params) v

-- each call that goes on borrows so few
abbrev pub LendsFew : List Doing → Type 0
LendsFew [] = ⊤
LendsFew (placing x asked ∷ ds) = BorrowsFew x × LendsFew ds
LendsFew (body x asked ∷ ds) = BorrowsFew x × LendsFew ds
LendsFew (handing x asked r more ∷ ds) = BorrowsFew x × LendsFew ds
LendsFew (tidying x asked r more ∷ ds) = BorrowsFew x × LendsFew ds
LendsFew (d ∷ ds) = LendsFew ds

-- No more is kept of a call than its value has parts and handles.
abbrev pub KeepsFew : Plan → List Occurrence → State → Type 0
KeepsFew plan h s = IsBoundedBy (doing plan h) s × LendsFew (doing plan h)
