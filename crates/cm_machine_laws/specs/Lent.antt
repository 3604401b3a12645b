-- What is lent and borrowed, and for how long (CanonicalABI.md, `lift_borrow` and `lower_borrow`).
use Rattle.std.specs.Prelude.{◌≡◌, ℕ, ◌+◌, ◌⊎◌, List, [], ◌∷◌, ◌++◌}
use Rattle.cm_types.specs.Values.{Val}
use Rattle.cm_handles.specs.declared.handle.Handle.{Handle}
use Rattle.cm_handles.specs.declared.handle.HandleKind.TheVariants as handle
use Rattle.cm_abi_model.specs.Taken.{lent_of}
use Rattle.cm_machine_model.specs.declared.frame.Lend.{Lend}
use Rattle.cm_machine_laws.specs.Doing.{Doing, LoweredCall, body, destroys, doing, handing, placing}
use Rattle.cm_machine_laws.specs.Doing.{root, tidying}
use Rattle.cm_machine_model.specs.History.{Occurrence}
use Rattle.cm_machine_model.specs.Owning.{AreCounted, NoneDangles, StandsIn}
use Rattle.cm_machine_model.specs.Plan.{Plan}
use Rattle.cm_machine_model.specs.State.{State, lends_to}
use Rattle.cm_machine_laws.specs.Told.{WasSent, met_at_call}

-- what is lent to a call: what it borrows of the caller's handles, as it did when it was made,
-- until it ends
abbrev pub LentTo : LoweredCall → List Lend → Type 0
LentTo x ls = (v : Val) × WasSent x v × (ls ≡ lends_to x.place x.caller (lent_of (met_at_call x v)))

-- what is lent to what goes on: to a root and a destructor nothing
abbrev pub LentBy : Doing → List Lend → Type 0
LentBy (root i) ls = ls ≡ []
LentBy (placing x asked) ls = LentTo x ls
LentBy (body x asked) ls = LentTo x ls
LentBy (handing x asked r more) ls = LentTo x ls
LentBy (tidying x asked r more) ls = LentTo x ls
LentBy (destroys dropper i) ls = ls ≡ []

-- what is lent to all that goes on, the latest last
abbrev pub AreLent : List Doing → List Lend → Type 0
AreLent [] ls = ls ≡ []
AreLent (d ∷ ds) ls =
    (front back : List Lend) × (ls ≡ front ++ back) × AreLent ds front × LentBy d back

-- The lends are those to the calls that go on, no more and no less; each handle is lent as often as
-- it is among them.
pub record LendsStand (plan : Plan) (h : List Occurrence) (s : State) : Type 0 where
  pub lent : AreLent (doing plan h) s.lends
  pub counted : AreCounted s

-- a call goes on whose body runs, in this instance and with this number
abbrev pub RunsBody : List Doing → ℕ → ℕ → Type 0
RunsBody [] i n = ⊥
RunsBody (body x asked ∷ ds) i n = ((x.link.instance ≡ i) × (x.place ≡ n)) ⊎ RunsBody ds i n
RunsBody (d ∷ ds) i n = RunsBody ds i n

-- Each borrowed handle is of a call whose body runs in that instance; and none dangles.
pub record BorrowsStand (plan : Plan) (h : List Occurrence) (s : State) : Type 0 where
  pub of_bodies : (i index n : ℕ) (b : Handle) → StandsIn s i index b
      → b.kind ≡ handle.Borrowed n → RunsBody (doing plan h) i n
  pub none_dangles : NoneDangles s
