-- Why each borrow is of a call whose body runs.
use Rattle.std.proofs.Common.{◌≡◌, ℕ, inl, inr, Bool, true, false, List, [], ◌∷◌, length, Some}
use Rattle.std.proofs.Common.{refl, sym, subst, ◌∙◌}
use Rattle.std.specs.Prelude.{◌==◌, if◌then◌else◌}
use Rattle.std.proofs.lemmas.Bool.{eqb-true}
use Rattle.std.proofs.lemmas.Option.{none-some, same_Some}
use Rattle.cm_machine_model.specs.declared.frame.Call.{Call}
use Rattle.cm_machine_model.specs.declared.frame.Frame.{Frame}
use Rattle.cm_machine_model.specs.declared.frame.Phase.{Phase}
use Rattle.cm_machine_model.specs.declared.frame.Phase.TheVariants as phase
use Rattle.cm_machine_model.specs.declared.frame.Purpose.TheVariants as purpose
use Rattle.cm_machine_model.specs.Owning.{NoneDangles}
use Rattle.cm_machine_model.specs.Plan.{Plan}
use Rattle.cm_machine_model.specs.State.{State}
use Rattle.cm_machine_model.specs.Valid.{IsValidState, frame_at}
use Rattle.cm_machine_laws.specs.Always.{Always}
use Rattle.cm_machine_laws.specs.Doing.{Doing, body, destroys, doing, handing, placing, root}
use Rattle.cm_machine_laws.specs.Doing.{tidying}
use Rattle.cm_machine_laws.specs.Lent.{BorrowsStand, RunsBody}
use Rattle.cm_machine_laws.specs.Matching.{AllMatch, MatchIn, MatchOne}
use Rattle.cm_machine_laws.proofs.OnTheWay.{IsTold, StaysValid}

abbrev pub NothingDangles : Type 0
NothingDangles = (plan : Plan) (s : State) → IsValidState plan s → NoneDangles s

body_runs : (plan : Plan) (i n k : ℕ) (call : Call) (d : Doing) (ds : List Doing) → n ≡ k → MatchIn phase.Body plan i call k d → RunsBody (d ∷ ds) i n
body_runs plan i n k call (body x asked) ds e m = inl (m.instance, m.placed ∙ sym e)
body_runs plan i n k call d ds e m = absurd m

later : (d : Doing) (ds : List Doing) (i n : ℕ) → RunsBody ds i n → RunsBody (d ∷ ds) i n
later (root j) ds i n r = r
later (placing x asked) ds i n r = r
later (body x asked) ds i n r = inr r
later (handing x asked q more) ds i n r = r
later (tidying x asked q more) ds i n r = r
later (destroys dropper j) ds i n r = r

of_frame : (plan : Plan) (f : Frame) (n k i : ℕ) (call : Call) (d : Doing) (ds : List Doing) → n ≡ k → f ≡ record { instance = i; purpose = purpose.Call call } → call.phase ≡ phase.Body
    → MatchOne f.purpose plan f.instance k d → RunsBody (d ∷ ds) i n
of_frame plan f n k i call d ds e is ph m =
    body_runs plan i n k call d ds e (subst (λ (p : Phase). MatchIn p plan i call k d) ph (subst (λ (g : Frame). MatchOne g.purpose plan g.instance k d) is m))

pub runs : (plan : Plan) (fs : List Frame) (ds : List Doing) (n i : ℕ) (call : Call) → AllMatch plan fs ds → frame_at fs n ≡ Some (record { instance = i; purpose = purpose.Call call }) → call.phase ≡ phase.Body
    → RunsBody ds i n
runs plan [] ds n i call m at ph = absurd (none-some (record { instance = i; purpose = purpose.Call call }) at)
runs plan (f ∷ fs) [] n i call m at ph = absurd m
runs plan (f ∷ fs) (d ∷ ds) n i call m at ph = by (n == length fs) refl at (λ a. runs plan fs ds n i call m.1 a ph) where
  by : (b : Bool) → (n == length fs) ≡ b → (if b then Some f else frame_at fs n) ≡ Some (record { instance = i; purpose = purpose.Call call })
      → (frame_at fs n ≡ Some (record { instance = i; purpose = purpose.Call call }) → RunsBody ds i n) → RunsBody (d ∷ ds) i n
  by true is a rest = of_frame plan f n (length fs) i call d ds (eqb-true n (length fs) is) (same_Some f (record { instance = i; purpose = purpose.Call call }) a) ph m.0
  by false is a rest = later d ds i n (rest a)

pub borrows_stand : StaysValid → IsTold → NothingDangles → Always BorrowsStand
borrows_stand valid told dangles plan pages h s y = record {
  of_bodies = λ i index n b stands borrowed.
      let is = (valid plan pages h s y).borrowed i index n b stands borrowed in
      runs plan s.stack (doing plan h) n i is.stands_call (told plan pages h s y).matched is.stands is.in_body;
  none_dangles = dangles plan s (valid plan pages h s y);
}
