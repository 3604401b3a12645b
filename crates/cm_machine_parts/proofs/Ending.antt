-- The state as a frame goes.
use Rattle.std.proofs.Common.{◌≡◌, ◌≢◌, ℕ, zero, suc, ◌+◌, ◌-◌, ◌<◌, ◌≤◌, ◌⊎◌, Bool, true, false, List, [], ◌∷◌, ◌++◌, length, take, drop, Option, Some, None, refl, sym, ap, subst, ◌∙◌, arith}
use Rattle.std.specs.Prelude.{slice_index, ◌==◌, if◌then◌else◌, Contains}
use Rattle.std.proofs.lemmas.Bool.{ne_eqb}
use Rattle.cm_handles.specs.Borrows.{borrows_of}
use Rattle.cm_handles.specs.Handles.{Handles, after_unlend}
use Rattle.cm_abi_model.specs.Views.{params, results}
use Rattle.cm_machine_model.specs.declared.frame.Call.{Call}
use Rattle.cm_machine_model.specs.declared.frame.Frame.{Frame}
use Rattle.cm_machine_model.specs.declared.frame.Lend.{Lend}
use Rattle.cm_machine_model.specs.declared.frame.Phase.{Phase}
use Rattle.cm_machine_model.specs.declared.frame.Phase.TheVariants as phase
use Rattle.cm_machine_model.specs.declared.frame.Purpose.{Purpose}
use Rattle.cm_machine_model.specs.declared.frame.Purpose.TheVariants as purpose
use Rattle.cm_machine_model.specs.Plan.{Plan, Link, Reaches}
use Rattle.cm_machine_model.specs.Stack.{below_top, top_of}
use Rattle.cm_machine_model.specs.State.{State, table_at}
use Rattle.cm_machine_model.specs.Step.{MayLeave, MayLeaveIn}
use Rattle.cm_machine_model.specs.Valid.{AreToCalls, IsStack, StandsOn, frame_at}
use Rattle.cm_machine_parts.specs.declared.passing.Passing.{Passing}
use Rattle.cm_machine_parts.specs.Kept.{AreBorrowsCounted, IsEncodedAtTop, IsEncodedFor, IsEncodedIn}
use Rattle.cm_machine_parts.specs.Lends.{NoneAbove}
use Rattle.cm_machine_model.proofs.ValidLaws.{frame_within}

-- ---- places of frames

-- a frame below stands where it stood
pub frame_below : (fs : List Frame) (n : ℕ) (f : Frame) → frame_at (below_top fs) n ≡ Some f → frame_at fs n ≡ Some f
frame_below [] n f e = e
frame_below (g ∷ fs) n f e =
    let lt = frame_within fs n f e in
    ap (λ (b : Bool). if b then Some g else frame_at fs n) (ne_eqb n (length fs) (omega (arith, lt))) ∙ e

-- no lend is to a call above the one on top
pub none_above : (s : State) → AreToCalls s → 0 < length s.stack → NoneAbove (length s.stack - 1) s.lends
none_above s calls some l among =
    let at = calls l among in
    omega (arith, frame_within s.stack l.frame (record { instance = at.instance; purpose = purpose.Call at.call }) at.stands)

pub top_below : (fs : List Frame) → length (below_top fs) ≡ length fs - 1
top_below [] = refl
top_below (f ∷ fs) = omega arith

-- ---- what is kept

encoded_in : (p : Phase) (l : Link) (passing : Passing) → MayLeaveIn p → IsEncodedIn p l passing
encoded_in phase.Arguments l passing leaves = absurd leaves
encoded_in phase.Body l passing leaves = tt
encoded_in phase.Results l passing leaves = absurd leaves
encoded_in (phase.PostReturn result) l passing leaves = absurd leaves

-- nothing is on its way where a frame may call out
pub encoded_for : (plan : Plan) (passing : Passing) (p : Purpose) → MayLeave p → IsEncodedFor plan passing p
encoded_for plan passing purpose.Root leaves = tt
encoded_for plan passing (purpose.Call call) leaves = λ l reaches. encoded_in call.phase l passing leaves
encoded_for plan passing (purpose.Destructor dropper) leaves = tt

abbrev IsOnLeaving : List Frame → Type 0
IsOnLeaving fs = (f : Frame) × (top_of fs ≡ Some f) × MayLeave f.purpose

encoded_on : (plan : Plan) (passing : Passing) (fs : List Frame) → IsOnLeaving fs → IsEncodedAtTop plan passing fs
encoded_on plan passing [] on = tt
encoded_on plan passing (g ∷ fs) on =
    let same : g ≡ on.0 = cc (on.1) in
    encoded_for plan passing g.purpose (subst (λ (f : Frame). MayLeave f.purpose) (sym same) on.2)

encoded_none : (plan : Plan) (passing : Passing) (fs : List Frame) → fs ≡ [] → IsEncodedAtTop plan passing fs
encoded_none plan passing fs e = subst (λ (gs : List Frame). IsEncodedAtTop plan passing gs) (sym e) tt

stands_encoded : (plan : Plan) (passing : Passing) (p : Purpose) (instance : ℕ) (fs : List Frame) → StandsOn plan p instance fs → IsEncodedAtTop plan passing fs
stands_encoded plan passing purpose.Root instance fs stands = encoded_none plan passing fs stands
stands_encoded plan passing (purpose.Call call) instance fs stands = encoded_on plan passing fs (stands.1.0, stands.1.1, stands.1.3)
stands_encoded plan passing (purpose.Destructor dropper) instance fs stands = encoded_on plan passing fs (stands.1.0, stands.1.1, stands.1.3)

-- as the frame on top goes, the one below may call out
pub encoded_below : (plan : Plan) (passing : Passing) (fs : List Frame) → IsStack plan fs → IsEncodedAtTop plan passing (below_top fs)
encoded_below plan passing [] stack = tt
encoded_below plan passing (f ∷ fs) stack = stands_encoded plan passing f.purpose f.instance fs stack.1

-- the numbers of borrows stay as the frame on top goes, where those of tables do
pub counted_below : (borrows : List ℕ) (fs : List Frame) (old new : List Handles) → AreBorrowsCounted borrows fs old → ((call i : ℕ) → borrows_of call (table_at new i) ≡ borrows_of call (table_at old i)) → AreBorrowsCounted borrows (below_top fs) new
counted_below borrows fs old new counted same place f at = counted place f (frame_below fs place f at) ∙ sym (same place f.instance)
