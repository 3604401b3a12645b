-- Frames and what goes on by the events, one for one.
use Rattle.std.specs.Prelude.{◌≡◌, ◌⊎◌, ℕ, ⊤, List, [], ◌∷◌, length, Option}
use Rattle.std.specs.Option.{option_map}
use Rattle.cm_machine_model.specs.declared.event.Event.{Event}
use Rattle.cm_machine_model.specs.declared.frame.Call.{Call}
use Rattle.cm_machine_model.specs.declared.frame.Frame.{Frame}
use Rattle.cm_machine_model.specs.declared.frame.Phase.{Phase}
use Rattle.cm_machine_model.specs.declared.frame.Phase.TheVariants as phase
use Rattle.cm_machine_model.specs.declared.frame.Purpose.{Purpose}
use Rattle.cm_machine_model.specs.declared.frame.Purpose.TheVariants as purpose
use Rattle.cm_machine_model.specs.declared.moves.Move.{Move}
use Rattle.cm_machine_laws.specs.Acting.{acts_after}
use Rattle.cm_machine_laws.specs.Doing.{Doing, LoweredCall, after_move, body, destroys, handing}
use Rattle.cm_machine_laws.specs.Doing.{placing, root, tidying}
use Rattle.cm_machine_laws.specs.Answers.{IsAnswerTo, Traps}
use Rattle.cm_machine_model.specs.Plan.{Plan, Reaches}
use Rattle.cm_machine_model.specs.Stack.{actor, top_of}
use Rattle.cm_machine_model.specs.State.{State}
use Rattle.cm_machine_model.specs.Step.{Step, result_place}
use Rattle.cm_machine_model.specs.Valid.{IsValidState}

-- a frame's call, of this instance and at this place, is the one that was made
pub record IsCallOf (plan : Plan) (i : ℕ) (call : Call) (place : ℕ) (x : LoweredCall)
    : Type 0 where
  pub caller : x.caller ≡ call.caller
  pub link : Reaches plan call.caller call.func x.link
  pub instance : x.link.instance ≡ i
  pub placed : x.place ≡ place
  pub result_at : call.result_at ≡ result_place x.link x.args

-- a call's phase is how far it is by the events
abbrev pub MatchIn : Phase → Plan → ℕ → Call → ℕ → Doing → Type 0
MatchIn phase.Arguments plan i call n (placing x asked) = IsCallOf plan i call n x
MatchIn phase.Body plan i call n (body x asked) = IsCallOf plan i call n x
MatchIn phase.Results plan i call n (handing x asked r more) = IsCallOf plan i call n x
MatchIn (phase.PostReturn v) plan i call n (tidying x asked r more) = IsCallOf plan i call n x
MatchIn ph plan i call n d = ⊥

-- a frame is what goes on
abbrev pub MatchOne : Purpose → Plan → ℕ → ℕ → Doing → Type 0
MatchOne purpose.Root plan i n (root j) = j ≡ i
MatchOne (purpose.Call call) plan i n d = MatchIn call.phase plan i call n d
MatchOne (purpose.Destructor dropper) plan i n (destroys who j) = (who ≡ dropper) × (j ≡ i)
MatchOne pu plan i n d = ⊥

-- frames are what goes on, one for one
abbrev pub AllMatch : Plan → List Frame → List Doing → Type 0
AllMatch plan [] [] = ⊤
AllMatch plan [] (d ∷ ds) = ⊥
AllMatch plan (f ∷ fs) [] = ⊥
AllMatch plan (f ∷ fs) (d ∷ ds) =
    MatchOne f.purpose plan f.instance (length fs) d × AllMatch plan fs ds

-- The frames are what goes on, and who acts by the frame on top is whom the last event named.
pub record AreTold (plan : Plan) (s : State) (acting : Option ℕ) (ds : List Doing) : Type 0 where
  pub matched : AllMatch plan s.stack ds
  pub acts : option_map actor (top_of s.stack) ≡ acting

-- Each step keeps that.
abbrev pub StepsTell : Type 0
StepsTell = (plan : Plan) (s : State) (m : Move) (e : Event) (new : State) (acting : Option ℕ)
    (ds : List Doing) → IsValidState plan s → AreTold plan s acting ds → Step plan s m e new
    → AreTold plan new (acts_after e acting) (after_move plan acting s m e ds)

-- Each step answers its move by its own event, or traps.
abbrev pub StepsAnswer : Type 0
StepsAnswer = (plan : Plan) (s : State) (m : Move) (e : Event) (new : State) (acting : Option ℕ)
    (ds : List Doing) → IsValidState plan s → AreTold plan s acting ds → Step plan s m e new
    → Traps e ⊎ IsAnswerTo plan acting ds m e
