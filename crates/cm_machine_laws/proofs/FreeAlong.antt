-- Why the free indices of each history are those that it left.
use Rattle.std.proofs.Common.{◌≡◌, ℕ, true, List, [], ◌∷◌, Option, Some, refl, sym, ap, subst, ◌∙◌}
use Rattle.std.specs.Prelude.{length, slice_get}
use Rattle.std.specs.Option.{option_map}
use Rattle.cm_handles.specs.Handles.{Handles, next_index}
use Rattle.cm_machine_model.specs.declared.event.Event.{Event}
use Rattle.cm_machine_model.specs.declared.event.Event.TheVariants as event
use Rattle.cm_machine_model.specs.declared.frame.Frame.{Frame}
use Rattle.cm_machine_model.specs.declared.moves.Move.{Move}
use Rattle.cm_machine_model.specs.Cases.{IsCase, case_of}
use Rattle.cm_machine_model.specs.History.{Action, Happens, IsHistoryOf, Occurrence, begins, moves}
use Rattle.cm_machine_model.specs.Plan.{Plan}
use Rattle.cm_machine_model.specs.Run.{after_begin}
use Rattle.cm_machine_model.specs.Stack.{actor, top_of}
use Rattle.cm_machine_model.specs.State.{State, fresh_state, table_at}
use Rattle.cm_machine_model.specs.Step.{Step}
use Rattle.cm_machine_model.specs.Valid.{IsValidState}
use Rattle.cm_machine_laws.specs.Acting.{acts}
use Rattle.cm_machine_laws.specs.Always.{Always}
use Rattle.cm_machine_laws.specs.Doing.{Doing, doing}
use Rattle.cm_machine_laws.specs.FreeIndices.{AreLeft, Free, NextIndexIsTheLastFreed, Use, UsesBy}
use Rattle.cm_machine_laws.specs.FreeIndices.{after_use, free_in, index_for, none_used}
use Rattle.cm_machine_laws.specs.Matching.{AllMatch, AreTold}
use Rattle.cm_machine_laws.specs.Following.{AreFollowed}
use Rattle.cm_machine_laws.proofs.Calls.{Laws}
use Rattle.cm_machine_laws.proofs.FreeCases.{IsStepped, free_case}
use Rattle.cm_machine_laws.proofs.FreeTables.{next_is}
use Rattle.cm_machine_laws.proofs.HandlesAlong.{IsFollowedAlong, IsTold, StaysValid}
use Rattle.cm_machine_model.proofs.StateLaws.{table_none}

-- what an action does: the indices of an instance that it does not close are used as told
record IsActed (plan : Plan) (s : State) (ds : List Doing) (acting : Option ℕ) (a : Action)
    (e : Event) (new : State) : Type 0 where
  uses : ℕ → Use
  told : UsesBy plan ds s acting a e uses
  left : (j : ℕ) → (slice_get new.closed j ≡ Some true → ⊥)
      → free_in (table_at new.tables j) ≡ after_use (uses j) (free_in (table_at s.tables j))
  closed : (j : ℕ) → slice_get s.closed j ≡ Some true → slice_get new.closed j ≡ Some true

begun : (plan : Plan) (s : State) (ds : List Doing) (acting : Option ℕ) (i : ℕ)
    → IsActed plan s ds acting (begins i) (event.Resume i []) (after_begin s i)
begun plan s ds acting i = record {
  uses = λ j. record { frees = []; adds = 0 };
  told = λ j. refl;
  left = λ j opened_still. refl;
  closed = λ j c. c;
}

moved : (laws : Laws) (plan : Plan) (s : State) (m : Move) (e : Event) (new : State)
    (acting : Option ℕ) (ds : List Doing) → IsValidState plan s → AreTold plan s acting ds
    → AreFollowed s ds → Step plan s m e new → IsActed plan s ds acting (moves m) e new
moved laws plan s m e new acting ds valid told f step = record {
  uses = x.uses;
  told = subst (λ (o : Option ℕ). UsesBy plan ds s o (moves m) e x.uses) (sym acts_is) x.told;
  left = x.left;
  closed = x.closed;
} where
  c : IsCase plan s m e new
  c = case_of plan s m e new step

  acts_is : acting ≡ Some (actor c.top)
  acts_is = sym told.acts ∙ ap (λ (fs : List Frame). option_map actor (top_of fs)) c.stack

  x : IsStepped plan s c.top ds m e new
  x = free_case laws plan s c.top c.rest ds c.stack valid
      (subst (λ (fs : List Frame). AllMatch plan fs ds) c.stack told.matched) f m e new c.case

acted : (laws : Laws) (plan : Plan) (s : State) (a : Action) (e : Event) (new : State)
    (acting : Option ℕ) (ds : List Doing) → IsValidState plan s → AreTold plan s acting ds
    → AreFollowed s ds → Happens plan s a e new → IsActed plan s ds acting a e new
acted laws plan s (begins i) e new acting ds valid told f x =
    subst (λ (n : State). IsActed plan s ds acting (begins i) e n) (sym x.2)
    (subst (λ (v : Event). IsActed plan s ds acting (begins i) v (after_begin s i)) (sym x.1)
    (begun plan s ds acting i))
acted laws plan s (moves m) e new acting ds valid told f x =
    moved laws plan s m e new acting ds valid told f x.1

-- what a history leaves, tied to the tables
abbrev IsTied : Plan → List Occurrence → State → Type 0
IsTied plan h s =
    (free : ℕ → Free) × AreLeft plan h free
    × ((j : ℕ) → (slice_get s.closed j ≡ Some true → ⊥) → free_in (table_at s.tables j) ≡ free j)

ties : (plan : Plan) (x : Occurrence) (h : List Occurrence) (s : State) → s ≡ x.after
    → IsTied plan h x.before
    → IsActed plan x.before (doing plan h) (acts h) x.action x.event x.after
    → IsTied plan (x ∷ h) s
ties plan x h s is rest one = (
  (λ j. after_use (one.uses j) (rest.0 j)),
  (rest.0, rest.1, (one.uses, one.told, (λ j. refl))),
  (λ j still.
      let kept : slice_get x.after.closed j ≡ Some true → ⊥ = λ c. still (ap (λ (n : State). slice_get n.closed j) is ∙ c) in
      ap (λ (n : State). free_in (table_at n.tables j)) is
      ∙ (one.left j kept
      ∙ ap (λ (f : Free). after_use (one.uses j) f) (rest.2 j (λ c. kept (one.closed j c))))),
)

tied : Laws → StaysValid → IsTold → IsFollowedAlong → Always IsTied
tied laws valid told follow plan pages [] s y = (
  (λ j. none_used),
  (λ j. refl),
  (λ j still.
      ap (λ (n : State). free_in (table_at n.tables j)) y.history
      ∙ ap (λ (t : Handles). free_in t) (table_none (length plan) j)),
)
tied laws valid told follow plan pages (x ∷ h) s y =
    let before : IsHistoryOf plan pages h x.before = record { linked = y.linked; pages_fit = y.pages_fit; history = y.history.0 } in
    ties plan x h s y.history.2 (tied laws valid told follow plan pages h x.before before)
    (acted laws plan x.before x.action x.event x.after (acts h) (doing plan h)
    (valid plan pages h x.before before) (told plan pages h x.before before)
    (follow plan pages h x.before before) y.history.1)

pub next_index_is_the_last_freed : Laws → StaysValid → IsTold → IsFollowedAlong
    → Always NextIndexIsTheLastFreed
next_index_is_the_last_freed laws valid told follow plan pages h s y = (
  all.0,
  all.1,
  (λ j opened_still. (
    next_is (table_at s.tables j) ∙ ap (λ (f : Free). index_for f) (all.2 j opened_still),
    all.2 j opened_still,
  )),
) where
  all : IsTied plan h s
  all = tied laws valid told follow plan pages h s y
