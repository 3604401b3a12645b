-- Functions that a host serves (CanonicalABI.md, "canon lift": what the lifted core function is
-- given, and what it returns).
use Rattle.std.specs.Prelude.{◌≡◌, ◌⊎◌, ℕ, ◌==◌, ⊤, List, [], ◌∷◌, Option, Some, None, Result, Ok}
use Rattle.std.specs.Prelude.{slice_get}
use Rattle.std.specs.List.{position_from}
use Rattle.std.specs.declared.alloc.AllocError.{AllocError}
use Rattle.cm_types.specs.Values.{Val, parts}
use Rattle.cm_types.specs.ValueTrees.{values_of}
use Rattle.cm_types.specs.declared.core_value.CoreValue.{CoreValue}
use Rattle.cm_types.specs.declared.core_value.CoreValue.TheVariants as core_value
use Rattle.cm_types.specs.declared.values.Value.TheVariants as value
use Rattle.cm_host_values.specs.declared.host_types.HostTypes.{HostTypes}
use Rattle.cm_machine.specs.cm_machine_guests.Moves.{IsNext}
use Rattle.cm_machine.specs.cm_machine_guests.Sights.{Sight}
use Rattle.cm_machine.specs.cm_machine_model.Moves.{CallsWith, ReturnsWith}
use Rattle.cm_machine.specs.cm_machine_model.declared.event.Event.{Event}
use Rattle.cm_machine.specs.cm_machine_model.declared.event.Event.TheVariants as event
use Rattle.cm_machine.specs.cm_machine_model.declared.moves.Move.{Move}
use Rattle.cm_machine.specs.cm_machine_model.declared.moves.Move.TheVariants as move
use Rattle.cm_host.specs.Passing.{Gets, Returns}
use Rattle.cm_host.specs.declared.playing.Playing.{Playing}
use Rattle.cm_host.specs.declared.served.Destructor.{Destructor}
use Rattle.cm_host.specs.declared.served.Entry.{Entry}
use Rattle.cm_host.specs.declared.served.Served.{Served}
use Rattle.cm_host.specs.declared.answer.Answer.{Answer}
use Rattle.cm_host.specs.declared.answer.Answer.TheVariants as answer

-- what a service may do where its function of a key gets a value: what it answers, and what it is
-- then
abbrev pub Serving : Type 0 → Type 1
Serving S = S → ℕ → Val → Result Answer AllocError → S → Type 0

-- the functions that a guest serves, in the order in which they were said
abbrev pub served_by : {S : Type 0} → Served S → List Entry
served_by g = g.entries.items

-- the first function served that has this core function, by its place
abbrev pub place_of : List Entry → ℕ → Option ℕ
place_of entries core_func = position_from (λ e. e.func.core_func == core_func) 0 entries

-- the first destructor served that has this core function, by its place
abbrev pub destructor_at : List Destructor → ℕ → Option ℕ
destructor_at destructors core_func =
    position_from (λ d. d.core_func == core_func) 0 destructors

-- An answer is followed: its values are returned, by this move and those that are left to play; or
-- what it asks is called, for the function at this place.
abbrev pub Follows : ℕ → HostTypes → Result Answer AllocError → Move → Playing → Type 0
Follows place results (Ok (answer.Values vs)) made p =
    Returns results (parts (values_of vs.items)) (made ∷ p.moves.items)
Follows place results (Ok (answer.Ask func n)) made p =
    CallsWith func (core_value.I32 n ∷ []) made × (p.asking ≡ Some place)
Follows place results r made p = ⊥

-- An answer is followed, and the service is as it was left; or the guest stops.
abbrev pub IsFollowed : {S : Type 0} → ℕ → HostTypes → Result Answer AllocError → Move → Playing
    → S → S → Type 0
IsFollowed place results answer made p left new =
    (Follows place results answer made p × (new ≡ left)) ⊎ (made ≡ move.Unreachable)

-- A function of a service was used, and its answer is followed, or the guest stops.
pub record IsUsed {S : Type 0} (used : Result Answer AllocError → S → Type 0) (place : ℕ)
    (results : HostTypes) (made : Move) (p : Playing) (new : S) : Type 0 where
  pub answer : Result Answer AllocError
  pub left : S
  pub of : used answer left
  pub follows : IsFollowed place results answer made p left new

-- A core function is entered: the function that is served gets the value that the core values
-- denote in the memory. Where they denote none the guest stops, and so where the core function is
-- not served.
pub record Enters {S : Type 0} (serves : Serving S) (service : S) (e : Entry) (place : ℕ)
    (args : List CoreValue) (memory : List ℕ) (made : Move) (p : Playing) (new : S) : Type 0 where
  pub v : Val
  pub got : Gets memory e.func.params args v
  pub asked : IsUsed (serves service e.key v) place e.func.results made p new

abbrev pub EntersAt : {S : Type 0} → Serving S → Served S → Option ℕ → List CoreValue → List ℕ
    → Move → Served S → Type 0
EntersAt serves g None args memory made h =
    (made ≡ move.Unreachable) × (h.service ≡ g.service)
EntersAt serves g (Some place) args memory made h =
    ((e : Entry) × (slice_get g.entries.items place ≡ Some e)
    × Enters serves g.service e place args memory made h.playing h.service)
    ⊎ (made ≡ move.Unreachable)

-- The instance goes on: where a function asked for a handle, its service goes on with what that
-- came to, and its answer is followed; a root that nothing asked for returns.
abbrev pub GoesOn : {S : Type 0} → Served S → Option ℕ → Move → Served S → Type 0
GoesOn g None made h =
    (ReturnsWith [] made ⊎ (made ≡ move.Unreachable)) × (h.service ≡ g.service)
GoesOn g (Some place) made h =
    ((e : Entry) × (slice_get g.entries.items place ≡ Some e)
    × IsUsed (λ r s. ⊤) place e.func.results made h.playing h.service)
    ⊎ (made ≡ move.Unreachable)

-- A destructor gets the representation, if there is one at a place.
abbrev pub DestroysBy : {S : Type 0} → Serving S → Served S → Option ℕ → ℕ → Served S → Type 0
DestroysBy serves g None rep h = h.service ≡ g.service
DestroysBy serves g (Some place) rep h =
    (d : Destructor) → slice_get g.destructors.items place ≡ Some d
    → (r : Result Answer AllocError)
    × serves g.service d.key (parts (values_of (value.Unsigned rep ∷ []))) r h.service

-- What a guest that serves makes of what it sees, and what it is then.
abbrev pub Answers : {S : Type 0} → Serving S → Served S → Event → List ℕ → Move → Served S
    → Type 0
Answers serves g (event.Enter i func args) memory made h =
    EntersAt serves g (place_of g.entries.items func) args memory made h
Answers serves g (event.Resume i values) memory made h =
    GoesOn g g.playing.asking made h
Answers serves g (event.Dtor i func rep) memory made h =
    DestroysBy serves g (destructor_at g.destructors.items func) rep h
    × (ReturnsWith [] made ⊎ (made ≡ move.Unreachable))
Answers serves g event.Done memory made h =
    IsNext g.playing.moves.items made h.playing.moves.items × (h.service ≡ g.service)
Answers serves g e memory made h = h.service ≡ g.service

-- One turn of a guest that serves; what is served stays.
pub record IsServing {S : Type 0} (serves : Serving S) (g : Served S) (x : Sight)
    (h : Served S) : Type 0 where
  pub entries : h.entries ≡ g.entries
  pub destructors : h.destructors ≡ g.destructors
  pub answers : Answers serves g x.seen x.memory x.made h

-- The turns of a guest that serves, each from what the last one left.
abbrev pub Serves : {S : Type 0} → Serving S → Served S → List Sight → Type 0
Serves serves g [] = ⊤
Serves serves g (x ∷ xs) =
    (h : Served _) × IsServing serves g x h × Serves serves h xs
