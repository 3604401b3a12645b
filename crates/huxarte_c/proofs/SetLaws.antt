-- Moves of a set, and sets of the components of files.
use Rattle.std.proofs.Common.{◌≡◌, ◌∙◌, ◌<◌, List, [], ◌∷◌, ℕ, ap, arith, length, map, refl, subst, sym, Result, Ok, Err, IfErr, IfOk, Option, Some, None}
use Rattle.std.proofs.lemmas.Bool.{true≢false}
use Rattle.std.specs.Prelude.{false, nat_lt, true}
use Rattle.std.specs.declared.alloc.Global.{Global}
use Rattle.std.specs.declared.vec.Vec.{Vec}
use Rattle.std.specs.List.{AllByRecursion}
use Rattle.cm_match_model.specs.Links.{CanBeLinked}
use Rattle.cm_machine_model.specs.declared.event.Event.{Event}
use Rattle.cm_machine_model.specs.declared.moves.Move.{Move}
use Rattle.cm_live.specs.Kept.{gives_values}
use Rattle.cm_live.specs.Statements.{IsNoStep}
use Rattle.cm_machine_model.specs.declared.event.Misuse.{Misuse}
use Rattle.cm_machine_model.specs.declared.moves.Move.TheVariants as move
use Rattle.cm_machine_set.specs.Running.{SetSteps}
use Rattle.cm_types.specs.declared.core_value.CoreValue.{CoreValue}
use Rattle.cm_shims.specs.Files.{AreRead, IsSound, Reading}
use Rattle.cm_validate_model.specs.Spaces.{Spaces}
use Rattle.cm_match_model.specs.Imports.{LinkSet}
use Rattle.huxarte_c_calls.specs.declared.spans.HuxSpan.{HuxSpan}
use Rattle.huxarte_c_calls.specs.Spans.{AreWithin, parts_of}
use Rattle.huxarte_c_components.proofs.LinkLaws.{part_refused, stop_is}
use Rattle.huxarte_c_components.specs.Choosing.{IsSetBy}
use Rattle.huxarte_c_components.specs.Linking.{CanLink, CanLinkBy, spaces_read}
use Rattle.huxarte_c_components.specs.declared.choosing.HuxChoice.{HuxChoice}
use Rattle.huxarte_c_components.specs.declared.choosing.HuxPlace.{HuxPlace}
use Rattle.huxarte_c.specs.Cores.{AreKinds, IsCoresFault, value_of}
use Rattle.huxarte_c.specs.Kept.{IsDone, IsNoCoreMove, IsNoListMove, IsNoMove, IsNoMoveBy, KeptSteps, Moves}
use Rattle.huxarte_c.specs.PlayedSets.{IsNewPlayed, IsWritten, PlayedSet}
use Rattle.huxarte_c.specs.Making.{IsSetLinked, IsSetOf, IsUnmade, IsUnmadeBy, IsUnmadeLinked, IsUnmadeOf, IsUnmadeParts}
use Rattle.huxarte_c.specs.declared.cores.HuxCore.{HuxCore}
use Rattle.huxarte_c.specs.declared.event.HuxEvent.{HuxEvent}
use Rattle.huxarte_c.specs.declared.refusal.SetRefusal.{SetRefusal}
use Rattle.huxarte_c.specs.declared.refusal.SetRefusal.TheVariants as refusal

-- ---- moves

-- the set that was kept, as it is lent, and what it comes to by a move
pub stepped : (old new : Option PlayedSet) (s lent n : PlayedSet) (m : Move) (e : Event)
    → Some s ≡ old → lent ≡ s → new ≡ Some n → (lent.set.state.stack ≡ [] → ⊥)
    → SetSteps lent.set m e n.set → IsWritten lent m e n → KeptSteps old m e new
stepped old new s lent n m e was same is acts steps written =
    subst (λ (o : Option PlayedSet). KeptSteps o m e new) was (subst (λ (o : Option PlayedSet). KeptSteps (Some s) m e o) (sym is) (subst (λ (x : PlayedSet). KeptSteps (Some x) m e (Some n)) same (acts, steps, written)))

-- and why none is made of it
pub not_stepped : (old : Option PlayedSet) (s lent : PlayedSet) (m : Move) (k : Misuse) (r : SetRefusal)
    → Some s ≡ old → lent ≡ s → IsNoStep lent.set m k → ((t : PlayedSet) (o : Move) → IsNoStep t.set o k → IsNoMoveBy o (Some t) r) → IsNoMoveBy m old r
not_stepped old s lent m k r was same why is =
    subst (λ (o : Option PlayedSet). IsNoMoveBy m o r) was (is s m (subst (λ (x : PlayedSet). IsNoStep x.set m k) same why))

-- a move of a form, where there may be more reasons to make none
pub moved_by : (IsMove : Move → Type 0) (Why Whys : SetRefusal → Type 0) (m : Move) (old new : Option PlayedSet) (before after : HuxEvent) (r : Result (Unit {0}) SetRefusal)
    → IsMove m → ((e : SetRefusal) → Why e → Whys e) → IsDone (Moves (λ x. x ≡ m) old) Why old new before after r → IsDone (Moves IsMove old) Whys old new before after r
moved_by IsMove Why Whys m old new before after (Ok v) is more done =
    (done.0, (done.1.0, subst IsMove (sym done.1.1) is, done.1.2), done.2)
moved_by IsMove Why Whys m old new before after (Err e) is more done = (done.0, done.1, more e done.2)

pub plain_why : (m : Move) (old : Option PlayedSet) → gives_values m ≡ false → (e : SetRefusal) → IsNoMoveBy m old e → IsNoMove old e
plain_why m None none e why = why
plain_why m (Some s) none refusal.Memory why = absurd (true≢false (sym why ∙ none))
plain_why m (Some s) none (refusal.Misuse k) why = why
plain_why m (Some s) none refusal.Empty why = why
plain_why m (Some s) none refusal.Full why = why
plain_why m (Some s) none (refusal.Link r) why = why
plain_why m (Some s) none (refusal.NoKind k) why = why
plain_why m (Some s) none refusal.NoInstance why = why
plain_why m (Some s) none refusal.Outside why = why
plain_why m (Some s) none (refusal.NoHandle f) why = why

pub list_why : (m : Move) (old : Option PlayedSet) (e : SetRefusal) → IsNoMoveBy m old e → IsNoListMove old e
list_why m None e why = subst (λ (r : SetRefusal). IsNoListMove None r) (sym why) refl
list_why m (Some s) (refusal.Misuse k) why = why
list_why m (Some s) refusal.Memory why = tt
list_why m (Some s) refusal.Empty why = absurd why
list_why m (Some s) refusal.Full why = absurd why
list_why m (Some s) (refusal.Link r) why = absurd why
list_why m (Some s) (refusal.NoKind k) why = absurd why
list_why m (Some s) refusal.NoInstance why = absurd why
list_why m (Some s) refusal.Outside why = absurd why
list_why m (Some s) (refusal.NoHandle f) why = absurd why

pub core_why : (cores : List HuxCore) (old : Option PlayedSet) → AreKinds cores → (e : SetRefusal) → IsNoMove old e → IsNoCoreMove cores old e
core_why cores None kinds e why = subst (λ (r : SetRefusal). IsNoCoreMove cores None r) (sym why) (kinds, refl)
core_why cores (Some s) kinds (refusal.Misuse m) why = (kinds, why)
core_why cores (Some s) kinds refusal.Memory why = absurd why
core_why cores (Some s) kinds refusal.Empty why = absurd why
core_why cores (Some s) kinds refusal.Full why = absurd why
core_why cores (Some s) kinds (refusal.Link r) why = absurd why
core_why cores (Some s) kinds (refusal.NoKind k) why = absurd why
core_why cores (Some s) kinds refusal.NoInstance why = absurd why
core_why cores (Some s) kinds refusal.Outside why = absurd why
core_why cores (Some s) kinds (refusal.NoHandle f) why = absurd why

-- a return that gives core values has some in C
some_cores : (cores : List HuxCore) (values : List CoreValue) → values ≡ map value_of cores → nat_lt 0 (length values) ≡ true → 0 < length cores
some_cores [] values is some = absurd (true≢false (sym some ∙ ap (λ (vs : List CoreValue). nat_lt 0 (length vs)) is))
some_cores (c ∷ cs) values is some = omega arith

pub return_why : (cores : List HuxCore) (old : Option PlayedSet) (values : Vec CoreValue Global) → values.items ≡ map value_of cores → AreKinds cores
    → (e : SetRefusal) → IsNoMoveBy (move.Return values) old e → IsNoCoreMove cores old e
return_why cores None values is kinds e why = core_why cores None kinds e why
return_why cores (Some s) values is kinds refusal.Memory why = some_cores cores values.items is why
return_why cores (Some s) values is kinds (refusal.Misuse m) why = (kinds, why)
return_why cores (Some s) values is kinds refusal.Empty why = absurd why
return_why cores (Some s) values is kinds refusal.Full why = absurd why
return_why cores (Some s) values is kinds (refusal.Link r) why = absurd why
return_why cores (Some s) values is kinds (refusal.NoKind k) why = absurd why
return_why cores (Some s) values is kinds refusal.NoInstance why = absurd why
return_why cores (Some s) values is kinds refusal.Outside why = absurd why
return_why cores (Some s) values is kinds (refusal.NoHandle f) why = absurd why

pub cores_why : (cores : List HuxCore) (old : Option PlayedSet) (e : SetRefusal) → IsCoresFault cores e → IsNoCoreMove cores old e
cores_why cores old (refusal.NoKind k) why = why
cores_why cores old refusal.Memory why = why
cores_why cores old (refusal.Misuse m) why = absurd why
cores_why cores old refusal.Empty why = absurd why
cores_why cores old refusal.Full why = absurd why
cores_why cores old (refusal.Link r) why = absurd why
cores_why cores old refusal.NoInstance why = absurd why
cores_why cores old refusal.Outside why = absurd why
cores_why cores old (refusal.NoHandle f) why = absurd why

-- ---- sets of files

can_link : (places : List HuxPlace) (choices : List HuxChoice) (files : List (List ℕ)) (rs : List Reading) (components : List Spaces) (set : LinkSet)
    → AreRead files rs → AllByRecursion IsSound rs → components ≡ spaces_read rs → IsSetBy components places choices set → CanBeLinked set → CanLink places choices files rs set
can_link places choices files rs components set read sound is by can = record {
  are = record { read = read; sound = sound };
  set_is = subst (λ cs. IsSetBy cs places choices set) is by;
  linked = can;
}

pub made_is : {A : Type 0} (value : A → PlayedSet) (places : List HuxPlace) (choices : List HuxChoice) (files : List (List ℕ)) (rs : List Reading) (components : List Spaces) (pages : List ℕ) (r : Result A SetRefusal)
    → AreRead files rs → AllByRecursion IsSound rs → components ≡ spaces_read rs → IfOk r (λ b. IsSetLinked places choices components pages (value b)) → IfOk r (λ b. IsSetOf places choices files pages (value b))
made_is value places choices files rs components pages (Ok b) read sound is made =
    (rs, made.0, can_link places choices files rs components made.0 read sound is made.1 made.2, made.3)
made_is value places choices files rs components pages (Err e) read sound is made = tt

pub unmade_is : {A : Type 0} (places : List HuxPlace) (choices : List HuxChoice) (files : List (List ℕ)) (rs : List Reading) (components : List Spaces) (pages : List ℕ) (r : Result A SetRefusal)
    → AreRead files rs → AllByRecursion IsSound rs → components ≡ spaces_read rs → IfErr r (IsUnmade places choices components pages) → IfErr r (IsUnmadeOf places choices files pages)
unmade_is places choices files rs components pages (Ok v) read sound is why = tt
unmade_is places choices files rs components pages (Err (refusal.Link e)) read sound is why = stop_is places choices files rs components e read sound is why
unmade_is places choices files rs components pages (Err (refusal.Misuse m)) read sound is why =
    (rs, why.0, can_link places choices files rs components why.0 read sound is why.1 why.2, why.3)
unmade_is places choices files rs components pages (Err refusal.Memory) read sound is why = tt
unmade_is places choices files rs components pages (Err refusal.Empty) read sound is why = absurd why
unmade_is places choices files rs components pages (Err refusal.Full) read sound is why = absurd why
unmade_is places choices files rs components pages (Err (refusal.NoKind k)) read sound is why = absurd why
unmade_is places choices files rs components pages (Err refusal.NoInstance) read sound is why = absurd why
unmade_is places choices files rs components pages (Err refusal.Outside) read sound is why = absurd why
unmade_is places choices files rs components pages (Err (refusal.NoHandle f)) read sound is why = absurd why

-- files that are parts of bytes
pub made_parts : {A : Type 0} (value : A → PlayedSet) (places : List HuxPlace) (choices : List HuxChoice) (bytes : List ℕ) (spans : List HuxSpan) (files : List (List ℕ)) (pages : List ℕ) (r : Result A SetRefusal)
    → files ≡ parts_of bytes spans → AreWithin bytes spans → IfOk r (λ b. IsSetOf places choices files pages (value b)) → IfOk r (λ b. AreWithin bytes spans × IsSetOf places choices (parts_of bytes spans) pages (value b))
made_parts value places choices bytes spans files pages (Ok b) same within made = (within, subst (λ (f : List (List ℕ)). IsSetOf places choices f pages (value b)) same made)
made_parts value places choices bytes spans files pages (Err e) same within made = tt

pub unmade_parts : {A : Type 0} (places : List HuxPlace) (choices : List HuxChoice) (bytes : List ℕ) (spans : List HuxSpan) (files : List (List ℕ)) (pages : List ℕ) (r : Result A SetRefusal)
    → files ≡ parts_of bytes spans → AreWithin bytes spans → IfErr r (IsUnmadeOf places choices files pages) → IfErr r (IsUnmadeParts places choices bytes spans pages)
unmade_parts places choices bytes spans files pages (Ok v) same within why = tt
unmade_parts places choices bytes spans files pages (Err (refusal.Link e)) same within why = part_refused places choices bytes spans files e same within why
unmade_parts places choices bytes spans files pages (Err (refusal.Misuse m)) same within why =
    (within, subst (λ (f : List (List ℕ)). IsUnmadeLinked places choices f pages (refusal.Misuse m)) same why)
unmade_parts places choices bytes spans files pages (Err refusal.Memory) same within why = tt
unmade_parts places choices bytes spans files pages (Err refusal.Empty) same within why = absurd why
unmade_parts places choices bytes spans files pages (Err refusal.Full) same within why = absurd why
unmade_parts places choices bytes spans files pages (Err (refusal.NoKind k)) same within why = absurd why
unmade_parts places choices bytes spans files pages (Err refusal.NoInstance) same within why = absurd why
unmade_parts places choices bytes spans files pages (Err refusal.Outside) same within why = absurd why
unmade_parts places choices bytes spans files pages (Err (refusal.NoHandle f)) same within why = absurd why
