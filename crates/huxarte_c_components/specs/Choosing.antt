-- Links that are chosen for imports, in numbers (how components are linked is this project's own
-- choice).
use Rattle.std.specs.Prelude.{◌≡◌, ◌<◌, ◌==◌, ◌&&◌, ⊤, ℕ, Bool, false, not, true, List, [], ◌∷◌}
use Rattle.std.specs.Prelude.{Option, None, Some, is_none, is_some, length, map, option_and_then}
use Rattle.std.specs.Prelude.{slice_get, take}
use Rattle.std.specs.List.{find}
use Rattle.std.specs.Option.{option_map}
use Rattle.std.specs.declared.alloc.Global.{Global}
use Rattle.std.specs.declared.vec.Vec.{Vec}
use Rattle.cm_types.specs.Signatures.{NamedExtern}
use Rattle.cm_validate_model.specs.Spaces.{Spaces}
use Rattle.cm_match_model.specs.Fitting.{NamedExport}
use Rattle.cm_match_model.specs.Imports.{LinkSet, Sees, import_in, sees_all}
use Rattle.cm_match_model.specs.Sights.{Chosen, sees_by}
use Rattle.cm_match_model.specs.declared.component.Link.{Link}
use Rattle.cm_match_model.specs.declared.sight.Place.{Place}
use Rattle.huxarte_c_components.specs.declared.choosing.HuxChoice.{HuxChoice}
use Rattle.huxarte_c_components.specs.declared.choosing.HuxPlace.{HuxPlace}
use Rattle.huxarte_c_components.specs.declared.linking.LinkRefusal.{LinkRefusal}
use Rattle.huxarte_c_components.specs.declared.linking.LinkRefusal.TheVariants as refusal

-- the place that numbers say
abbrev pub place_of : HuxPlace → Place
place_of p = record { begins = not (p.begins == 0); is_seen = not (p.is_seen == 0) }

-- the link of a choice, and whether it is for an import, by component and number
abbrev pub chosen_link : HuxChoice → Link
chosen_link x = record { component = x.provider; export = x.export_at }

abbrev pub is_for : ℕ → ℕ → HuxChoice → Bool
is_for component number x = (x.importer == component) && (x.import_at == number)

-- the link that is chosen for an import
abbrev pub chosen_by : List HuxChoice → Chosen
chosen_by choices component number =
    option_map chosen_link (find (is_for component number) choices)

-- a choice is for an import that is there, and that has no choice before
abbrev pub has_place : List Spaces → List HuxChoice → HuxChoice → Bool
has_place set before x = is_some (import_in set x.importer x.import_at)
    && is_none (find (is_for x.importer x.import_at) before)

abbrev pub ArePlacedBelow : List Spaces → List HuxChoice → ℕ → Type 0
ArePlacedBelow set choices n = (m : ℕ) (x : HuxChoice) → m < n → slice_get choices m ≡ Some x
    → has_place set (take m choices) x ≡ true

abbrev pub ArePlaced : List Spaces → List HuxChoice → Type 0
ArePlaced set choices = ArePlacedBelow set choices (length choices)

-- this is the first choice that is not
pub record IsMisplaced (set : List Spaces) (choices : List HuxChoice) (n : ℕ) : Type 0 where
  pub choice : HuxChoice
  pub there : slice_get choices n ≡ Some choice
  pub before : ArePlacedBelow set choices n
  pub misplaced : has_place set (take n choices) choice ≡ false

abbrev pub IsChoiceRefusal : List Spaces → List HuxChoice → LinkRefusal → Type 0
IsChoiceRefusal set choices (refusal.Choice n) = IsMisplaced set choices n
IsChoiceRefusal set choices refusal.Memory = ⊤
IsChoiceRefusal set choices _ = ⊥

-- What imports see by places and choices: where there are none, all; else each import that is there
-- sees the export that is chosen for it, or what is seen before its group.
abbrev pub SeesBy : List Spaces → List HuxPlace → List HuxChoice → Sees → Type 0
SeesBy set places choices sees = (component number : ℕ) (item : NamedExtern)
    → import_in set component number ≡ Some item → (e : NamedExport)
    → sees component number e
    ≡ sees_by (map place_of places) (chosen_by choices) component number e

abbrev pub IsSight : List Spaces → List HuxPlace → List HuxChoice → Sees → Type 0
IsSight set [] [] sees = sees ≡ sees_all
IsSight set [] (x ∷ xs) sees = SeesBy set [] (x ∷ xs) sees
IsSight set (p ∷ ps) choices sees = SeesBy set (p ∷ ps) choices sees

-- components, and what their imports see by places and choices, of which each has its place
pub record IsSetBy (components : List Spaces) (places : List HuxPlace)
    (choices : List HuxChoice) (set : LinkSet) : Type 0 where
  pub spaces : set.spaces ≡ components
  pub placed : ArePlaced components choices
  pub sight : IsSight components places choices set.sees

-- the slot of an import among rows of links, where it has one, and rows in which each import that
-- is there has what is chosen for it
abbrev pub slot_in : List (Vec (Option Link) Global) → ℕ → ℕ → Option (Option Link)
slot_in rows component number =
    option_and_then (λ r. slice_get r.items number) (slice_get rows component)

abbrev pub HaveChosen : List Spaces → List HuxChoice → List (Vec (Option Link) Global) → Type 0
HaveChosen set choices rows = (component number : ℕ) → slot_in rows component number
    ≡ option_map (λ _. chosen_by choices component number) (import_in set component number)
