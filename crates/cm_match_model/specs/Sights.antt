-- Which exports the imports of a set see, where components are grouped and links are chosen (how
-- components are linked is this project's own choice).
use Rattle.std.specs.Prelude.{ℕ, zero, suc, Bool, true, ◌&&◌, ◌==◌, List, [], ◌∷◌, Option, Some}
use Rattle.std.specs.Prelude.{None, filter, if◌then◌else◌, nat_lt, option_and_then}
use Rattle.std.specs.Prelude.{option_to_list, slice_get}
use Rattle.std.specs.Option.{option_map, option_map_or}
use Rattle.std.specs.declared.alloc.Global.{Global}
use Rattle.std.specs.declared.vec.Vec.{Vec}
use Rattle.cm_validate_model.specs.Spaces.{Spaces}
use Rattle.cm_match_model.specs.declared.component.Link.{Link}
use Rattle.cm_match_model.specs.declared.sight.Choices.{Choices}
use Rattle.cm_match_model.specs.declared.sight.Place.{Place}
use Rattle.cm_match_model.specs.Fitting.{NamedExport, named_export}
use Rattle.cm_match_model.specs.Imports.{Sees, exports_before}

-- ---- links that are chosen

-- the link that is chosen for an import, where one is
abbrev pub Chosen : Type 0
Chosen = ℕ → ℕ → Option Link

abbrev pub nothing_chosen : Chosen
nothing_chosen component number = None

-- an import sees the export that is chosen for it, where one is, and no other
abbrev pub sees_chosen : Option Link → Bool → NamedExport → Bool
sees_chosen None otherwise e = otherwise
sees_chosen (Some l) otherwise e = (l.component == e.component) && (l.export == e.number)

-- the export of a link, where it is of a component before this one
abbrev pub chosen_export : List Spaces → ℕ → Link → List NamedExport
chosen_export set component l =
    if nat_lt l.component component
    then option_to_list (option_map (λ e. named_export l.component l.export e.name)
    (option_and_then (λ s. slice_get s.exports l.export) (slice_get set l.component))) else []

-- ---- groups

-- whether a component begins a group, and whether it is seen from behind its group; each component
-- behind the places that are given is a group of its own, and seen
abbrev pub begins_at : List Place → ℕ → Bool
begins_at places component = option_map_or (λ p. p.begins) (slice_get places component) true

abbrev pub is_seen_at : List Place → ℕ → Bool
is_seen_at places component = option_map_or (λ p. p.is_seen) (slice_get places component) true

-- the first component of the group of one
abbrev pub group_of : List Place → ℕ → ℕ
group_of places zero = 0
group_of places (suc component) =
    if begins_at places (suc component) then suc component else group_of places component

-- A component sees those before its group that are seen. Where there are no groups, it sees all.
abbrev pub sees_component : List Place → ℕ → ℕ → Bool
sees_component [] component provider = true
sees_component (p ∷ ps) component provider =
    is_seen_at (p ∷ ps) provider && nat_lt provider (group_of (p ∷ ps) component)

abbrev pub sees_by : List Place → Chosen → Sees
sees_by places chosen component number e =
    sees_chosen (chosen component number) (sees_component places component e.component) e

-- the exports before a component that are seen from behind
abbrev pub seen_before : List Spaces → List Place → ℕ → List NamedExport
seen_before set places component =
    filter (λ e. is_seen_at places e.component) (exports_before set component)

-- ---- what is chosen of a set

-- the link of an import among these, by component and number
abbrev pub link_in : List (Vec (Option Link) Global) → Chosen
link_in [] component number = None
link_in (row ∷ rows) component number =
    option_and_then (λ r. option_and_then (λ l. l) (slice_get r.items number))
    (slice_get (row ∷ rows) component)

abbrev pub sees_in : Choices → Sees
sees_in c = sees_by c.places.items (link_in c.links.items)
