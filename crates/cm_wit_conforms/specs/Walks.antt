-- What is kept of all that is compared: what is judged, and the pairs of resources.
use Rattle.std.specs.Prelude.{◌≡◌, ℕ, Bool, true, false, List, [], ◌∷◌, Some, length, map}
use Rattle.std.specs.Prelude.{if◌then◌else◌}
use Rattle.std.specs.BTreeMap.{get}
use Rattle.std.specs.List.{list_all}
use Rattle.std.specs.Ordering.{nat_cmp}
use Rattle.cm_types_arena.specs.declared.types.Types.{Types}
use Rattle.cm_types_arena.specs.Listed.{brought_items, desc_in, names_at, names_of_desc}
use Rattle.cm_types_arena.specs.Listed.{number_at}
use Rattle.cm_types_arena.specs.declared.named_externs.Externs.{Externs}
use Rattle.cm_wit_conforms.specs.Known.{AreKnown}
use Rattle.cm_wit_conforms.specs.Places.{item_names}
use Rattle.cm_wit_conforms.specs.declared.known.KnownItems.{KnownItems}
use Rattle.cm_wit_conforms.specs.Comparisons.{Comparison, nothing, Entry, extern_entries}
use Rattle.cm_wit_conforms.specs.Comparisons.{item_entries}
use Rattle.cm_wit_conforms.specs.Pairs.{HaveBoth}
use Rattle.cm_wit_conforms.specs.Views.{entry_of, other, own}
use Rattle.cm_wit_conforms.specs.declared.facing.Facing.{Facing}
use Rattle.cm_wit_conforms.specs.declared.fault.ConformList.{ConformList}
use Rattle.cm_wit_conforms.specs.declared.fault.ConformList.TheVariants as walked
use Rattle.cm_wit_conforms.specs.declared.judged.Judged.{Judged}
use Rattle.cm_wit_conforms.specs.declared.kept.Kept.{Kept}
use Rattle.cm_wit_conforms.specs.declared.lists.TwoDescs.{TwoDescs}
use Rattle.cm_wit_conforms.specs.declared.walk.Walk.{Walk}

-- ---- what is judged

abbrev pub is_found : Comparison → Bool
is_found nothing = false
is_found _ = true

abbrev pub are_found : List Entry → Bool
are_found es = list_all (λ e. is_found e.what) es

-- The entries up to the first that finds nothing: it does not fit, so no later one is the first
-- fault.
abbrev pub judged : List Entry → List Entry
judged [] = []
judged (e ∷ es) = e ∷ (if is_found e.what then judged es else [])

pub record IsJudged (have world : Types) (es : List Entry) (j : Judged) : Type 0 where
  pub entries : map (entry_of have world) j.entries.items ≡ judged es
  pub found : j.found ≡ are_found es

-- ---- all that is kept

-- of these entries
pub record IsWalked (have world : Types) (es : List Entry) (walk : Walk) : Type 0 where
  pub judged : IsJudged have world es walk.judged
  pub pairs : HaveBoth es walk.pairs
  pub count : walk.count ≡ length es

-- what is compared of two instances
abbrev pub facing_entries : Types → Types → Facing → List Entry
facing_entries have world f =
    item_entries f.list f.place (brought_items (other f.list have world) f.others) 0
    (brought_items (own f.list have world) f.items)

-- what is known of items, by the numbers of imports or exports
abbrev pub AreKept : Externs → Kept → Type 0
AreKept externs kept =
    (t : Types) (n place : ℕ) (known : KnownItems) → get nat_cmp kept.known n ≡ Some known
    → number_at externs place ≡ Some n → AreKnown (names_at t externs place) known

-- of what is gone through, and what it is held against, that which is the signature's
abbrev pub of_signature : {A : Type 0} → ConformList → A → A → A
of_signature walked.WorldExports own other = other
of_signature walked.HaveImports own other = own

-- What is known is known of the items that are the signature's.
abbrev pub IsKnownBy : Facing → KnownItems → Type 0
IsKnownBy f known =
    (t : Types) → AreKnown (item_names t (of_signature f.list f.items f.others)) known

-- what is compared of two imports or exports
abbrev pub two_entries : Types → Types → TwoDescs → List Entry
two_entries have world two = extern_entries two.list two.place
    (Some (desc_in (other two.list have world) two.found))
    (desc_in (own two.list have world) two.desc)

-- The one of the two that is the signature's stands at a place of these.
abbrev pub StandsAt : Externs → ℕ → TwoDescs → Type 0
StandsAt externs place two = (t : Types) → names_at t externs place
    ≡ names_of_desc (desc_in t (of_signature two.list two.desc two.found))
