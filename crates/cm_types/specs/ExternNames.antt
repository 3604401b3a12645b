-- Extern names: the names of imports and exports, and of an instance's items (Binary.md, "Import
-- and Export Definitions"; Explainer.md, "Import and Export Definitions").
use Rattle.std.specs.Prelude.{◌≡◌, ℕ, Bool, false, ◌||◌, ◌==◌, List, [], ◌∷◌, ◌++◌, Option, Some}
use Rattle.std.specs.Prelude.{None, unwrap_or, is_none, IfSome, IsTrue, codes, is_ok, nat_le}
use Rattle.std.specs.Prelude.{if◌then◌else◌}
use Rattle.std.specs.List.{list_any}
use Rattle.std.specs.Option.{option_map, option_map_or}
use Rattle.semver.specs.Parse.{version_parts}
use Rattle.cm_types.specs.declared.names.NameFault.{NameFault}
use Rattle.cm_types.specs.declared.names.NameFault.TheVariants as fault
use Rattle.cm_types.specs.NamesFaults.{fault_number}
use Rattle.cm_types.specs.Names.{IsLabel, label_fault}

-- What an extern name says, with each part as its bytes.
pub data NameTree : Type 0 where
  -- a plain label
  plain : List ℕ → NameTree
  -- a method of a resource, a static function of one, or the constructor of one
  method : List ℕ → List ℕ → NameTree
  static : List ℕ → List ℕ → NameTree
  constructor : List ℕ → NameTree
  -- an interface: namespace, package, interface and, if there is one, the version
  interface : List ℕ → List ℕ → List ℕ → Option (List ℕ) → NameTree

-- ---- the grammar

-- `@` (64) and the version, where there is one
abbrev pub version_suffix : Option (List ℕ) → List ℕ
version_suffix None = []
version_suffix (Some v) = 64 ∷ v

-- how an extern name is spelled: 46 is `.`, 58 is `:`, 47 is `/`
abbrev pub name_spelling : NameTree → List ℕ
name_spelling (plain l) = l
name_spelling (method r m) = codes "[method]" ++ r ++ 46 ∷ m
name_spelling (static r m) = codes "[static]" ++ r ++ 46 ∷ m
name_spelling (constructor r) = codes "[constructor]" ++ r
name_spelling (interface ns pkg name version) =
    ns ++ 58 ∷ (pkg ++ 47 ∷ (name ++ version_suffix version))

-- a version is a text that the crate semver reads as one
unfoldable pub is_version : List ℕ → Bool
is_version v = is_ok (version_parts v)

-- the parts of a name are labels, and its version is one
abbrev pub HasLabels : NameTree → Type 0
HasLabels (plain l) = IsLabel l
HasLabels (method r m) = IsLabel r × IsLabel m
HasLabels (static r m) = IsLabel r × IsLabel m
HasLabels (constructor r) = IsLabel r
HasLabels (interface ns pkg name version) =
    IsLabel ns × IsLabel pkg × IsLabel name × IfSome version (λ v. IsTrue (is_version v))

-- an extern name is the spelling of a name whose parts are labels
abbrev pub IsExternName : List ℕ → Type 0
IsExternName text = (t : NameTree) × HasLabels t × (name_spelling t ≡ text)

-- ---- the same as a test: the form that a text shows is read off first, and then its parts are
-- looked at

-- what follows this front of a text, if it has it
abbrev pub without_front : List ℕ → List ℕ → Option (List ℕ)
without_front [] text = Some text
without_front (c ∷ front) [] = None
without_front (c ∷ front) (b ∷ text) = if b == c then without_front front text else None

-- a text cut at the first byte c, if it has one
abbrev pub cut : ℕ → List ℕ → Option (List ℕ × List ℕ)
cut c [] = None
cut c (b ∷ bs) = if b == c then Some ([], bs) else option_map (λ p. (b ∷ p.0, p.1)) (cut c bs)

-- a text cut at the first byte c; without one, the second part is empty
abbrev pub cut_or_all : ℕ → List ℕ → List ℕ × List ℕ
cut_or_all c text = option_map_or (λ p. p) (cut c text) (text, [])

-- the bytes by which a text shows that it names an interface: `:`, `/` and `@`
abbrev pub is_interface_mark : ℕ → Bool
is_interface_mark b = (b == 58) || (b == 47) || (b == 64)

-- resource and member, if there is a dot
abbrev pub member : (List ℕ → List ℕ → NameTree) → List ℕ → Option NameTree
member make text = option_map (λ p. make p.0 p.1) (cut 46 text)

-- namespace, package and interface, with this version
abbrev pub interface_parts : Option (List ℕ) → List ℕ → NameTree
interface_parts version text =
    let first = cut_or_all 58 text in
    let second = cut_or_all 47 first.1 in
    interface first.0 second.0 second.1 version

-- the version is what follows the first `@`
abbrev pub interface_of : List ℕ → NameTree
interface_of text =
    option_map_or (λ p. interface_parts (Some p.1) p.0) (cut 64 text) (interface_parts None text)

-- whether a text begins with `[`
abbrev pub is_bracketed : List ℕ → Bool
is_bracketed [] = false
is_bracketed (b ∷ bs) = b == 91

-- the form of a text without annotation
abbrev pub unannotated_form : List ℕ → Option NameTree
unannotated_form text =
    if is_bracketed text then None
    else if list_any is_interface_mark text then Some (interface_of text)
    else Some (plain text)

-- the form of a text, if it is no `[` without one of the three annotated forms
abbrev pub form_of : List ℕ → Option NameTree
form_of text =
    option_map_or (member method) (without_front (codes "[method]") text) (
    option_map_or (member static) (without_front (codes "[static]") text) (
    option_map_or (λ r. Some (constructor r)) (without_front (codes "[constructor]") text) (
    unannotated_form text)))

-- of two faults the one with the smaller number, if there is any
abbrev pub least_fault : Option NameFault → Option NameFault → Option NameFault
least_fault None f = f
least_fault (Some e) None = Some e
least_fault (Some e) (Some f) = if nat_le (fault_number e) (fault_number f) then Some e else Some f

-- why a text is no version, if it is none
abbrev pub version_fault : List ℕ → Option NameFault
version_fault [] = Some fault.Empty
version_fault (b ∷ bs) = if is_version (b ∷ bs) then None else Some fault.BadVersion

-- what is wrong with the labels of a name
abbrev pub labels_fault : NameTree → Option NameFault
labels_fault (plain l) = label_fault l
labels_fault (method r m) = least_fault (label_fault r) (label_fault m)
labels_fault (static r m) = least_fault (label_fault r) (label_fault m)
labels_fault (constructor r) = label_fault r
labels_fault (interface ns pkg name version) =
    least_fault (label_fault ns) (least_fault (label_fault pkg) (label_fault name))

-- the version of a name
abbrev pub version_of : NameTree → Option (List ℕ)
version_of (plain l) = None
version_of (method r m) = None
version_of (static r m) = None
version_of (constructor r) = None
version_of (interface ns pkg name version) = version

-- what is wrong with the parts of a name
abbrev pub parts_fault : NameTree → Option NameFault
parts_fault t =
    option_map_or (λ v.
    least_fault (labels_fault t) (version_fault v)) (version_of t) (labels_fault t)

-- why a text is no extern name, if it is none: of several reasons the one with the smallest number
abbrev pub extern_name_fault : List ℕ → Option NameFault
extern_name_fault text = option_map_or parts_fault (form_of text) (Some fault.BadAnnotation)

-- whether a text is an extern name
abbrev pub is_extern_name : List ℕ → Bool
is_extern_name text = is_none (extern_name_fault text)

-- the version of a name, empty where it has none
abbrev pub version_text : NameTree → List ℕ
version_text t = unwrap_or (version_of t) []

-- the version that a text shows, empty where it shows none
abbrev pub version_in : List ℕ → List ℕ
version_in text = option_map_or version_text (form_of text) []
