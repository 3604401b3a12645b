-- What each name of a file declares and refers to, in reading order (WIT.md, "Packages and Worlds";
-- Binary.md, "Import and Export Definitions", for the full names).
use Rattle.std.specs.Prelude.{ℕ, ◌+◌, Bool, true, false, ◌&&◌, List, [], Option, Some}
use Rattle.std.specs.Prelude.{None}
use Rattle.cm_types.specs.ExternNames as name
use Rattle.cm_types.specs.ExternNames.{NameTree}
use Rattle.cm_types.specs.Names.{is_same_name}
use Rattle.cm_wit_reading.specs.Types.{Ty, Tys, primitive, named, borrow, list, fixed_list, option}
use Rattle.cm_wit_reading.specs.Types.{tuple, plain_result, ok_result, error_result, result}
use Rattle.cm_wit_reading.specs.Types.{no_types, types}
use Rattle.cm_wit_reading.specs.Signatures.{Typed, Func, Path, local, foreign}
use Rattle.cm_wit_reading.specs.Trees.{Case, ResourceFunc, method, static}
use Rattle.cm_wit_reading.specs.Trees.{constructor}
use Rattle.cm_wit_reading.specs.Trees.{TypeDef, alias, record_of, variant, enum, flags, resource}
use Rattle.cm_wit_reading.specs.Trees.{InterfaceItem, uses, defines, has_func, Interface}
use Rattle.cm_wit_reading.specs.Trees.{WorldExtern, interface_at, named_func, WorldItem, imports}
use Rattle.cm_wit_reading.specs.Trees.{exports, World, FileItem, interface, world, File}
use Rattle.cm_wit_names.specs.declared.mention.Place.{Place}
use Rattle.cm_wit_names.specs.Mentions.{Mention, Reference, no_reference, to_interface, to_used}
use Rattle.cm_wit_names.specs.Mentions.{to_type, to_resource, bare, declaring, list_of}
use Rattle.cm_wit_names.specs.Mentions.{exports_of, listed_as}
use Rattle.cm_wit_names.specs.Marks.{Marks, none, one, ◌then◌, here, each, optional}

-- ---- types, by where they are written

abbrev pub in_text_of : ℕ → ℕ → Place
in_text_of scope owner = record { scope = scope; owner = Some owner; in_result = false }

abbrev pub as_param : ℕ → Place
as_param scope = record { scope = scope; owner = None; in_result = false }

abbrev pub as_result : ℕ → Place
as_result scope = record { scope = scope; owner = None; in_result = true }

abbrev pub reference : Place → Reference → Mention
reference p r =
    record bare { refers = r; owner = p.owner; in_result = p.in_result }

abbrev mutual
  pub type_marks : Place → Ty → Marks
  type_marks p (primitive k) = none
  type_marks p (named t) = one (reference p (to_type p.scope t))
  type_marks p (borrow r) = one (reference p (to_resource p.scope r))
  type_marks p (list t) = type_marks p t
  type_marks p (fixed_list t n) = type_marks p t
  type_marks p (option t) = type_marks p t
  type_marks p (tuple ts) = types_marks p ts
  type_marks p plain_result = none
  type_marks p (ok_result t) = type_marks p t
  type_marks p (error_result t) = type_marks p t
  type_marks p (result t u) = type_marks p t then type_marks p u

  pub types_marks : Place → Tys → Marks
  types_marks p no_types = none
  types_marks p (types t ts) = type_marks p t then types_marks p ts

-- ---- labels, parameters, functions

-- a label in a list of distinct names, behind an implied `self` or not
abbrev pub label : Bool → ℕ → List ℕ → Mention
label after_self names text = record bare {
  declares = Some (record (listed_as names (name.plain text)) { after_self = after_self });
}

abbrev pub typed_marks : Bool → Place → List Typed → Marks
typed_marks after_self p xs = here λ n.
    each (λ x. one (label after_self (list_of n) x.0) then type_marks p x.1) xs

abbrev pub case_marks : Place → List Case → Marks
case_marks p cs = here λ n.
    each (λ c. one (label false (list_of n) c.name) then optional (type_marks p) c.ty) cs

abbrev pub label_marks : List (List ℕ) → Marks
label_marks names = here λ n. each (λ text. one (label false (list_of n) text)) names

abbrev pub func_marks : Bool → ℕ → Func → Marks
func_marks after_self scope f =
    typed_marks after_self (as_param scope) f.params
    then optional (type_marks (as_result scope)) f.result

-- ---- interfaces

-- an item of the interface, or a function of the resource, whose name is the i-th
abbrev pub item : ℕ → NameTree → Mention
item i full = declaring (list_of i) full

-- a type of that interface
abbrev pub type_item : ℕ → List ℕ → Mention
type_item i text = record (item i (name.plain text)) { known = Some (i, text) }

-- a function of the resource whose name is the r-th. Full names of functions differ within an
-- interface where those of one resource do, since no two resources there have one name: so each is
-- told apart among the functions of its resource, whose name is left out.
abbrev pub resource_func_marks : ℕ → ℕ → ResourceFunc → Marks
resource_func_marks i r (method m f) = one (item r (name.method [] m)) then func_marks true i f
resource_func_marks i r (static m f) = one (item r (name.static [] m)) then func_marks false i f
resource_func_marks i r (constructor ps) =
    one (item r (name.constructor [])) then typed_marks false (as_param i) ps

-- what stands behind the name of a type, which is the n-th
abbrev pub def_marks : ℕ → ℕ → TypeDef → Marks
def_marks i n (alias t) = type_marks (in_text_of i n) t
def_marks i n (record_of fs) = typed_marks false (in_text_of i n) fs
def_marks i n (variant cs) = case_marks (in_text_of i n) cs
def_marks i n (enum names) = label_marks names
def_marks i n (flags names) = label_marks names
def_marks i n (resource fs) = each (resource_func_marks i n) fs

abbrev pub is_resource : TypeDef → Bool
is_resource (alias t) = false
is_resource (record_of fs) = false
is_resource (variant cs) = false
is_resource (enum names) = false
is_resource (flags names) = false
is_resource (resource fs) = true

-- the path of a `use` of that interface: it stands in the interface's own text
abbrev pub path_marks : ℕ → Path → Marks
path_marks i (local text) =
    one (record bare { refers = to_interface text; owner = Some i })
path_marks i (foreign ns pkg text version) = one bare then one bare then one bare

-- a type that is used from there; what a foreign interface has is not known here
abbrev pub used_from : Path → List ℕ → Reference
used_from (local text) old = to_used text old
used_from (foreign ns pkg text version) old = no_reference

abbrev pub is_foreign : Path → Bool
is_foreign (local text) = false
is_foreign (foreign ns pkg text version) = true

-- a used name declares a type, and so its new name does where it has one
abbrev pub used_marks : ℕ → Path → List ℕ → Option (List ℕ) → Marks
used_marks i p old None = here λ n. one (record (type_item i old) {
  refers = used_from p old;
  owner = Some n;
  may_be_resource = is_foreign p;
})
used_marks i p old (Some new) = here λ n.
    one (record bare { refers = used_from p old; owner = Some (n + 1) })
    then one (record (type_item i new) { may_be_resource = is_foreign p })

abbrev pub interface_item_marks : ℕ → InterfaceItem → Marks
interface_item_marks i (uses u) =
    path_marks i u.path then each (λ x. used_marks i u.path x.name x.new_name) u.names
interface_item_marks i (defines text t) = here λ n.
    one (record (type_item i text) { may_be_resource = is_resource t }) then def_marks i n t
interface_item_marks i (has_func text f) = one (item i (name.plain text)) then func_marks false i f

abbrev pub interface_marks : Interface → Marks
interface_marks x = here λ i.
    one (record (declaring 0 (name.plain x.name)) { known = Some (0, x.name) })
    then each (interface_item_marks i) x.items

-- ---- worlds

-- the full name of an interface of the file
abbrev pub own_name : File → List ℕ → NameTree
own_name f text = name.interface f.namespace f.pkg text f.version

-- two versions are the same where they differ at most in the case of ASCII letters
abbrev pub is_same_version : Option (List ℕ) → Option (List ℕ) → Bool
is_same_version None None = true
is_same_version None (Some w) = false
is_same_version (Some v) None = false
is_same_version (Some v) (Some w) = is_same_name v w

-- a package of this name and version is the file's own
abbrev pub is_own_package : File → List ℕ → List ℕ → Option (List ℕ) → Bool
is_own_package f ns pkg version =
    is_same_name ns f.namespace && is_same_name pkg f.pkg && is_same_version version f.version

-- an interface in a list of distinct names, of the file's own package or not
abbrev pub placed_at : ℕ → NameTree → Bool → Mention
placed_at in_list full is_own =
    record bare { declares = Some (record (listed_as in_list full) { is_own = is_own }) }

-- the full name of the interface to which a path in the file leads
abbrev pub path_name : File → Path → NameTree
path_name f (local text) = own_name f text
path_name f (foreign ns pkg text version) = name.interface ns pkg text version

-- an interface that is imported or exported, in this list
abbrev pub path_extern_marks : File → ℕ → Path → Marks
path_extern_marks f in_list (local text) =
    one (record (placed_at in_list (own_name f text) true) { refers = to_interface text })
path_extern_marks f in_list (foreign ns pkg text version) =
    one (placed_at in_list (name.interface ns pkg text version) (is_own_package f ns pkg version))
    then one bare
    then one bare

-- an import or an export, in this list, of the world whose name is the w-th
abbrev pub extern_marks : File → ℕ → ℕ → WorldExtern → Marks
extern_marks f in_list w (interface_at p) = path_extern_marks f in_list p
extern_marks f in_list w (named_func text g) =
    one (declaring in_list (name.plain text)) then func_marks false w g

abbrev pub world_item_marks : File → ℕ → WorldItem → Marks
world_item_marks f w (imports e) = extern_marks f (list_of w) w e
world_item_marks f w (exports e) = extern_marks f (exports_of w) w e

abbrev pub world_marks : File → World → Marks
world_marks f x = here λ w.
    one (declaring 0 (name.plain x.name)) then each (world_item_marks f w) x.items

-- ---- files

abbrev pub file_item_marks : File → FileItem → Marks
file_item_marks f (interface x) = interface_marks x
file_item_marks f (world x) = world_marks f x

-- the names of the package, and then those of the interfaces and worlds
abbrev pub file_marks : File → Marks
file_marks f = one bare then one bare then each (file_item_marks f) f.items

-- the mentions of a file
abbrev pub mentions : File → List Mention
mentions f = file_marks f 0
