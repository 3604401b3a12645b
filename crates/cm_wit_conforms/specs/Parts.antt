-- A name as what stands in front of its last label, and this label (Explainer.md, "Import and
-- Export Definitions").
use Rattle.std.specs.Prelude.{ℕ, List, [], Option, Some, None}
use Rattle.cm_types.specs.ExternNames.{NameTree, constructor, interface, method, plain, static}

-- which form a front has, and its texts, empty where the form has none
pub record FrontKey : Type 0 where
  pub form : ℕ
  pub first : List ℕ
  pub second : List ℕ
  pub version : List ℕ

-- the front that says nothing more than its form
abbrev pub bare_front : ℕ → FrontKey
bare_front form = record { form = form; first = []; second = []; version = [] }

-- an annotation with its resource
abbrev pub resource_front : ℕ → List ℕ → FrontKey
resource_front form r = record { form = form; first = r; second = []; version = [] }

-- a package, without a version and with one
abbrev pub package_front : List ℕ → List ℕ → Option (List ℕ) → FrontKey
package_front ns pkg None = record { form = 4; first = ns; second = pkg; version = [] }
package_front ns pkg (Some v) = record { form = 5; first = ns; second = pkg; version = v }

-- what stands in front of the last label of a name
abbrev pub front_of : NameTree → FrontKey
front_of (plain l) = bare_front 0
front_of (method r m) = resource_front 1 r
front_of (static r m) = resource_front 2 r
front_of (constructor r) = resource_front 3 r
front_of (interface ns pkg l version) = package_front ns pkg version

-- the last label of a name, which a constructor has not
abbrev pub back_of : NameTree → List ℕ
back_of (plain l) = l
back_of (method r m) = m
back_of (static r m) = m
back_of (constructor r) = []
back_of (interface ns pkg l version) = l

-- both
abbrev pub parts_of : NameTree → FrontKey × List ℕ
parts_of t = (front_of t, back_of t)
