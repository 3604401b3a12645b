-- What a table is made of.
use Rattle.std.specs.Prelude.{◌≡◌, ℕ, true, List, Option, Some, String, is_some, slice_get}
use Rattle.std.specs.Prelude.{if◌then◌else◌}
use Rattle.std.specs.BTreeMap.{BTreeMap, get_by_text}
use Rattle.std.specs.Option.{option_or}
use Rattle.std.specs.Str.{bytes_eq}
use Rattle.std.specs.declared.alloc.Global.{Global}
use Rattle.cm_names.specs.Finding.{found}

-- the number of a text by the marks, and else by the tree
abbrev pub looked_up : List ℕ → List (List ℕ) → BTreeMap (String Global) ℕ → List ℕ → Option ℕ
looked_up marks texts rest text = option_or (found marks texts text) (get_by_text rest text)

-- a tree has the number of this text, and of each other what it had
abbrev pub PutsLast : List ℕ → ℕ → BTreeMap (String Global) ℕ → BTreeMap (String Global) ℕ
    → Type 0
PutsLast text number old new = (t : List ℕ)
    → get_by_text new t ≡ (if bytes_eq text t then Some number else get_by_text old t)

-- marks and a tree tell the numbers of texts
pub record IsTable (marks : List ℕ) (texts : List (List ℕ)) (rest : BTreeMap (String Global) ℕ)
    : Type 0 where
  pub sound : (text : List ℕ) (n : ℕ) → get_by_text rest text ≡ Some n
      → slice_get texts n ≡ Some text
  pub complete : (text : List ℕ) (n : ℕ) → slice_get texts n ≡ Some text
      → is_some (looked_up marks texts rest text) ≡ true
