-- Names that are texts.
use Rattle.std.specs.Prelude.{◌≡◌, true}
use Rattle.std.specs.Str.{is_utf8}
use Rattle.cm_bundle.specs.Trees.{SupplyTree}

-- both names are texts
abbrev pub HasTexts : SupplyTree → Type 0
HasTexts x = (is_utf8 x.name ≡ true) × (is_utf8 x.export.name ≡ true)
