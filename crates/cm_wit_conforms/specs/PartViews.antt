-- What the code's parts of names say.
use Rattle.std.specs.Prelude.{ℕ, List, slice_index_or}
use Rattle.cm_wit_conforms.specs.Parts.{FrontKey, bare_front}
use Rattle.cm_wit_conforms.specs.declared.parts.FrontParts.{FrontParts}
use Rattle.cm_wit_conforms.specs.declared.parts.NameParts.{NameParts}

abbrev pub front_view : FrontParts → FrontKey
front_view f = record {
  form = f.form;
  first = f.first.now;
  second = f.second.now;
  version = f.version.now;
}

-- the front of this number among fronts
abbrev pub front_at : List FrontKey → ℕ → FrontKey
front_at fs n = slice_index_or fs n (bare_front 0)

-- a name by its front, which is one of these, and its last label
abbrev pub parts_in : List FrontKey → NameParts → FrontKey × List ℕ
parts_in fs n = (front_at fs n.front, n.back.now)
