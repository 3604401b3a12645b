-- Canonical definitions (Binary.md, "Canonical Definitions").
use Rattle.std.specs.Prelude.{[], ◌∷◌}
use Rattle.cm_binary_grammar.specs.Grammar.{done, ◌>>=◌, code, fixed}
use Rattle.cm_binary_model.specs.declared.canons.CanonOption.{CanonOption}
use Rattle.cm_binary_model.specs.declared.canons.CanonOption.TheVariants as options
use Rattle.cm_binary_model.specs.Trees as trees
use Rattle.cm_binary_model.specs.Trees.{CanonTree}
use Rattle.cm_binary_forms.specs.declared.fault.DecodeReason.TheVariants.{UnknownCode}
use Rattle.cm_binary_forms.specs.declared.codes.CanonForm.{CanonForm}
use Rattle.cm_binary_forms.specs.declared.codes.CanonForm.TheVariants as canon_forms
use Rattle.cm_binary_forms.specs.declared.codes.OptionForm.{OptionForm}
use Rattle.cm_binary_forms.specs.declared.codes.OptionForm.TheVariants as option_forms
use Rattle.cm_binary_forms.specs.Codes.{canon_form, option_form}
use Rattle.cm_binary_forms.specs.Texts.{Production, index, vector}

-- A canonical option behind its form: of the last three an index.
unfoldable pub canon_option_of : OptionForm → Production CanonOption
canon_option_of option_forms.Utf8 = done options.Utf8
canon_option_of option_forms.Utf16 = done options.Utf16
canon_option_of option_forms.Latin1Utf16 = done options.Latin1Utf16
canon_option_of option_forms.Memory = do
  memory ← index
  done (options.Memory memory)
canon_option_of option_forms.Realloc = do
  func ← index
  done (options.Realloc func)
canon_option_of option_forms.PostReturn = do
  func ← index
  done (options.PostReturn func)

-- A canonical option (`canonopt`).
unfoldable pub canon_option : Production CanonOption
canon_option = do
  form ← code option_form
  canon_option_of form

-- A canonical definition behind its form. Behind that of a lift or lower stands a byte 00.
unfoldable pub canon_of : CanonForm → Production CanonTree
canon_of canon_forms.Lift = do
  sort ← fixed (0x00 ∷ []) UnknownCode
  func ← index
  opts ← vector canon_option
  ty ← index
  done (trees.lift func opts ty)
canon_of canon_forms.Lower = do
  sort ← fixed (0x00 ∷ []) UnknownCode
  func ← index
  opts ← vector canon_option
  done (trees.lower func opts)
canon_of canon_forms.ResourceNew = do
  resource ← index
  done (trees.resource_new resource)
canon_of canon_forms.ResourceDrop = do
  resource ← index
  done (trees.resource_drop resource)
canon_of canon_forms.ResourceRep = do
  resource ← index
  done (trees.resource_rep resource)

-- A canonical definition (`canon`).
unfoldable pub canon : Production CanonTree
canon = do
  form ← code canon_form
  canon_of form
