-- What imports call (that a caller is one more component is this project's own choice).
use Rattle.std.specs.Prelude.{ℕ, ◌-◌, List, length, take, drop}
use Rattle.cm_types.specs.Signatures.{NamedExtern, SignatureTy}

-- The last of these imports, so many, are what is called; those before bring resources to them.
abbrev pub called : ℕ → List NamedExtern → SignatureTy
called count imports = record {
  imports = take (length imports - count) imports;
  exports = drop (length imports - count) imports;
}
