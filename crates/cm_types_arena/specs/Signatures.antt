-- What the imports and exports of a signature are (Binary.md, "Import and Export Definitions").
use Rattle.std.specs.Prelude.{List}
use Rattle.cm_types.specs.Signatures.{NamedExtern, SignatureTy}
use Rattle.cm_types_arena.specs.Listed.{externs_listed}
use Rattle.cm_types_arena.specs.declared.signatures.Signature.{Signature}

abbrev pub imports_in : Signature → List NamedExtern
imports_in s = externs_listed s.types s.imports

abbrev pub exports_in : Signature → List NamedExtern
exports_in s = externs_listed s.types s.exports

abbrev pub signature_of : Signature → SignatureTy
signature_of s = record { imports = imports_in s; exports = exports_in s }
