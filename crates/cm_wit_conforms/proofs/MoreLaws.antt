-- An export that the world does not ask for.
use Rattle.std.proofs.Common.{◌≡◌, ℕ, ◌+◌, Bool, false, cond, List, [], ◌∷◌, ◌++◌, Option, Some, refl, ap, ◌∙◌}
use Rattle.std.specs.List.{AllByRecursion}
use Rattle.std.specs.Str.{bytes_eq}
use Rattle.cm_types.specs.Signatures.{ExternTy, NamedExtern, SignatureTy}
use Rattle.cm_wit_conforms.specs.Comparisons.{Entry, entries, entries_from, extern_entries, extern_named}
use Rattle.cm_wit_conforms.specs.Conformance.{IsUnasked}
use Rattle.cm_wit_conforms.specs.declared.fault.ConformList.{ConformList}
use Rattle.cm_wit_conforms.specs.declared.fault.ConformList.TheVariants as walked

found_still : (name : List ℕ) (front rest : List NamedExtern) (e : NamedExtern) → bytes_eq name e.name ≡ false → extern_named name (front ++ e ∷ rest) ≡ extern_named name (front ++ rest)
found_still name [] rest e n = ap (λ (b : Bool). cond b (Some e.desc) (extern_named name rest)) n
found_still name (x ∷ front) rest e n = ap (λ (o : Option ExternTy). cond (bytes_eq name x.name) (Some x.desc) o) (found_still name front rest e n)

same_entries : (list : ConformList) (front rest : List NamedExtern) (e : NamedExtern) (n : ℕ) (xs : List NamedExtern) → AllByRecursion (λ x. bytes_eq x.name e.name ≡ false) xs → entries_from list (front ++ e ∷ rest) n xs ≡ entries_from list (front ++ rest) n xs
same_entries list front rest e n [] h = refl
same_entries list front rest e n (x ∷ xs) h =
    ap (λ (o : Option ExternTy). extern_entries list n o x.desc ++ entries_from list (front ++ e ∷ rest) (n + 1) xs) (found_still x.name front rest e h.0)
    ∙ ap (λ (es : List Entry). extern_entries list n (extern_named x.name (front ++ rest)) x.desc ++ es) (same_entries list front rest e (n + 1) xs h.1)

pub export_more : (imports front rest : List NamedExtern) (e : NamedExtern) (world : SignatureTy) → IsUnasked world e → entries (record { imports = imports; exports = front ++ e ∷ rest }) world ≡ entries (record { imports = imports; exports = front ++ rest }) world
export_more imports front rest e world h = ap (λ (es : List Entry). es ++ entries_from walked.HaveImports world.imports 0 imports) (same_entries walked.WorldExports front rest e 0 world.exports h)
