use Rattle.std.proofs.Common.{ap, sym, ◌∙◌}
use Rattle.cm_types_arena.specs.Places.{funcs_of, types_of}
use Rattle.cm_types_arena.specs.Externs.{are_externs_in, externs_in}
use Rattle.cm_types_arena.specs.Signatures.{signature_of}
use Rattle.cm_validate_spaces.specs.Checked.{funcs_in, sections_in, spaces_in, types_in}
use Rattle.cm_validate.specs.Exports.{signature_in}
use Rattle.cm_validate.proofs.ExternLaws.{imports_are, imports_there, shared_in, shown_in, signature_is}
use Rattle.cm_validate.proofs.NumberLaws.{exports_alike, imports_alike}
use Rattle.cm_validate.proofs.signatures.signature.Goals as goal

pub new-requires-2 : goal.new-requires-2
new-requires-2 c =
    let k = c.args.checked in
    let m = c.into_externs-types in
    let shared = shared_in c.component.result.now (sections_in k) c.in_ok-shared.shared c.component.ensures.component c.in_ok-shared.ensures.shared c.component.ensures.valid in
    imports_alike (types_in k) (funcs_in k) (spaces_in k) c.in_ok-shared.shared m.result.imports.items c.len.result c.in_ok-imported.imported.items shared m.ensures.imports c.in_ok-imported.ensures

pub new-requires-3 : goal.new-requires-3
new-requires-3 c =
    let k = c.args.checked in
    let m = c.into_externs-types in
    let shared = shared_in c.component.result.now (sections_in k) c.in_ok-shared.shared c.component.ensures.component c.in_ok-shared.ensures.shared c.component.ensures.valid in
    let shown =
    shown_in (types_of m.result.types) (types_in k) (funcs_of m.result.types) (funcs_in k) (spaces_in k) c.in_ok-shared.shared c.deref.result.now m.result.exports.items c.in_ok-exports.exports.items
    m.ensures.types m.ensures.funcs c.deref.ensures.value c.in_ok-exports.ensures shared m.ensures.exports m.ensures.exports_there in
    exports_alike (types_of m.result.types) (funcs_of m.result.types) (spaces_in k) c.in_ok-shared.shared c.in_ok-exports.exports.items c.len-2.result c.in_ok-exported.exported.items shared shown c.in_ok-exported.ensures

pub new-requires-4-clause-imports : goal.new-requires-4-clause-imports
new-requires-4-clause-imports c =
    let m = c.into_externs-types in
    ap (are_externs_in m.result.types) c.new-2.ensures.externs
    ∙ imports_there (types_of m.result.types) (types_in c.args.checked) (funcs_of m.result.types) (funcs_in c.args.checked) m.result.imports.items m.ensures.types m.ensures.funcs m.ensures.imports_there

pub new-requires-4-clause-exports : goal.new-requires-4-clause-exports
new-requires-4-clause-exports c =
    let k = c.args.checked in
    let m = c.into_externs-types in
    let shared = shared_in c.component.result.now (sections_in k) c.in_ok-shared.shared c.component.ensures.component c.in_ok-shared.ensures.shared c.component.ensures.valid in
    let shown =
    shown_in (types_of m.result.types) (types_in k) (funcs_of m.result.types) (funcs_in k) (spaces_in k) c.in_ok-shared.shared c.deref.result.now m.result.exports.items c.in_ok-exports.exports.items
    m.ensures.types m.ensures.funcs c.deref.ensures.value c.in_ok-exports.ensures shared m.ensures.exports m.ensures.exports_there in
    ap (are_externs_in m.result.types) c.new-3.ensures.externs ∙ shown.there

pub returns : goal.returns
returns c =
    let k = c.args.checked in
    let m = c.into_externs-types in
    let shared = shared_in c.component.result.now (sections_in k) c.in_ok-shared.shared c.component.ensures.component c.in_ok-shared.ensures.shared c.component.ensures.valid in
    let shown =
    shown_in (types_of m.result.types) (types_in k) (funcs_of m.result.types) (funcs_in k) (spaces_in k) c.in_ok-shared.shared c.deref.result.now m.result.exports.items c.in_ok-exports.exports.items
    m.ensures.types m.ensures.funcs c.deref.ensures.value c.in_ok-exports.ensures shared m.ensures.exports m.ensures.exports_there in
    signature_is (signature_of c.new-4.result) (signature_in (spaces_in k))
    (c.new-4.ensures.imports ∙ ap (externs_in m.result.types) c.new-2.ensures.externs
    ∙ imports_are (types_of m.result.types) (types_in k) (funcs_of m.result.types) (funcs_in k) m.result.imports.items m.ensures.types m.ensures.funcs ∙ sym m.ensures.imports)
    (c.new-4.ensures.exports ∙ ap (externs_in m.result.types) c.new-3.ensures.externs ∙ shown.are)
