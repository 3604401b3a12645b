use Rattle.std.proofs.Common.{◌++◌, ◌∙◌, [], ap, subst}
use Rattle.cm_types_arena.specs.Listed.{externs_listed}
use Rattle.cm_types_arena.specs.Signatures.{exports_in, imports_in}
use Rattle.cm_wit_conforms.specs.Comparisons.{entries_from}
use Rattle.cm_wit_conforms.specs.Walks.{IsWalked}
use Rattle.cm_wit_conforms.specs.declared.fault.ConformList.TheVariants as list
use Rattle.cm_wit_conforms.proofs.lists.walked.Goals as goal

pub returns : goal.returns
returns c =
    let have = c.args.have.now in
    let world = c.args.world.now in
    let h = have.types in
    let w = world.types in
    let exports = ap (λ l. entries_from list.WorldExports l 0 (externs_listed w c.exports-2.result.now)) c.exports.ensures.externs
    ∙ ap (entries_from list.WorldExports (exports_in have) 0) c.exports-2.ensures.externs in
    let imports = ap (λ l. entries_from list.HaveImports l 0 (externs_listed h c.imports.result.now)) c.imports-2.ensures.externs
    ∙ ap (entries_from list.HaveImports (imports_in world) 0) c.imports.ensures.externs in
    subst (λ l. IsWalked h w l c.add_externs-2.new.walk)
    (ap (λ l. l ++ entries_from list.HaveImports (externs_listed w c.imports-2.result.now) 0 (externs_listed h c.imports.result.now)) exports
    ∙ ap (λ l. entries_from list.WorldExports (exports_in have) 0 (exports_in world) ++ l) imports)
    (c.in_ok-add_externs-2.ensures h w _ (c.in_ok-add_externs.ensures h w [] (c.new-walk.ensures h w)))
