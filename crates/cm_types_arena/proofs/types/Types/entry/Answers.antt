use Rattle.std.proofs.Common.{◌∙◌, ap, sym, List}
use Rattle.cm_types_arena.specs.declared.entries.TypeEntry.{TypeEntry}
use Rattle.cm_types_arena.specs.Arena.{types_in}
use Rattle.cm_types_arena.specs.TypeDefs.{def_type}
use Rattle.cm_types_arena.proofs.EntryLaws.{entry_made}
use Rattle.cm_types_arena.proofs.types.Types.entry.Goals as goal

pub returns-in-Ok-build-clause-entry : goal.returns-in-Ok-build-clause-entry
returns-in-Ok-build-clause-entry c =
    entry_made c.args.self.now.entries.items c.args.def c.in-Ok-build.node c.in-Ok.parts c.in-Some.summary c.args.self.now.arena c.requires.parts
    c.in-Ok.ensures c.in-Some.ensures (sym c.is_spellable.ensures ∙ c.if-not-is_spellable.false)
    (c.in-Ok-build.ensures ∙ ap (λ (es : List TypeEntry). def_type (types_in es) c.args.def) c.deref-2.ensures.value)
