use Rattle.std.proofs.Common.{◌∙◌, ap, get_or, subst, length, ◌<◌, List}
use Rattle.cm_types_arena.specs.declared.entries.TypeEntry.{TypeEntry}
use Rattle.cm_types_arena.proofs.ArenaLaws.{summary_there}
use Rattle.cm_types_arena.proofs.types.Types.summary_at.Goals as goal

pub returns-in-Some : goal.returns-in-Some
returns-in-Some c =
    let e = c.in-Some.entry.now in
    let there = c.in-Some.ensures.lookup.3.0 in
    let is = c.in-Some.ensures.lookup.1 in
    summary_there c.args.self.now.entries.items c.args.place c.in-Some.entry.now c.args.self.now.arena
    (subst (λ (es : List TypeEntry). c.args.place < length es) c.deref.ensures.value there)
    (is ∙ ap (λ (es : List TypeEntry). get_or es c.args.place e) c.deref.ensures.value)
