use Rattle.cm_types_arena.proofs.ArenaLaws.{limits_there, spellable_there}
use Rattle.cm_types_arena.proofs.type_laws.types_are_lawful.Goals as goal

pub returns-clause-within : goal.returns-clause-within
returns-clause-within c = limits_there c.args.types.now.entries.items c.args.place c.args.types.now.arena c.requires

pub returns-clause-spellable : goal.returns-clause-spellable
returns-clause-spellable c = spellable_there c.args.types.now.entries.items c.args.place c.args.types.now.arena c.requires
