use Rattle.std.proofs.Common.{◌∙◌, sym, ap}
use Rattle.std.specs.Option.{option_map, option_or}
use Rattle.cm_validate_model.specs.Spaces.{first_memory}
use Rattle.cm_validate_core.specs.Entries.{memory_of}
use Rattle.cm_validate_core.proofs.spaces.CoreSpaces.memory_after.Goals as goal

pub returns-in-None-clause-memory : goal.returns-in-None-clause-memory
returns-in-None-clause-memory c = λ made s r.
    c.first_memory.ensures.memory made s r
    ∙ sym (ap (λ m. option_or m (first_memory s c.args.options.now)) (r.memory ∙ ap (option_map memory_of) c.in-None.is))
