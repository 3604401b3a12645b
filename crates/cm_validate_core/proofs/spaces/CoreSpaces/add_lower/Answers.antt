use Rattle.std.proofs.Common.{◌∷◌, [], sym, ap}
use Rattle.std.specs.Prelude.{option_to_list}
use Rattle.cm_binary_model.specs.Trees.{lower}
use Rattle.cm_validate_core.specs.CoreSpaces.{IsFirstNumbered, memory_names_of}
use Rattle.cm_validate_core.proofs.CanonLaws.{canon_done}
use Rattle.cm_validate_core.proofs.spaces.CoreSpaces.add_lower.Goals as goal

pub returns-clause-added : goal.returns-clause-added
returns-clause-added c = λ made s f e r.
    let n : IsFirstNumbered (memory_names_of c.make.new.self) c.memory_after-memory.result = rw (c.make.ensures.names) (c.memory_after-memory.ensures.numbered made s r) in
    canon_done made c.make.new.self c.memory_after-memory.result s (lower f c.args.options.now) (made c.args.self.now.made ∷ []) (c.in_ok-make.ensures.made made s r) (sym (ap option_to_list e))
    (c.memory_after-memory.ensures.memory made s r) n
