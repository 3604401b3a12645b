use Rattle.std.proofs.Common.{List, ◌∙◌, ap, sym, subst}
use Rattle.cm_types.specs.declared.core_value.CoreKind.{CoreKind}
use Rattle.cm_types.specs.Funcs.{tree_type}
use Rattle.cm_layout.specs.Flattening.{JoinsSlots, flat_of, join_from}
use Rattle.cm_layout.proofs.SlotLaws.{joins_slots}
use Rattle.cm_layout.proofs.flat_whole_types.flatten.Goals as goal

pub returns-clause-slots : goal.returns-clause-slots
returns-clause-slots c =
    subst (λ (ks : List CoreKind). JoinsSlots (tree_type c.args.ty.now) ks)
    (sym (c.in_ok-join_flat.ensures.slots ∙ ap (λ ks. join_from 0 ks (flat_of (tree_type c.args.ty.now))) c.new-kinds.ensures.items)) (joins_slots (tree_type c.args.ty.now))
