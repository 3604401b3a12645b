use Rattle.std.proofs.Common.{◌≡◌, Option, Some, None, sym, ◌∙◌}
use Rattle.cm_types.specs.declared.names.NameFault.{NameFault}
use Rattle.cm_types.specs.ExternNames.{extern_name_fault}
use Rattle.cm_types.proofs.ExternNameLaws.{name_fine, fine_name}
use Rattle.cm_types.proofs.extern_names.ExternName.parse.Goals as goal

some_is_none : (o : Option NameFault) (e : NameFault) → o ≡ Some e → o ≡ None → ⊥
some_is_none o e h k = cc

pub returns-in-Ok-Some-clause-complete : goal.returns-in-Ok-Some-clause-complete
returns-in-Ok-Some-clause-complete c n =
    absurd (some_is_none (extern_name_fault c.args.text.now) c.in-Ok-Some.fault (sym c.in-Ok-Some.ensures.value ∙ c.in-Ok-Some.field-0-is) (name_fine c.args.text.now n))

pub returns-in-Ok-clause-accepted : goal.returns-in-Ok-clause-accepted
returns-in-Ok-clause-accepted c = fine_name c.args.text.now (sym c.in-Ok-None.ensures.value ∙ c.in-Ok-None.field-0-is)
