-- What the link of a lowered function stands for among the rules.
use Rattle.std.specs.Prelude.{◌≡◌, IfSome}
use Rattle.cm_types.specs.Types.{Fields}
use Rattle.cm_layout.specs.Layouts.{layout_of}
use Rattle.cm_layout.specs.Shapes.{layout_of_fields_at}
use Rattle.cm_abi_model.specs.Receives.{call_kinds}
use Rattle.cm_abi_model.specs.Requests.{is_spilled}
use Rattle.cm_abi_model.specs.Views.{Way, flat_limit, params, results}
use Rattle.cm_abi_programs.specs.CallPuts.{call_puts_in, call_puts_of}
use Rattle.cm_abi_programs.specs.Checks.{passed_checks_of}
use Rattle.cm_abi_programs.specs.Coded.{checks_in}
use Rattle.cm_abi_slots.specs.Steps.{AreStepsOf}
use Rattle.cm_machine_model.specs.Plan.{Link, Side, types_of}
use Rattle.cm_machine_parts.specs.declared.link.LiftLowerOptions.{LiftLowerOptions}
use Rattle.cm_machine_parts.specs.declared.link.Link.{Link as CodedLink}
use Rattle.cm_machine_parts.specs.declared.link.PassedTypes.{PassedTypes}

-- the side of a link that has these options
abbrev pub side_in : LiftLowerOptions → Side
side_in o = record { encoding = o.encoding; realloc = o.realloc }

-- the layout of the types that are passed that way, the kinds of the core values that pass them,
-- and what has to be looked at and written; where steps are kept, they are those of the types,
-- which are then numbers alone
pub record ArePassed (way : Way) (types : Fields) (p : PassedTypes) : Type 0 where
  pub layout_is : layout_of p.layout ≡ layout_of_fields_at types
  pub kinds_are : p.kinds.items ≡ call_kinds way types
  pub steps_are : IfSome p.steps (λ s. AreStepsOf way types s.items)
  pub checks_are : checks_in p.checks.items ≡ passed_checks_of (flat_limit way) (layout_of p.layout)
  pub puts_are : call_puts_in p.puts ≡ call_puts_of (flat_limit way) (layout_of p.layout)

-- The link of the code stands for this one: the same functions and options, the layouts and the
-- core kinds of its types; and the caller passes a pointer where the result is spilled.
pub record IsLinkOf (l : Link) (k : CodedLink) : Type 0 where
  pub instance_is : k.instance ≡ l.instance
  pub func_is : k.func ≡ l.func
  pub post_return_is : k.post_return ≡ l.post_return
  pub caller_is : side_in k.caller ≡ l.caller
  pub callee_is : side_in k.callee ≡ l.callee
  pub params_are : ArePassed params (types_of l params) k.types.value.params
  pub results_are : ArePassed results (types_of l results) k.types.value.results
  pub pointer_is : k.types.value.has_pointer ≡ is_spilled results (types_of l results)
