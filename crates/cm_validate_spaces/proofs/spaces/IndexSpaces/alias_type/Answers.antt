use Rattle.std.proofs.Common.{ap, sym, ◌∙◌, Some, IfSome, subst, Option}
use Rattle.std.specs.Option.{option_map}
use Rattle.std.specs.Prelude.{◌==◌, option_to_list, slice_get}
use Rattle.cm_binary_model.specs.Trees.{outer_type}
use Rattle.cm_validate_model.specs.Items.{alias_item}
use Rattle.cm_validate_types.specs.Entries.{def_of}
use Rattle.cm_validate_types.specs.Settled.{IsEntrySettled}
use Rattle.cm_validate_types.specs.declared.entries.TypeEntry.{TypeEntry}
use Rattle.cm_validate_spaces.specs.IndexSpaces.{funcs_in, types_in}
use Rattle.cm_validate_spaces.proofs.TypeLaws.{here, one_answer}
use Rattle.cm_validate_spaces.proofs.spaces.IndexSpaces.alias_type.Goals as goal

pub returns-in_ok-add-in-Some : goal.returns-in_ok-add-in-Some
returns-in_ok-add-in-Some c =
    let w = c.args.self.now in
    let o = c.args.outer in
    let x = alias_item (outer_type o) in
    let def = def_of (types_in w) (funcs_in w) in
    let there = sym c.in_ok-shared_type.ensures.def ∙ ap (option_map def) c.in-Some.is in
    one_answer c.entries_stay.ensures.component c.first_layouts_stay.ensures.grown x w w.component c.in-Some.ty c.add.new.self
    (λ s k. sym (here s o (Some (def c.in-Some.ty)) (ap (λ n. n == 0) c.if-outer-ne0.false) (ap (λ ts. slice_get ts o.index) k.types_are ∙ there)))
    (λ s k. c.others_add_nothing-2.ensures.outer_aliases o (types_in w) (funcs_in w) w.component s k.component_is)
    (λ s k. ap option_to_list (ap (λ ts. slice_get ts o.index) k.types_are ∙ there))
    (record { own = c.in_ok-add-in-Some.ensures.added; entries = c.in_ok-add-in-Some.ensures.entries; types = c.add.ensures.types; funcs = c.add.ensures.funcs })
    (λ s k. subst (λ (t : Option TypeEntry). IfSome t (IsEntrySettled (types_in w) (funcs_in w))) c.in-Some.is (c.in_ok-shared_type.ensures.settled k.settled)) (c.others_add_nothing.ensures.outer_aliases o)
