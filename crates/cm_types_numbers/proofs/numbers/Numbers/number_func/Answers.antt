use Rattle.std.proofs.Common.{◌∙◌, ap, sym}
use Rattle.cm_types_numbers.specs.declared.key.Key.TheVariants as key
use Rattle.cm_types.specs.TypeTrees.{fields_of}
use Rattle.cm_types_arena.specs.Arena.{field_types}
use Rattle.cm_types_arena.specs.Places.{funcs_of, types_of}
use Rattle.cm_types_arena.specs.TypeDefs.{func_at}
use Rattle.cm_types_numbers.specs.Numbering.{numbering}
use Rattle.cm_types_numbers.proofs.ArenaLemmas.{params_long, procedure_is, func_is}
use Rattle.cm_types_numbers.proofs.numbers.Numbers.number_func.Goals as goal
use Rattle.cm_lemmas.proofs.Results.{if_ok_more}

pub fields-requires : goal.fields-requires
fields-requires c =
    params_long (types_of c.args.types.now) c.args.numbers.now c.func_params.result.now c.deref.result.now c.deref-2.result.now (c.deref.ensures.value ∙ c.in_ok-parts.ensures)
    (ap (λ fs. field_types (fields_of fs)) c.deref-2.ensures.value ∙ ap (λ f. field_types f.params) c.func.ensures ∙ c.func_params.ensures.params)

pub returns-in-None-clause-number : goal.returns-in-None-clause-number
returns-in-None-clause-number c = if_ok_more c.node.result _ _ c.node.ensures.number (λ n made s are.
    procedure_is (numbering c.args.self.now) (numbering c.fields.new.self) (numbering c.node.new.self) c.fields.ensures.kept c.node.ensures.kept s (types_of c.args.types.now) c.args.numbers.now c.func_params.result.now c.deref.result.now are c.func_params.ensures.there
    (c.deref.ensures.value ∙ c.in_ok-parts.ensures) (func_at (funcs_of c.args.types.now) c.args.place) c.deref-2.result.now (ap fields_of c.deref-2.ensures.value ∙ ap (λ f. f.params) c.func.ensures) c.func_params.ensures.params c.in_ok-params.params (c.in_ok-params.ensures.number s) n c.in-None.ensures.answer made)

pub returns-clause-number : goal.returns-clause-number
returns-clause-number c = if_ok_more c.node-in-Some.result _ _ c.node-in-Some.ensures.number (λ n made s are.
    func_is (numbering c.args.self.now) (numbering c.fields.new.self) (numbering c.node-in-Some.new.self) c.fields.ensures.kept c.node-in-Some.ensures.kept s (types_of c.args.types.now) c.args.numbers.now c.func_params.result.now c.deref.result.now are c.func_params.ensures.there
    (c.deref.ensures.value ∙ c.in_ok-parts.ensures) (func_at (funcs_of c.args.types.now) c.args.place) c.deref-2.result.now (ap fields_of c.deref-2.ensures.value ∙ ap (λ f. f.params) c.func.ensures) c.func_params.ensures.params c.in_ok-params.params (c.in_ok-params.ensures.number s) n c.in-Some.answer c.in-Some.ensures.answer c.in-Some.ensures.there
    (ap (λ m. (numbering c.node-in-Some.new.self).node (key.Func c.in_ok-params.params m)) (sym c.number_at.ensures) ∙ made))
