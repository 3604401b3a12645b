use Rattle.std.proofs.Common.{◌≡◌, ◌∙◌, ℕ, List, ap, map, subst, sym}
use Rattle.std.proofs.lemmas.Result.{IfOk-from_err}
use Rattle.cm_types.specs.TypeTrees.{fields_of}
use Rattle.cm_types.specs.Types.{Ty}
use Rattle.cm_types_arena.specs.Arena.{field_types}
use Rattle.cm_types_arena.specs.Places.{funcs_of, types_of}
use Rattle.cm_types_arena.specs.TypeDefs.{func_at}
use Rattle.cm_types_arena.specs.Replaced.{Standing}
use Rattle.cm_types_numbers.specs.Numbering.{Numbering, AreNumbers, numbering}
use Rattle.cm_types_numbers.proofs.Stays.{extends_itself}
use Rattle.cm_types_numbers.proofs.KnownFuncs.{func_known, known_long, procedure_known}
use Rattle.cm_types_numbers.proofs.KnownLaws.{known_stays}
use Rattle.cm_types_numbers.proofs.Stays.{extends_on}
use Rattle.cm_types_numbers.proofs.numbers.Numbers.number_func_type.Goals as goal
use Rattle.cm_lemmas.proofs.Results.{if_ok_more}

-- the numbers as they are passed
passed : (t : Numbering) (s : Standing) (ts : List Ty) (ns parts : List ℕ) → parts ≡ ns → AreNumbers t s ts ns → AreNumbers t s ts parts
passed t s ts ns parts e are = subst (λ (ms : List ℕ). AreNumbers t s ts ms) (sym e) are

pub returns-in_err-params-clause-known : goal.returns-in_err-params-clause-known
returns-in_err-params-clause-known g c =
    known_stays (numbering c.args.self.now) (numbering c.node.new.self) c.node.ensures.kept (g.R.Replacement.replacement c.args.replacement.now) (types_of c.args.types.now) c.args.known.now c.requires

pub returns-then-place-func_count-clause-known : goal.returns-then-place-func_count-clause-known
returns-then-place-func_count-clause-known g c =
    let start = numbering c.args.self.now in
    let after = numbering c.node-then-place-func_count.new.self in
    known_stays start after (extends_on start (numbering c.node.new.self) after c.node.ensures.kept c.node-then-place-func_count.ensures.kept) (g.R.Replacement.replacement c.args.replacement.now) (types_of c.args.types.now) c.args.known.now c.requires

pub fields-requires : goal.fields-requires
fields-requires g c =
    known_long (numbering c.number_parts.new.self) (numbering c.number_parts.new.self) (numbering c.number_parts.new.self) (extends_itself (numbering c.number_parts.new.self)) (g.R.Replacement.replacement c.args.replacement.now) (types_of c.args.types.now) c.func_params-places.result.now c.deref.result.now (passed (numbering c.number_parts.new.self) (g.R.Replacement.replacement c.args.replacement.now) _ c.in_ok-parts.parts.items c.deref.result.now c.deref.ensures.value c.in_ok-parts.ensures.numbers) (func_at (funcs_of c.args.types.now) c.args.place) c.deref-2.result.now
    (ap fields_of c.deref-2.ensures.value ∙ ap (λ f. f.params) c.func.ensures) c.func_params-places.ensures.params

pub returns-in_err-params-2-clause-known : goal.returns-in_err-params-2-clause-known
returns-in_err-params-2-clause-known g c =
    known_stays (numbering c.number_parts.new.self) (numbering c.fields.new.self) c.fields.ensures.kept (g.R.Replacement.replacement c.args.replacement.now) (types_of c.args.types.now) c.number_parts.new.known c.number_parts.ensures.known

pub returns-in-None-clause-known : goal.returns-in-None-clause-known
returns-in-None-clause-known g c =
    let start = numbering c.number_parts.new.self in
    let after = numbering c.node-in-None.new.self in
    known_stays start after (extends_on start (numbering c.fields.new.self) after c.fields.ensures.kept c.node-in-None.ensures.kept) (g.R.Replacement.replacement c.args.replacement.now) (types_of c.args.types.now) c.number_parts.new.known c.number_parts.ensures.known

pub number_type-requires : goal.number_type-requires
number_type-requires g c =
    known_stays (numbering c.number_parts.new.self) (numbering c.fields.new.self) c.fields.ensures.kept (g.R.Replacement.replacement c.args.replacement.now) (types_of c.args.types.now) c.number_parts.new.known c.number_parts.ensures.known

pub returns-clause-known : goal.returns-clause-known
returns-clause-known g c =
    known_stays (numbering c.number_type.new.self) (numbering c.node-in-Some.new.self) c.node-in-Some.ensures.kept (g.R.Replacement.replacement c.args.replacement.now) (types_of c.args.types.now) c.number_type.new.known c.number_type.ensures.known

pub returns-in-None-clause-number : goal.returns-in-None-clause-number
returns-in-None-clause-number g c = if_ok_more c.node-in-None.result _ _ c.node-in-None.ensures.number (λ n made.
    procedure_known (numbering c.number_parts.new.self) (numbering c.fields.new.self) (numbering c.node-in-None.new.self) c.node-in-None.ensures.kept (g.R.Replacement.replacement c.args.replacement.now) (types_of c.args.types.now) c.func_params-places.result.now c.deref.result.now (passed (numbering c.number_parts.new.self) (g.R.Replacement.replacement c.args.replacement.now) _ c.in_ok-parts.parts.items c.deref.result.now c.deref.ensures.value c.in_ok-parts.ensures.numbers)
    (func_at (funcs_of c.args.types.now) c.args.place) c.deref-2.result.now (ap fields_of c.deref-2.ensures.value ∙ ap (λ f. f.params) c.func.ensures) c.func_params-places.ensures.params c.in_ok-params-2.params
    (c.in_ok-params-2.ensures.number (g.R.Replacement.replacement c.args.replacement.now)) n c.in-None.ensures.answer made)

pub returns-clause-number : goal.returns-clause-number
returns-clause-number g c = if_ok_more c.node-in-Some.result _ _ c.node-in-Some.ensures.number (λ n made.
    func_known (numbering c.number_parts.new.self) (numbering c.fields.new.self) (numbering c.node-in-Some.new.self) (extends_on (numbering c.fields.new.self) (numbering c.number_type.new.self) (numbering c.node-in-Some.new.self) c.number_type.ensures.kept c.node-in-Some.ensures.kept)
    (g.R.Replacement.replacement c.args.replacement.now) (types_of c.args.types.now) c.func_params-places.result.now c.deref.result.now (passed (numbering c.number_parts.new.self) (g.R.Replacement.replacement c.args.replacement.now) _ c.in_ok-parts.parts.items c.deref.result.now c.deref.ensures.value c.in_ok-parts.ensures.numbers)
    (func_at (funcs_of c.args.types.now) c.args.place) c.deref-2.result.now (ap fields_of c.deref-2.ensures.value ∙ ap (λ f. f.params) c.func.ensures) c.func_params-places.ensures.params c.in_ok-params-2.params
    (c.in_ok-params-2.ensures.number (g.R.Replacement.replacement c.args.replacement.now)) (numbering c.number_type.new.self) c.node-in-Some.ensures.kept n c.in_ok-result-in-Some.result c.in-Some.answer c.in-Some.ensures.answer c.in_ok-result-in-Some.ensures.number made)

pub returns-in_err-params-clause-number : goal.returns-in_err-params-clause-number
returns-in_err-params-clause-number g c = IfOk-from_err c.from_residual.result _ c.from_residual.ensures.0

pub returns-in_err-params-clause-kept : goal.returns-in_err-params-clause-kept
returns-in_err-params-clause-kept g c = c.node.ensures.kept

pub returns-then-place-func_count-clause-kept : goal.returns-then-place-func_count-clause-kept
returns-then-place-func_count-clause-kept g c = extends_on (numbering c.args.self.now) (numbering c.node.new.self) (numbering c.node-then-place-func_count.new.self) c.node.ensures.kept c.node-then-place-func_count.ensures.kept

pub number_parts-requires : goal.number_parts-requires
number_parts-requires g c = c.requires

pub returns-in_err-parts-clause-number : goal.returns-in_err-parts-clause-number
returns-in_err-parts-clause-number g c = IfOk-from_err c.from_residual-in_err-parts.result _ c.from_residual-in_err-parts.ensures.0

pub returns-in_err-parts-clause-known : goal.returns-in_err-parts-clause-known
returns-in_err-parts-clause-known g c = c.number_parts.ensures.known

pub returns-in_err-parts-clause-kept : goal.returns-in_err-parts-clause-kept
returns-in_err-parts-clause-kept g c = c.number_parts.ensures.kept

pub returns-in_err-params-2-clause-number : goal.returns-in_err-params-2-clause-number
returns-in_err-params-2-clause-number g c = IfOk-from_err c.from_residual-in_err-params-2.result _ c.from_residual-in_err-params-2.ensures.0

pub returns-in_err-params-2-clause-kept : goal.returns-in_err-params-2-clause-kept
returns-in_err-params-2-clause-kept g c = extends_on (numbering c.args.self.now) (numbering c.number_parts.new.self) (numbering c.fields.new.self) c.number_parts.ensures.kept c.fields.ensures.kept

pub returns-in-None-clause-kept : goal.returns-in-None-clause-kept
returns-in-None-clause-kept g c = extends_on (numbering c.args.self.now) (numbering c.fields.new.self) (numbering c.node-in-None.new.self) (extends_on (numbering c.args.self.now) (numbering c.number_parts.new.self) (numbering c.fields.new.self) c.number_parts.ensures.kept c.fields.ensures.kept) c.node-in-None.ensures.kept

pub returns-in_err-result-in-Some-clause-number : goal.returns-in_err-result-in-Some-clause-number
returns-in_err-result-in-Some-clause-number g c = IfOk-from_err c.from_residual-in_err-result-in-Some.result _ c.from_residual-in_err-result-in-Some.ensures.0

pub returns-in_err-result-in-Some-clause-known : goal.returns-in_err-result-in-Some-clause-known
returns-in_err-result-in-Some-clause-known g c = c.number_type.ensures.known

pub returns-in_err-result-in-Some-clause-kept : goal.returns-in_err-result-in-Some-clause-kept
returns-in_err-result-in-Some-clause-kept g c = extends_on (numbering c.args.self.now) (numbering c.fields.new.self) (numbering c.number_type.new.self) (extends_on (numbering c.args.self.now) (numbering c.number_parts.new.self) (numbering c.fields.new.self) c.number_parts.ensures.kept c.fields.ensures.kept) c.number_type.ensures.kept

pub returns-clause-kept : goal.returns-clause-kept
returns-clause-kept g c = extends_on (numbering c.args.self.now) (numbering c.number_type.new.self) (numbering c.node-in-Some.new.self) (extends_on (numbering c.args.self.now) (numbering c.fields.new.self) (numbering c.number_type.new.self) (extends_on (numbering c.args.self.now) (numbering c.number_parts.new.self) (numbering c.fields.new.self) c.number_parts.ensures.kept c.fields.ensures.kept) c.number_type.ensures.kept) c.node-in-Some.ensures.kept
