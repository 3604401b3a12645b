use Rattle.std.proofs.Common.{◌≡◌, ◌∙◌, Some, ap, arith, subst, sym, IfOk}
use Rattle.std.proofs.lemmas.Option.{slice_get-get_or}
use Rattle.cm_types_arena.specs.Replaced.{replaced}
use Rattle.cm_types_arena.specs.TypeDefs.{type_at}
use Rattle.cm_types_numbers.specs.Numbering.{number, numbering}
use Rattle.cm_types_numbers.specs.Moved.{brought_by}
use Rattle.cm_match_serving.specs.Sides.{standing_of}
use Rattle.cm_match_serving.specs.Linkings.{components_in}
use Rattle.cm_match_serving.proofs.Known.{funcs_there, known_next, types_there}
use Rattle.cm_match_serving.proofs.tables.Tables.number_type.Goals as goal

pub returns-clause-known : goal.returns-clause-known
returns-clause-known c =
    let cs = components_in c.args.side.now.linking in
    let at = c.args.side.now.component in
    let x = c.index-components-side.result in
    let ys = c.components.result.now in
    known_next c.known_stays.ensures c.args.side.now.linking c.args.self.now c.number_type.new.numbers at c.types-types.result.now c.number_type.new.self c.requires c.number_type.ensures.kept
    (c.types-types.ensures.types ∙ types_there cs ys at x c.args.side.now.there c.components.ensures.components c.index-components-side.is)
    (c.types-types.ensures.funcs ∙ funcs_there cs ys at x c.args.side.now.there c.components.ensures.components c.index-components-side.is)
    c.number_type.ensures.known

pub number_type-requires : goal.number_type-requires
number_type-requires c =
    let cs = components_in c.args.side.now.linking in
    let at = c.args.side.now.component in
    let x = c.index-components-side.result in
    let ys = c.components.result.now in
    let k = c.in-Some.known.now in
    c.requires.each at k (slice_get-get_or c.args.self.now.known.items at k (omega (arith, c.requires.count, c.args.side.now.there)) ∙ ap Some (sym c.in-Some.ensures.value)) c.types-types.result.now
    (c.types-types.ensures.types ∙ types_there cs ys at x c.args.side.now.there c.components.ensures.components c.index-components-side.is)
    (c.types-types.ensures.funcs ∙ funcs_there cs ys at x c.args.side.now.there c.components.ensures.components c.index-components-side.is)

pub returns-clause-number : goal.returns-clause-number
returns-clause-number c =
    let cs = components_in c.args.side.now.linking in
    let at = c.args.side.now.component in
    let x = c.index-components-side.result in
    let ys = c.components.result.now in
    subst (λ ts. IfOk c.number_type.result (λ n. number (numbering c.number_type.new.numbers) (replaced (standing_of c.args.side.now) (replaced (brought_by c.args.ty) (type_at ts c.args.ty.ty.place))) ≡ Some n))
    (c.types-types.ensures.types ∙ types_there cs ys at x c.args.side.now.there c.components.ensures.components c.index-components-side.is)
    c.number_type.ensures.number
