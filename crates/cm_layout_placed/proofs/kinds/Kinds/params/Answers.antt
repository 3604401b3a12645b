use Rattle.std.proofs.Common.{◌≡◌, ◌∙◌, map, take, ap, sym}
use Rattle.std.proofs.lemmas.Result.{IfOk-weaker}
use Rattle.cm_layout.specs.Flattening.{flat_of_fields}
use Rattle.cm_types_arena.specs.Places.{funcs_of, types_of}
use Rattle.cm_types_arena.specs.TypeDefs.{func_at}
use Rattle.cm_layout_placed.specs.Kinds.{in_turn, kinds_at}
use Rattle.cm_layout_placed.specs.Placed.{first_kinds}
use Rattle.cm_layout_placed.proofs.KindLaws.{all_kinds, field_kinds}
use Rattle.cm_layout_placed.proofs.kinds.Kinds.params.Goals as goal

pub returns : goal.returns
returns c =
    let types = types_of c.args.types.now in
    let fs = (func_at (funcs_of c.args.types.now) c.args.func).params in
    let ps = c.func_params.result.now in
    let kss = map (λ v. v.items) c.deref.result.now in
    let of : kss ≡ map first_kinds types = ap (map (λ v. v.items)) c.deref.ensures.value ∙ c.requires.of in
    IfOk-weaker c.kinds_in_turn.result (λ ks. ks.items ≡ take 16 (in_turn (map (kinds_at kss) ps))) (λ ks. ks.items ≡ take 16 (flat_of_fields fs))
    (λ ks e. e ∙ field_kinds kss ps fs (all_kinds kss types ps of c.func_params.ensures.there ∙ ap (map first_kinds) (sym c.func_params.ensures.params)))
    c.kinds_in_turn.ensures
