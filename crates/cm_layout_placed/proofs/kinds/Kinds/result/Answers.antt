use Rattle.std.proofs.Common.{◌≡◌, ◌<◌, ◌∙◌, [], ◌∷◌, Some, map, take, length, ap, sym, arith}
use Rattle.std.specs.Option.{option_map}
use Rattle.std.proofs.lemmas.List.{length-map}
use Rattle.std.proofs.lemmas.Result.{IfOk-weaker}
use Rattle.cm_layout.specs.Flattening.{flat_of_payload}
use Rattle.cm_types_arena.specs.Places.{funcs_of, types_of}
use Rattle.cm_types_arena.specs.TypeDefs.{func_at, type_at}
use Rattle.cm_layout_placed.specs.Kinds.{in_turn, kinds_at}
use Rattle.cm_layout_placed.specs.Placed.{first_kinds}
use Rattle.cm_layout_placed.proofs.KindLaws.{one_kinds}
use Rattle.cm_layout_placed.proofs.kinds.Kinds.result.Goals as goal

pub kinds_in_turn-requires : goal.kinds_in_turn-requires
kinds_in_turn-requires c =
    let types = types_of c.args.types.now in
    let ks = c.args.self.now.by_place.items in
    let lt : c.in-Some.place < length types = c.in-Some.ensures.there in
    let many : length ks ≡ length types = sym (length-map ks (λ v. v.items)) ∙ ap length c.requires.of ∙ length-map types first_kinds in
    (omega (arith, lt, many, ap length c.deref.ensures.value), tt)

pub returns-in-Some : goal.returns-in-Some
returns-in-Some c =
    let types = types_of c.args.types.now in
    let p = c.in-Some.place in
    let lt : p < length types = c.in-Some.ensures.there in
    let kss = map (λ v. v.items) c.deref.result.now in
    let of : kss ≡ map first_kinds types = ap (map (λ v. v.items)) c.deref.ensures.value ∙ c.requires.of in
    let answer = (func_at (funcs_of c.args.types.now) c.args.func).result in
    let is : answer ≡ Some (type_at types p) = c.func_result.ensures.answer ∙ ap (option_map (type_at types)) c.in-Some.is in
    IfOk-weaker c.kinds_in_turn.result (λ ks. ks.items ≡ take 16 (in_turn (map (kinds_at kss) (p ∷ [])))) (λ ks. ks.items ≡ take 16 (flat_of_payload answer))
    (λ ks e. e ∙ one_kinds kss types p of lt ∙ ap (λ o. take 16 (flat_of_payload o)) (sym is)) c.kinds_in_turn.ensures
