use Rattle.std.proofs.Common.{◌≡◌, ◌∙◌, [], IfOk, length, refl, sym, ap, subst, inl}
use Rattle.cm_types.specs.Values.{parts}
use Rattle.cm_types.specs.ValueTrees.{values_of}
use Rattle.cm_abi_model.specs.declared.encoding.StringEncoding.TheVariants.{Utf8}
use Rattle.cm_abi_model.specs.Receives.{leaves_in}
use Rattle.cm_abi_model.specs.Requests.{requests, tuple_of}
use Rattle.cm_abi_model.specs.Ways.{way_of}
use Rattle.cm_host_values.specs.HostTypes.{types_in}
use Rattle.cm_host_values.specs.Lowering.{DenoteThere}
use Rattle.cm_host_values.proofs.RequestingLaws.{as_many}
use Rattle.cm_host_values.proofs.lowering.lower_typed.Goals as goal

pub lower_at-requires-clause-answered : goal.lower_at-requires-clause-answered
lower_at-requires-clause-answered c = λ types can.
    let v = parts (values_of c.args.values.now) in
    let ways : way_of c.way.result ≡ way_of c.way-2.result = c.way.ensures ∙ sym c.way-2.ensures in
    let asked = c.deref.ensures.value ∙ c.in-Ok.ensures.requests types can.layout can.typed in
    let answered = as_many _ _ _ _ c.in_ok-answers.ensures.ok in
    ap length c.deref-2.ensures.value ∙ (answered ∙ (ap length asked ∙ ap (λ way. length (requests way types v Utf8 Utf8 [])) ways))

pub returns-clause-denoted : goal.returns-clause-denoted
returns-clause-denoted c = λ all e.
    let types = types_in c.args.types.now in
    let v = parts (values_of c.args.values.now) in
    let none : leaves_in (tuple_of types) v ≡ [] = subst (λ ts. leaves_in (tuple_of ts) v ≡ []) (sym e) (c.what_a_host_sees_has_no_handles.ensures all v) in
    let denoted = c.lower_at.ensures.denoted types
    (record {
      layout = c.requires.layout;
      kinds = rw c.way-2.ensures c.kinds.ensures;
      typed = c.requires.typed;
      spellable = c.requires.spellable;
      stores = inl tt;
      spelled = λ latin. absurd cc;
      small = c.requires.small;
    })
    refl none in
    subst (λ way. IfOk c.lower_at.result (DenoteThere way types v)) c.way-2.ensures denoted
