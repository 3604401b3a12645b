use Rattle.std.proofs.Common.{◌≡◌, ◌∙◌, ◌<◌, ◌≤◌, ap, arith, false, length, map, refl, subst, sym, take}
use Rattle.std.proofs.lemmas.Bool.{le-ltb, lt-ltb}
use Rattle.std.proofs.lemmas.Result.{IfOk-weaker}
use Rattle.std.specs.List.{AllByRecursion}
use Rattle.cm_types.specs.Types.{fields, tuple_type}
use Rattle.cm_layout.specs.Layouts.{layout_of}
use Rattle.cm_layout.specs.declared.heads.Head.{Head}
use Rattle.cm_layout.specs.declared.layouts.Layout.{out-Layout}
use Rattle.cm_layout.proofs.LayoutLemmas.{seen_head}
use Rattle.cm_abi_programs.specs.Checks.{checks_of, flat_checks_of, no_checks, passed_checks_of}
use Rattle.cm_abi_programs.specs.Coded.{check_lists, checks_in}
use Rattle.cm_abi_programs.specs.Held.{items_at, items_of, shapes_in}
use Rattle.cm_abi_programs.specs.Placed.{AreChecksOf, is_wide, stored_of}
use Rattle.cm_abi_programs.proofs.HeldLaws.{all_types, narrow_some, tuple_held, whole_many}
use Rattle.cm_abi_programs.proofs.placed_checks.PlacedChecks.passed.Goals as goal

pub gather-requires : goal.gather-requires
gather-requires c = subst (λ m. AllByRecursion (λ p. p < m) c.args.places.now) (sym (ap length c.deref.ensures.value ∙ whole_many checks_in stored_of c.args.self.now.stored.items c.requires.tuple.0 c.requires.tuple.2.stored_are)) c.requires.tuple.3

pub stored_checks-requires : goal.stored_checks-requires
stored_checks-requires c =
    ap check_lists c.deref-then-layout-limit.ensures.value
    ∙ tuple_held checks_in checks_of c.args.self.now.stored.items c.requires.tuple.0 c.requires.tuple.2.stored_are c.in_ok-stored.stored.items c.args.places.now c.requires.tuple.1 (layout_of c.args.layout.now) c.requires.tuple.3 (c.in_ok-stored.ensures ∙ ap (λ xs. map (items_at (items_of xs)) c.args.places.now) c.deref.ensures.value) c.requires.tuple.4 c.requires.tuple.5

pub flat-requires : goal.flat-requires
flat-requires c =
    let ts = c.requires.tuple.0 in
    let stored : check_lists c.deref-2.result.now ≡ map checks_of (shapes_in (layout_of c.args.layout.now).shape) =
    ap check_lists c.deref-2.ensures.value
    ∙ tuple_held checks_in checks_of c.args.self.now.stored.items c.requires.tuple.0 c.requires.tuple.2.stored_are c.in_ok-stored.stored.items c.args.places.now c.requires.tuple.1 (layout_of c.args.layout.now) c.requires.tuple.3 (c.in_ok-stored.ensures ∙ ap (λ xs. map (items_at (items_of xs)) c.args.places.now) c.deref.ensures.value) c.requires.tuple.4 c.requires.tuple.5 in
    let all : AreChecksOf (take (length ts) ts) c.args.self.now = subst (λ xs. AreChecksOf xs c.args.self.now) (sym (all_types ts (length ts) (omega arith))) c.requires.tuple.2 in
    record {
      stored = stored;
      parts = (ts, length ts, fields tuple_type c.requires.tuple.1, all, omega arith, c.requires.tuple.3, c.requires.tuple.4, c.requires.tuple.5, refl);
    }

pub returns-then-layout-limit : goal.returns-then-layout-limit
returns-then-layout-limit c =
    let width_is : (layout_of c.args.layout.now).head.width ≡ (out-Layout c.args.layout.now).head.width = ap (λ (h : Head). h.width) (seen_head c.args.layout.now) in
    let wide : c.args.limit < (layout_of c.args.layout.now).head.width = omega (arith, c.if-layout-limit.true, width_is) in
    let is : passed_checks_of c.args.limit (layout_of c.args.layout.now) ≡ checks_of (layout_of c.args.layout.now).shape = rw (lt-ltb c.args.limit (layout_of c.args.layout.now).head.width wide) refl in
    IfOk-weaker c.stored_checks.result _ (λ cs. checks_in cs.items ≡ passed_checks_of c.args.limit (layout_of c.args.layout.now)) (λ cs e. e ∙ sym is) c.stored_checks.ensures

pub returns : goal.returns
returns c =
    let width_is : (layout_of c.args.layout.now).head.width ≡ (out-Layout c.args.layout.now).head.width = ap (λ (h : Head). h.width) (seen_head c.args.layout.now) in
    let narrow : (layout_of c.args.layout.now).head.width ≤ c.args.limit = omega (arith, c.if-layout-limit.false, width_is) in
    let is : passed_checks_of c.args.limit (layout_of c.args.layout.now) ≡ flat_checks_of (layout_of c.args.layout.now).shape = rw (le-ltb c.args.limit (layout_of c.args.layout.now).head.width narrow) refl in
    let few : is_wide (layout_of c.args.layout.now).head ≡ false = sym c.is_wide.ensures ∙ c.if-is_wide.false in
    IfOk-weaker c.flat.result _ (λ cs. checks_in cs.items ≡ passed_checks_of c.args.limit (layout_of c.args.layout.now))
    (λ cs e. narrow_some (is_wide (layout_of c.args.layout.now).head) no_checks (flat_checks_of (layout_of c.args.layout.now).shape) (checks_in cs.items) few e ∙ sym is) c.flat.ensures
