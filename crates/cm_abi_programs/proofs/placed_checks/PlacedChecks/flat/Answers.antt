use Rattle.std.proofs.Common.{◌≡◌, ◌∙◌, ap, arith, false, length, map, sym}
use Rattle.std.proofs.lemmas.Result.{IfOk-weaker}
use Rattle.cm_layout.specs.Layouts.{layout_of}
use Rattle.cm_abi_programs.specs.Checks.{flat_checks_of, no_checks}
use Rattle.cm_abi_programs.specs.Coded.{check_lists, checks_in}
use Rattle.cm_abi_programs.specs.Held.{items_at, items_of}
use Rattle.cm_abi_programs.specs.Placed.{is_wide, passed_of}
use Rattle.cm_abi_programs.proofs.HeldLaws.{all_below, as_many, flat_held, some_narrow, wide_none}
use Rattle.cm_abi_programs.proofs.placed_checks.PlacedChecks.flat.Goals as goal

pub gather-requires : goal.gather-requires
gather-requires c =
    let many = as_many checks_in passed_of c.args.self.now.flat.items c.requires.parts.0 c.requires.parts.1 c.requires.parts.4 c.requires.parts.3.passed_are in
    all_below c.requires.parts.1 (length c.deref.result.now) c.args.places.now (omega (arith, ap length c.deref.ensures.value, many)) c.requires.parts.5

pub flat_checks-requires : goal.flat_checks-requires
flat_checks-requires c =
    let narrow : is_wide (layout_of c.args.layout.now).head ≡ false = sym c.is_wide.ensures ∙ c.if-is_wide.false in
    record {
      stored = c.requires.stored;
      held = λ place.
          ap check_lists c.deref-2.ensures.value
          ∙ flat_held checks_in flat_checks_of no_checks c.args.self.now.flat.items c.requires.parts.0 c.requires.parts.1 c.requires.parts.4 c.requires.parts.3.passed_are c.in_ok-flat.flat.items c.args.places.now c.requires.parts.2 (layout_of c.args.layout.now) c.requires.parts.5 (c.in_ok-flat.ensures ∙ ap (λ xs. map (items_at (items_of xs)) c.args.places.now) c.deref.ensures.value) c.requires.parts.6 c.requires.parts.7 c.requires.parts.8 narrow place;
    }

pub returns-then-is_wide : goal.returns-then-is_wide
returns-then-is_wide c = wide_none (is_wide (layout_of c.args.layout.now).head) no_checks (flat_checks_of (layout_of c.args.layout.now).shape) _ (sym c.is_wide.ensures ∙ c.if-is_wide.true) (ap checks_in c.new.ensures.items)

pub returns : goal.returns
returns c =
    let narrow : is_wide (layout_of c.args.layout.now).head ≡ false = sym c.is_wide.ensures ∙ c.if-is_wide.false in
    IfOk-weaker c.flat_checks.result _ _ (λ cs e. some_narrow (is_wide (layout_of c.args.layout.now).head) no_checks (flat_checks_of (layout_of c.args.layout.now).shape) (checks_in cs.items) narrow e) c.flat_checks.ensures
