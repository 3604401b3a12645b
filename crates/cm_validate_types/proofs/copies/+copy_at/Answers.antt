use Rattle.std.proofs.Common.{◌≡◌, ℕ, ◌+◌, ◌<◌, List, [], ◌∷◌, ◌++◌, length, map, get_or, take, None, false, refl, sym, ap, subst, ◌∙◌, arith}
use Rattle.std.specs.BTreeMap.{get}
use Rattle.std.specs.List.{AllByRecursion}
use Rattle.std.specs.Ordering.{nat_cmp}
use Rattle.std.proofs.lemmas.Result.{IfOk-from_err}
use Rattle.cm_types.specs.Holds.{holds, is_handle}
use Rattle.cm_types.specs.Limits.{depth_of}
use Rattle.cm_types.specs.Types.{Ty}
use Rattle.cm_types_arena.specs.Arena.{parts_in}
use Rattle.cm_types_arena.specs.Places.{funcs_of, types_of}
use Rattle.cm_types_arena.specs.TypeDefs.{type_at}
use Rattle.cm_types_arena.specs.declared.summaries.Summary.{Summary}
use Rattle.cm_types_arena.specs.Replaced.{replaced}
use Rattle.cm_validate_types.specs.Copies.{BeginsWith, IsCopy}
use Rattle.cm_validate_types.proofs.CopyLaws.{all_and_one, all_below_more, all_copied, at_front, below_at, copies_more, copies_stay, front_of_front, index_stays, itself, longer, own_copy, part_copied, part_is, part_shallower, parts_long}
use Rattle.cm_validate_types.proofs.OnceLaws.{PartCopied, both_once, last_once, nothing_once, part_copied_as, wider}
use Rattle.cm_validate_types.proofs.copies.+copy_at.Goals.{then-summary+in_ok-copy, else-summary}
use Rattle.cm_validate_types.proofs.copies.+copy_at.Goals as goal

pub returns-in-Some-clause-copy : goal.returns-in-Some-clause-copy
returns-in-Some-clause-copy g n c = c.requires.copies c.args.place c.in-Some.copy.now (sym c.in-Some.ensures.value)

pub returns-in-Some-clause-copies : goal.returns-in-Some-clause-copies
returns-in-Some-clause-copies g n c = c.requires.copies

pub returns-in-Some-clause-once : goal.returns-in-Some-clause-once
returns-in-Some-clause-once g n c = nothing_once (g.R.Replacement.replacement c.args.by.now) (types_of c.args.types.now) (get nat_cmp c.args.copies.now) (c.args.place + 1)

pub returns-in-Some-clause-kept : goal.returns-in-Some-clause-kept
returns-in-Some-clause-kept g n c = itself (types_of c.args.types.now)

pub returns-in-Some-clause-funcs : goal.returns-in-Some-clause-funcs
returns-in-Some-clause-funcs g n c = refl {a = funcs_of c.args.types.now}

pub returns-in_err-copied-clause-copy : goal.returns-in_err-copied-clause-copy
returns-in_err-copied-clause-copy g n c = IfOk-from_err c.from_residual.result _ c.from_residual.ensures.0

pub returns-in_err-copied-clause-copies : goal.returns-in_err-copied-clause-copies
returns-in_err-copied-clause-copies g n c = IfOk-from_err c.from_residual.result _ c.from_residual.ensures.0

pub returns-in_err-copied-clause-once : goal.returns-in_err-copied-clause-once
returns-in_err-copied-clause-once g n c = IfOk-from_err c.from_residual.result _ c.from_residual.ensures.0

pub returns-in_err-copied-clause-kept : goal.returns-in_err-copied-clause-kept
returns-in_err-copied-clause-kept g n c = itself (types_of c.args.types.now)

pub returns-in_err-copied-clause-funcs : goal.returns-in_err-copied-clause-funcs
returns-in_err-copied-clause-funcs g n c = refl {a = funcs_of c.args.types.now}

pub loop-i-init : goal.loop-i-init
loop-i-init g n c =
    let old = types_of c.args.types.now in
    record {
      kept = itself old;
      funcs = refl {a = funcs_of c.args.types.now};
      copies = c.requires.copies;
      once = nothing_once (g.R.Replacement.replacement c.args.by.now) old (get nat_cmp c.args.copies.now) c.args.place;
      there = subst (λ (xs : List ℕ). AllByRecursion (λ p. p < length old) xs) (sym c.in_ok-copied.ensures.items) tt;
      copied = ap (map (type_at old)) c.in_ok-copied.ensures.items;
    }

pub copy_at-requires : goal.copy_at-requires
copy_at-requires g n c =
    let old = types_of c.args.types.now in
    let mid = types_of c.loop-i.types in
    let ps = c.parts.result.now in
    let i = c.loop-i.i in
    let kept = c.loop-i.invariant.kept in
    let long = longer old mid kept in
    let lt = index_stays old mid c.args.place i c.parts-count.result.now ps kept c.requires.there c.parts-count.ensures.parts c.parts.ensures.parts c.loop-i-test.true in
    let before : get_or ps i 0 < c.args.place = below_at c.args.place ps i c.parts.ensures.earlier lt in
    let there : get_or ps i 0 < length mid = omega (arith, before, c.requires.there, long) in
    let less = part_shallower old mid c.args.place ps kept c.requires.there c.parts.ensures.parts i lt in
    let fall : depth_of (type_at mid (get_or ps i 0)) < n = omega (arith, less, c.decreases) in
    λ κs out. (fall, (out, (there, c.loop-i.invariant.copies)))

pub loop-i-preserved : goal.loop-i-preserved
loop-i-preserved g n c =
    let s = g.R.Replacement.replacement c.args.by.now in
    let place = c.args.place in
    let old = types_of c.args.types.now in
    let mid = types_of c.loop-i.types in
    let new = types_of c.if-summary.types in
    let fs = funcs_of c.loop-i.types in
    let t = get nat_cmp c.args.copies.now in
    let u = get nat_cmp c.loop-i.copies in
    let v = get nat_cmp c.if-summary.copies in
    let copy = c.if-summary.copy in
    let ps = c.parts.result.now in
    let i = c.loop-i.i in
    let done = c.loop-i.copied.items in
    let so_far = c.loop-i.invariant in
    let lt = index_stays old mid place i c.parts-count.result.now ps so_far.kept c.requires.there c.parts-count.ensures.parts c.parts.ensures.parts c.loop-i-test.true in
    let part : ℕ = get_or ps i 0 in
    let before : part < place = below_at place ps i c.parts.ensures.earlier lt in
    let longer_mid = longer old mid so_far.kept in
    let there : part < length mid = omega (arith, before, c.requires.there, longer_mid) in
    let step : PartCopied s mid new fs (funcs_of c.if-summary.types) u v place part copy = elim c.if-summary.branch [
      | then-summary+in_ok-copy w ↦
          let made = types_of w.copy_at.new.types in
          let known = get nat_cmp w.copy_at.new.copies in
          part_copied_as s mid new made fs (funcs_of c.if-summary.types) (funcs_of w.copy_at.new.types) u v known place part copy w.in_ok-copy.copy (ap types_of w.types-is) (ap funcs_of w.types-is) (ap (get nat_cmp) w.copies-is) w.copy-is (record {
            kept = w.copy_at.ensures.kept;
            funcs = w.copy_at.ensures.funcs;
            copies = w.in_ok-copy.ensures.copies;
            once = wider s mid made u known (part + 1) place (omega (arith, before)) w.in_ok-copy.ensures.once;
            is = w.in_ok-copy.ensures.copy;
          })
      | else-summary w ↦
          let plain : holds is_handle (type_at mid part) ≡ false = sym (ap (λ (x : Summary). x.holds_handle) c.summary.ensures) ∙ w.if-summary.false in
          part_copied_as s mid new mid fs (funcs_of c.if-summary.types) fs u v u place part copy part (ap types_of w.types-is) (ap funcs_of w.types-is) (ap (get nat_cmp) w.copies-is) w.copy-is (record {
            kept = itself mid;
            funcs = refl {a = fs};
            copies = so_far.copies;
            once = nothing_once s mid u place;
            is = own_copy s mid part there (c.replacing.ensures.without_handles s (type_at mid part) plain);
          })
    ] in
    let longer_new = longer mid new step.kept in
    let lows = all_and_one (length new) done copy (all_below_more (length mid) (length new) longer_new done so_far.there) step.is.copy_there in
    let ts = parts_in (type_at old place) in
    let among : i < length ts = omega (arith, lt, parts_long old mid place ps so_far.kept c.requires.there c.parts.ensures.parts) in
    record {
      kept = front_of_front old mid new so_far.kept step.kept;
      funcs = step.funcs ∙ so_far.funcs;
      copies = step.copies;
      once = both_once s old mid new t u v place (omega (arith, c.requires.there)) so_far.once step.once;
      there = subst (λ (xs : List ℕ). AllByRecursion (λ p. p < length new) xs) {x = done ++ copy ∷ []} {y = c.push.new.self.items} (sym {a = c.push.new.self.items} {b = done ++ copy ∷ []} c.in_ok-push.ensures.items) lows;
      copied = ap (map (type_at new)) c.in_ok-push.ensures.items
          ∙ part_copied s mid new ts i done copy step.kept so_far.there so_far.copied among
          (step.is.ty ∙ ap (replaced s) (at_front mid new part step.kept there ∙ part_is old mid place ps so_far.kept c.requires.there c.parts.ensures.parts i lt));
    }

pub push_copy-requires-clause-there : goal.push_copy-requires-clause-there
push_copy-requires-clause-there g n c =
    let mid = types_of c.loop-i.types in
    subst (λ (xs : List ℕ). AllByRecursion (λ p. p < length mid) xs) (sym c.deref.ensures.value) c.loop-i.invariant.there

pub push_copy-requires-clause-copied : goal.push_copy-requires-clause-copied
push_copy-requires-clause-copied g n c =
    let s = g.R.Replacement.replacement c.args.by.now in
    let old = types_of c.args.types.now in
    let mid = types_of c.loop-i.types in
    let ts = parts_in (type_at old c.args.place) in
    let all : c.loop-i.i ≡ length ts = omega (arith, c.loop-i-test.false, c.loop-i.auto.i-end, parts_long old old c.args.place c.parts-count.result.now (itself old) c.requires.there c.parts-count.ensures.parts) in
    ap (λ (t : Ty). map (replaced s) (parts_in t)) (at_front old mid c.args.place c.loop-i.invariant.kept c.requires.there)
    ∙ all_copied s mid ts c.loop-i.i c.loop-i.copied.items all c.loop-i.invariant.copied
    ∙ ap (map (type_at mid)) (sym c.deref.ensures.value)

pub returns-in_err-copy-2-clause-copy : goal.returns-in_err-copy-2-clause-copy
returns-in_err-copy-2-clause-copy g n c = IfOk-from_err c.from_residual-in_err-copy-2.result _ c.from_residual-in_err-copy-2.ensures.0

pub returns-in_err-copy-2-clause-copies : goal.returns-in_err-copy-2-clause-copies
returns-in_err-copy-2-clause-copies g n c = IfOk-from_err c.from_residual-in_err-copy-2.result _ c.from_residual-in_err-copy-2.ensures.0

pub returns-in_err-copy-2-clause-once : goal.returns-in_err-copy-2-clause-once
returns-in_err-copy-2-clause-once g n c = IfOk-from_err c.from_residual-in_err-copy-2.result _ c.from_residual-in_err-copy-2.ensures.0

pub returns-in_err-copy-2-clause-kept : goal.returns-in_err-copy-2-clause-kept
returns-in_err-copy-2-clause-kept g n c = front_of_front (types_of c.args.types.now) (types_of c.loop-i.types) (types_of c.push_copy.new.types) c.loop-i.invariant.kept c.push_copy.ensures.kept

pub returns-in_err-copy-2-clause-funcs : goal.returns-in_err-copy-2-clause-funcs
returns-in_err-copy-2-clause-funcs g n c = c.push_copy.ensures.funcs ∙ c.loop-i.invariant.funcs

pub returns-in_err-insert-clause-copy : goal.returns-in_err-insert-clause-copy
returns-in_err-insert-clause-copy g n c = IfOk-from_err c.from_residual-in_err-insert.result _ c.from_residual-in_err-insert.ensures.0

pub returns-in_err-insert-clause-copies : goal.returns-in_err-insert-clause-copies
returns-in_err-insert-clause-copies g n c = IfOk-from_err c.from_residual-in_err-insert.result _ c.from_residual-in_err-insert.ensures.0

pub returns-in_err-insert-clause-once : goal.returns-in_err-insert-clause-once
returns-in_err-insert-clause-once g n c = IfOk-from_err c.from_residual-in_err-insert.result _ c.from_residual-in_err-insert.ensures.0

pub returns-in_err-insert-clause-kept : goal.returns-in_err-insert-clause-kept
returns-in_err-insert-clause-kept g n c = front_of_front (types_of c.args.types.now) (types_of c.loop-i.types) (types_of c.push_copy.new.types) c.loop-i.invariant.kept c.push_copy.ensures.kept

pub returns-in_err-insert-clause-funcs : goal.returns-in_err-insert-clause-funcs
returns-in_err-insert-clause-funcs g n c = c.push_copy.ensures.funcs ∙ c.loop-i.invariant.funcs

pub returns-in_err-copy-clause-copy : goal.returns-in_err-copy-clause-copy
returns-in_err-copy-clause-copy g n c = IfOk-from_err c.from_residual-in_err-copy.result _ c.from_residual-in_err-copy.ensures.0

pub returns-in_err-copy-clause-copies : goal.returns-in_err-copy-clause-copies
returns-in_err-copy-clause-copies g n c = IfOk-from_err c.from_residual-in_err-copy.result _ c.from_residual-in_err-copy.ensures.0

pub returns-in_err-copy-clause-once : goal.returns-in_err-copy-clause-once
returns-in_err-copy-clause-once g n c = IfOk-from_err c.from_residual-in_err-copy.result _ c.from_residual-in_err-copy.ensures.0

pub returns-in_err-copy-clause-kept : goal.returns-in_err-copy-clause-kept
returns-in_err-copy-clause-kept g n c = front_of_front (types_of c.args.types.now) (types_of c.loop-i.types) (types_of c.copy_at.new.types) c.loop-i.invariant.kept c.copy_at.ensures.kept

pub returns-in_err-copy-clause-funcs : goal.returns-in_err-copy-clause-funcs
returns-in_err-copy-clause-funcs g n c = c.copy_at.ensures.funcs ∙ c.loop-i.invariant.funcs

pub returns-in_err-push-clause-copy : goal.returns-in_err-push-clause-copy
returns-in_err-push-clause-copy g n c = IfOk-from_err c.from_residual-in_err-push.result _ c.from_residual-in_err-push.ensures.0

pub returns-in_err-push-clause-copies : goal.returns-in_err-push-clause-copies
returns-in_err-push-clause-copies g n c = IfOk-from_err c.from_residual-in_err-push.result _ c.from_residual-in_err-push.ensures.0

pub returns-in_err-push-clause-once : goal.returns-in_err-push-clause-once
returns-in_err-push-clause-once g n c = IfOk-from_err c.from_residual-in_err-push.result _ c.from_residual-in_err-push.ensures.0

pub returns-in_err-push-clause-kept : goal.returns-in_err-push-clause-kept
returns-in_err-push-clause-kept g n c =
    let old = types_of c.args.types.now in
    let mid = types_of c.loop-i.types in
    elim c.if-summary.branch [
      | then-summary+in_ok-copy w ↦ subst (λ (ts : List Ty). BeginsWith ts old) (sym (ap types_of w.types-is)) (front_of_front old mid (types_of w.copy_at.new.types) c.loop-i.invariant.kept w.copy_at.ensures.kept)
      | else-summary w ↦ subst (λ (ts : List Ty). BeginsWith ts old) (sym (ap types_of w.types-is)) c.loop-i.invariant.kept
    ]

pub returns-in_err-push-clause-funcs : goal.returns-in_err-push-clause-funcs
returns-in_err-push-clause-funcs g n c = elim c.if-summary.branch [
  | then-summary+in_ok-copy w ↦ ap funcs_of w.types-is ∙ w.copy_at.ensures.funcs ∙ c.loop-i.invariant.funcs
  | else-summary w ↦ ap funcs_of w.types-is ∙ c.loop-i.invariant.funcs
]

pub returns-clause-copy : goal.returns-clause-copy
returns-clause-copy g n c = c.in_ok-copy-2.ensures.copy

pub returns-clause-copies : goal.returns-clause-copies
returns-clause-copies g n c =
    let s = g.R.Replacement.replacement c.args.by.now in
    let mid = types_of c.loop-i.types in
    let new = types_of c.push_copy.new.types in
    copies_more s new (get nat_cmp c.loop-i.copies) (get nat_cmp c.insert.new.self) c.args.place c.in_ok-copy-2.copy c.in_ok-insert.ensures.updates.1 c.in_ok-insert.ensures.updates.2 c.in_ok-copy-2.ensures.copy
    (copies_stay s mid new (get nat_cmp c.loop-i.copies) c.push_copy.ensures.kept c.loop-i.invariant.copies)

pub returns-clause-once : goal.returns-clause-once
returns-clause-once g n c =
    let s = g.R.Replacement.replacement c.args.by.now in
    let old = types_of c.args.types.now in
    let mid = types_of c.loop-i.types in
    let new = types_of c.push_copy.new.types in
    let unknown : get nat_cmp c.args.copies.now c.args.place ≡ None = sym c.in_default.ensures.value in
    last_once s old mid new (get nat_cmp c.args.copies.now) (get nat_cmp c.loop-i.copies) (get nat_cmp c.insert.new.self) c.args.place c.in_ok-copy-2.copy (replaced s (type_at mid c.args.place))
    c.requires.there c.loop-i.invariant.once c.in_ok-copy-2.ensures.pushed (ap (replaced s) (at_front old mid c.args.place c.loop-i.invariant.kept c.requires.there)) unknown c.in_ok-insert.ensures.updates.1 c.in_ok-insert.ensures.updates.2

pub returns-clause-kept : goal.returns-clause-kept
returns-clause-kept g n c = front_of_front (types_of c.args.types.now) (types_of c.loop-i.types) (types_of c.push_copy.new.types) c.loop-i.invariant.kept c.push_copy.ensures.kept

pub returns-clause-funcs : goal.returns-clause-funcs
returns-clause-funcs g n c = c.push_copy.ensures.funcs ∙ c.loop-i.invariant.funcs
