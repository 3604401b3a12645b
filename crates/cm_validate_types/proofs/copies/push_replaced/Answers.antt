use Rattle.std.proofs.Common.{◌≡◌, ℕ, ◌+◌, ◌<◌, Bool, None, true, false, length, refl, sym, ap, ◌∙◌}
use mathlib.Core.Bool.{not, true≢false}
use Rattle.std.specs.BTreeMap.{get}
use Rattle.std.specs.Ordering.{nat_cmp}
use Rattle.std.proofs.lemmas.Result.{IfOk-weaker}
use Rattle.cm_types.specs.Holds.{holds, is_handle}
use Rattle.cm_types_arena.specs.Places.{funcs_of, types_of}
use Rattle.cm_types_arena.specs.TypeDefs.{type_at}
use Rattle.cm_types_arena.specs.declared.summaries.Summary.{Summary}
use Rattle.cm_types_arena.specs.Replaced.{replaced}
use Rattle.cm_validate_types.specs.Copies.{IsCopy}
use Rattle.cm_validate_types.proofs.CopyLaws.{at_front, itself}
use Rattle.cm_validate_types.proofs.OnceLaws.{nothing_once, once_alone}
use Rattle.cm_validate_types.proofs.copies.push_replaced.Goals as goal

not_true : (b : Bool) → not b ≡ true → b ≡ false
not_true false e = refl
not_true true e = absurd (true≢false (sym e))

pub returns-then-not-summary-clause-there : goal.returns-then-not-summary-clause-there
returns-then-not-summary-clause-there g c = c.requires

pub returns-then-not-summary-clause-copied : goal.returns-then-not-summary-clause-copied
returns-then-not-summary-clause-copied g c =
    let t = type_at (types_of c.args.types.now) c.args.place in
    let told : c.summary.result.holds_handle ≡ false = not_true c.summary.result.holds_handle c.if-not-summary.true in
    let plain : holds is_handle t ≡ false = sym (ap (λ (x : Summary). x.holds_handle) c.summary.ensures) ∙ told in
    sym (c.replacing.ensures.without_handles (g.R.Replacement.replacement c.args.by.now) t plain)

pub returns-then-not-summary-clause-itself : goal.returns-then-not-summary-clause-itself
returns-then-not-summary-clause-itself g c = λ plain. refl {a = c.args.place}

pub returns-then-not-summary-clause-none : goal.returns-then-not-summary-clause-none
returns-then-not-summary-clause-none g c = λ plain. refl {a = types_of c.args.types.now}

pub returns-then-not-summary-clause-once : goal.returns-then-not-summary-clause-once
returns-then-not-summary-clause-once g c = (nothing_once (g.R.Replacement.replacement c.args.by.now) (types_of c.args.types.now) (λ (p : ℕ). None) (c.args.place + 1)).once

pub returns-then-not-summary-clause-kept : goal.returns-then-not-summary-clause-kept
returns-then-not-summary-clause-kept g c = itself (types_of c.args.types.now)

pub returns-then-not-summary-clause-funcs : goal.returns-then-not-summary-clause-funcs
returns-then-not-summary-clause-funcs g c = refl {a = funcs_of c.args.types.now}

pub returns-clause-there : goal.returns-clause-there
returns-clause-there g c =
    let s = g.R.Replacement.replacement c.args.by.now in
    let new = types_of c.copy_at.new.types in
    let place = c.args.place in
    IfOk-weaker c.copy_at.result (λ k. IsCopy s new place k) (λ k. k < length new) (λ k x. x.copy_there) c.copy_at.ensures.copy

pub returns-clause-copied : goal.returns-clause-copied
returns-clause-copied g c =
    let s = g.R.Replacement.replacement c.args.by.now in
    let new = types_of c.copy_at.new.types in
    let place = c.args.place in
    let old = types_of c.args.types.now in
    IfOk-weaker c.copy_at.result (λ k. IsCopy s new place k) (λ k. type_at new k ≡ replaced s (type_at old place)) (λ k x. x.ty ∙ ap (replaced s) (at_front old new place c.copy_at.ensures.kept c.requires)) c.copy_at.ensures.copy

pub returns-clause-itself : goal.returns-clause-itself
returns-clause-itself g c = λ plain.
    let told : c.summary.result.holds_handle ≡ false = ap (λ (x : Summary). x.holds_handle) c.summary.ensures ∙ plain in
    absurd (true≢false (sym (ap not told) ∙ c.if-not-summary.false))

pub returns-clause-none : goal.returns-clause-none
returns-clause-none g c = λ plain.
    let told : c.summary.result.holds_handle ≡ false = ap (λ (x : Summary). x.holds_handle) c.summary.ensures ∙ plain in
    absurd (true≢false (sym (ap not told) ∙ c.if-not-summary.false))

pub returns-clause-once : goal.returns-clause-once
returns-clause-once g c =
    once_alone c.copy_at.result (g.R.Replacement.replacement c.args.by.now) (types_of c.args.types.now) (types_of c.copy_at.new.types) (get nat_cmp c.new-copies.result) (get nat_cmp c.copy_at.new.copies) (c.args.place + 1) c.copy_at.ensures.once

pub returns-clause-kept : goal.returns-clause-kept
returns-clause-kept g c = c.copy_at.ensures.kept

pub returns-clause-funcs : goal.returns-clause-funcs
returns-clause-funcs g c = c.copy_at.ensures.funcs
