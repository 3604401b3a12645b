-- The loop over custom sections.
use Rattle.std.proofs.Common.{◌≡◌, ℕ, ◌<◌, List, [], ◌∷◌, ◌++◌, length, map, Result, Ok, ap, arith}
use Rattle.std.proofs.lemmas.List.{map_push, length-append}
use Rattle.std.specs.Borrow.{Bor}
use Rattle.cm_binary_grammar.specs.declared.fault.Fault.{Fault}
use Rattle.cm_binary_grammar.specs.declared.fault.End.{End}
use Rattle.cm_binary_grammar.specs.declared.fault.ReadError.{ReadError}
use Rattle.cm_binary_grammar.specs.Faults.{Fails}
use Rattle.cm_binary_grammar.specs.Whole.{to_end}
use Rattle.cm_binary_grammar.proofs.Tools.{IsBytes-after}
use Rattle.cm_binary_grammar.proofs.ReadingLaws.{with_each, to_end_more, to_end_fails}
use Rattle.cm_bundle.specs.declared.fault.BundleReason.{BundleReason}
use Rattle.cm_bundle.specs.Grammar.{Production, custom}
use Rattle.cm_bundle.proofs.LawfulBundle.{custom_lawful, custom_nonempty}
use Rattle.cm_lemmas.proofs.Lists.{IsBytes}

abbrev pub Contents : Type 0
Contents = Bor (List ℕ)

abbrev pub seen : Contents → List ℕ
seen c = c.now

abbrev pub one : Unit {0} → Production (List ℕ)
one s = custom

abbrev pub same : Unit {0} → List ℕ → Unit {0}
same s x = s

pub custom_shorter : (e : End BundleReason) (bytes : List ℕ) (x : List ℕ) (behind : List ℕ) → IsBytes bytes → custom.reads e bytes ≡ Ok (x, behind) → length behind < length bytes
custom_shorter e bytes x behind fits h =
    let t = custom_lawful.takes e bytes x behind fits h in
    omega (arith, custom_nonempty x t.front t.spells, length-append t.front behind, ap length t.parts)

pub custom_behind : (e : End BundleReason) (bytes : List ℕ) (x : List ℕ) (behind : List ℕ) → IsBytes bytes → custom.reads e bytes ≡ Ok (x, behind) → IsBytes behind
custom_behind e bytes x behind fits h =
    let t = custom_lawful.takes e bytes x behind fits h in
    IsBytes-after bytes t.front behind t.parts fits

pub customs_more : (items pushed : List Contents) (x : Contents) (e behind_e : End BundleReason) (bytes behind : List ℕ) (total : Result (List (List ℕ)) (Fault BundleReason))
    → pushed ≡ items ++ x ∷ [] → behind_e ≡ e → IsBytes bytes → 0 < length bytes
    → custom.reads e bytes ≡ Ok (seen x, behind)
    → with_each (map seen items) ((to_end one same tt).reads e bytes) ≡ total
    → with_each (map seen pushed) ((to_end one same tt).reads behind_e behind) ≡ total
customs_more items pushed x e behind_e bytes behind total push also fits some h so_far =
    let more = to_end_more one same (λ s. custom_lawful) (λ s. custom_nonempty) (map seen items) tt e bytes (seen x) behind total fits some h so_far in
    rw (push, map_push seen items x, also) more

pub customs_fail : (items : List Contents) (e : End BundleReason) (bytes : List ℕ) (err : ReadError BundleReason) (total : Result (List (List ℕ)) (Fault BundleReason))
    → 0 < length bytes → Fails err (custom.reads e bytes)
    → with_each (map seen items) ((to_end one same tt).reads e bytes) ≡ total → Fails err total
customs_fail items e bytes err total some h so_far = to_end_fails one same (λ s. custom_lawful) (λ s. custom_nonempty) (map seen items) tt e bytes err total some h so_far
