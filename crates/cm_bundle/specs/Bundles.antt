-- Bundles: their one spelling, which bytes are one, and the first fault of others.
use Rattle.std.specs.Prelude.{◌≡◌, ℕ, ◌+◌, ◌-◌, ◌^◌, ◌≤◌, ◌<◌, ◌⊎◌, List, [], ◌++◌, length, ◌==◌}
use Rattle.std.specs.Prelude.{Bool, true, false}
use Rattle.std.specs.List.{flat_map}
use Rattle.cm_binary_grammar.specs.declared.fault.End.TheVariants as end
use Rattle.cm_binary_grammar.specs.Faults.{flaw}
use Rattle.cm_binary_grammar.specs.Grammar.{done, ◌>>=◌, ahead, fixed}
use Rattle.cm_binary_grammar.specs.Whole.{Whole, build, join}
use Rattle.cm_bundle.specs.declared.form.TheConstants.{BUNDLE_PREAMBLE, MAX_PARTS}
use Rattle.cm_bundle.specs.declared.fault.BundleReason.{BundleReason}
use Rattle.cm_bundle.specs.declared.fault.BundleReason.TheVariants as reasons
use Rattle.cm_bundle.specs.Trees.{GroupTree, ContentTree, BundleTree}
use Rattle.cm_bundle.specs.Spelled.{body_spelled, custom_spelled, AreSupplied}
use Rattle.cm_bundle.specs.Grammar.{Production, body, customs}
use Rattle.cm_bundle.specs.Fronts.{front, front_spelled, spaces_behind, AreGroups}

-- ---- the spelling

-- A bundle: the preamble of components, what it imports, the parts, the exports, the custom
-- sections.
unfoldable pub spelled : BundleTree → List ℕ
spelled b = BUNDLE_PREAMBLE ++ (front_spelled b.front
    ++ (body_spelled (spaces_behind b.front) b.parts b.exports
    ++ flat_map custom_spelled b.customs))

-- A bundle of no more parts than it may have, which imports functions and instances, provides
-- before it uses, and whose size is a number of 32 bits.
pub record IsBundle (b : BundleTree) : Type 0 where
  pub few : length b.parts ≤ MAX_PARTS
  pub front : AreGroups b.front
  pub supplied : AreSupplied (length (spaces_behind b.front).places) b.parts b.exports
  pub short : length (spelled b) < 2 ^ 32

-- ---- the grammar

-- The parts and the exports behind this front.
unfoldable pub behind_front : List GroupTree → Production ContentTree
behind_front gs = do
  b ← body (MAX_PARTS + 1) (spaces_behind gs)
  done (record { front = gs; body = b })

-- A front and what stands behind it.
unfoldable pub open_content : Production ContentTree
open_content = front >>= behind_front

-- What stands in an open bundle, or in a closed one.
abbrev pub content_of : Bool → Production ContentTree
content_of true = open_content
content_of false = behind_front []

-- What stands in a bundle, which is open where it begins with a section of types.
unfoldable pub content : Production ContentTree
content = ahead (λ b. content_of (b == 0x07))

-- What stands behind the preamble.
abbrev pub behind_preamble : Whole BundleReason BundleTree
behind_preamble = join content (λ c. build (λ cs. record {
  front = c.front;
  parts = c.body.parts;
  exports = c.body.exports;
  customs = cs;
}) customs)

-- A bundle: all the bytes.
unfoldable pub bundle : Whole BundleReason BundleTree
bundle = join (fixed BUNDLE_PREAMBLE reasons.BadPreamble) (λ preamble. behind_preamble)

-- The bytes are no bundle, and this is their first fault, met reading byte after byte.
abbrev pub FirstFault : List ℕ → ℕ → BundleReason → Type 0
FirstFault bytes at reason =
    ((2 ^ 32 ≤ length bytes) × (at ≡ 2 ^ 32 - 1) × (reason ≡ reasons.TooLong))
    ⊎ ((length bytes < 2 ^ 32) × ((left : ℕ) × (at + left ≡ length bytes)
    × bundle.Faulty (end.Cut reasons.Truncated) bytes (flaw left reason)))
