-- A plan in buffers.
use Rattle.std.proofs.Common.{◌≡◌, ◌∙◌, ◌++◌, ℕ, List, [], ◌∷◌, ap, length, map, refl, subst}
use Rattle.std.specs.List.{flat_map}
use Rattle.cm_binary_model.specs.Trees.{SectionTree}
use Rattle.cm_lemmas.proofs.Lists.{map_length, mapped_twice}
use Rattle.huxarte_c_calls.specs.Texts.{written}
use Rattle.huxarte_c_components.specs.Sound.{StandsFor}
use Rattle.huxarte_c_components.specs.Plans.{IsTold, IsToldOf, part_tree, plan_of, row_of, texts_of}
use Rattle.huxarte_c_components.specs.declared.plan_part.HuxPlan.{HuxPlan}
use Rattle.huxarte_c_components.specs.declared.plan_part.HuxPlanPart.{HuxPlanPart}
use Rattle.huxarte_c_components.specs.declared.plan_part.Part.{Part}

bytes_twice : (parts : List Part) → flat_map (λ p. p.bytes.now) parts ≡ texts_of (map part_tree parts)
bytes_twice [] = refl
bytes_twice (p ∷ ps) = ap (λ (xs : List ℕ). p.bytes.now ++ xs) (bytes_twice ps)

-- the parts of a plan, their rows and their bytes, as far as there is room for them
pub told : (sections : List SectionTree) (parts : List Part) (rows : List HuxPlanPart) (texts : List ℕ) (plan : HuxPlan) (room after : List HuxPlanPart) (bytes bytes_after : List ℕ)
    → map part_tree parts ≡ plan_of sections → rows ≡ map (λ p. row_of (part_tree p)) parts → texts ≡ flat_map (λ p. p.bytes.now) parts
    → plan.parts ≡ length rows → plan.bytes ≡ length texts → after ≡ written room rows → bytes_after ≡ written bytes texts
    → IsTold sections plan room after bytes bytes_after
told sections parts rows texts plan room after bytes bytes_after are rows_are texts_are count size put put_bytes =
    let all : rows ≡ map row_of (plan_of sections) = rows_are ∙ mapped_twice row_of part_tree parts ∙ ap (map row_of) are in
    let both : texts ≡ texts_of (plan_of sections) = texts_are ∙ bytes_twice parts ∙ ap texts_of are in
    record {
      parts = count ∙ ap length all ∙ map_length row_of (plan_of sections);
      bytes = size ∙ ap length both;
      rows_are = put ∙ ap (written room) all;
      texts_are = put_bytes ∙ ap (written bytes) both;
    }

-- the plan of the component that a file stands for
pub told_of : (file : List ℕ) (held sections : List SectionTree) (plan : HuxPlan) (room after : List HuxPlanPart) (bytes bytes_after : List ℕ)
    → StandsFor file held → sections ≡ held → IsTold sections plan room after bytes bytes_after → IsToldOf file plan room after bytes bytes_after
told_of file held sections plan room after bytes bytes_after stands same is =
    (held, stands, subst (λ (c : List SectionTree). IsTold c plan room after bytes bytes_after) same is)
