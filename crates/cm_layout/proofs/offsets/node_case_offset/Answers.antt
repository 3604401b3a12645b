use Rattle.std.proofs.Common.{◌≡◌, ◌∙◌, ap, arith, codes, refl, vec_len}
use Rattle.cm_types.specs.TypeTrees.{case_before, type_of, cases_of, shared_payload}
use Rattle.cm_types.specs.Types.{no_cases, plain, carrying}
use Rattle.cm_layout.specs.Sizes.{case_count, discriminant_size}
use Rattle.cm_layout.proofs.AlignLemmas.{count_of_cases}
use Rattle.cm_layout.proofs.SizeLemmas.{two_cases}
use Rattle.cm_layout.proofs.HeadLaws.{one_greatest, both_greatest}
use Rattle.cm_layout.proofs.OffsetLaws.{variant_offset, enum_offset}
use Rattle.cm_layout.proofs.offsets.node_case_offset.Goals as goal
use Rattle.cm_types.proofs.Seen.{seen_Enum, seen_Option, seen_Result, seen_Variant}

pub returns-in-Variant : goal.returns-in-Variant
returns-in-Variant c =
    let v = c.in-Variant.cases.value in
    let count : c.len.result ≡ case_count (cases_of v.items) = omega (arith, c.len.ensures ∙ ap vec_len c.deref-in-Variant-2.ensures, v.ok.0, count_of_cases v.items) in
    let g = rw (c.deref-in-Variant.ensures.value, c.deref.ensures) at c.cases_so_far.ensures in
    rw (ap type_of c.in-Variant.is ∙ seen_Variant c.in-Variant.cases)
    (variant_offset (cases_of v.items) c.offset.result c.discriminant_size.result c.cases_so_far.result.align c.offset.ensures.value
    (c.discriminant_size.ensures.value ∙ ap discriminant_size count) g.align)

pub returns-in-Enum : goal.returns-in-Enum
returns-in-Enum c =
    let v = c.in-Enum.labels.value in
    rw (ap type_of c.in-Enum.is ∙ seen_Enum c.in-Enum.labels)
    (enum_offset c.discriminant_size-in-Enum.result c.len-in-Enum.result v.items c.discriminant_size-in-Enum.ensures.value (omega (arith, c.len-in-Enum.ensures ∙ ap vec_len c.deref-in-Enum.ensures, v.ok.0)))

pub returns-in-Option : goal.returns-in-Option
returns-in-Option c =
    let t = type_of c.in-Option.some.value in
    let k = rw c.deref-in-Option.ensures at c.node_head.ensures in
    let g = one_greatest (codes "none") (codes "some") t c.node_head.result c.none.result c.with.result c.none.ensures k c.with.ensures.size c.with.ensures.align c.with.ensures.width in
    rw (ap type_of c.in-Option.is ∙ seen_Option c.in-Option.some)
    (variant_offset (plain (codes "none") (carrying (codes "some") t no_cases)) c.offset-in-Option.result 1 c.with.result.align c.offset-in-Option.ensures.value refl g.align)

pub returns-in-Result : goal.returns-in-Result
returns-in-Result c =
    let p = shared_payload c.in-Result.ok in
    let q = shared_payload c.in-Result.error in
    let b = c.beside.ensures in
    let g = both_greatest (codes "ok") (codes "error") (codes "") (codes "") p q c.shared_so_far.result c.shared_so_far-in-Result.result c.beside.result c.shared_so_far.ensures c.shared_so_far-in-Result.ensures b.size b.align b.width in
    rw (ap type_of c.in-Result.is ∙ seen_Result c.in-Result.ok c.in-Result.error)
    (variant_offset (case_before (codes "ok") p (case_before (codes "error") q no_cases)) c.offset-in-Result.result 1 c.beside.result.align c.offset-in-Result.ensures.value (two_cases (codes "ok") (codes "error") p q) g.align)
