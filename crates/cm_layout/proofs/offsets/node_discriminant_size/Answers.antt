use Rattle.std.proofs.Common.{◌≡◌, ◌∙◌, ap, arith, vec_len}
use Rattle.cm_types.specs.TypeTrees.{type_of, cases_of, plain_from}
use Rattle.cm_layout.specs.Sizes.{case_count, discriminant_size}
use Rattle.cm_layout.proofs.AlignLemmas.{count_of_cases, count_plain}
use Rattle.cm_layout.proofs.offsets.node_discriminant_size.Goals as goal
use Rattle.cm_types.proofs.Seen.{seen_Enum, seen_Variant}

pub returns-in-Variant : goal.returns-in-Variant
returns-in-Variant c =
    let v = c.in-Variant.cases.value in
    let count : c.len.result ≡ case_count (cases_of v.items) = omega (arith, c.len.ensures ∙ ap vec_len c.deref.ensures, v.ok.0, count_of_cases v.items) in
    rw (ap type_of c.in-Variant.is ∙ seen_Variant c.in-Variant.cases) (c.discriminant_size.ensures.value ∙ ap discriminant_size count)

pub returns-in-Enum : goal.returns-in-Enum
returns-in-Enum c =
    let v = c.in-Enum.labels.value in
    let count : c.len-in-Enum.result ≡ case_count (plain_from v.items) = omega (arith, c.len-in-Enum.ensures ∙ ap vec_len c.deref-in-Enum.ensures, v.ok.0, count_plain v.items) in
    rw (ap type_of c.in-Enum.is ∙ seen_Enum c.in-Enum.labels) (c.discriminant_size-in-Enum.ensures.value ∙ ap discriminant_size count)
