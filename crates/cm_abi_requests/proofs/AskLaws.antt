-- The requests by records are those for the parts that they tell.
use Rattle.std.proofs.Common.{◌≡◌, ℕ, ◌^◌, ◌<◌, ◌≤◌, Bool, List, [], ◌∷◌, ◌++◌, refl, ap, sym, ◌∙◌, arith}
use Rattle.cm_abi_model.specs.declared.encoding.StringEncoding.{StringEncoding}
use Rattle.cm_abi_model.specs.declared.encoding.StringEncoding.TheVariants as encoding
use Rattle.cm_abi_model.specs.Parts.{Part, text_part, element_part}
use Rattle.cm_abi_model.specs.Regions.{part_size}
use Rattle.cm_abi_model.specs.Requests.{IsStored, chain, read_charset, first_tag, part_align, part_requests, part_sizes, stored_charset, tags_behind, text_sizes, text_units}
use Rattle.cm_abi_model.specs.Taken.{MAX_CONTENT}
use Rattle.cm_abi_model.specs.Views.{View}
use Rattle.cm_abi_requests.specs.Asking.{content_of_parts, part_content}
use Rattle.cm_abi_model.specs.declared.record.PartKind.{PartKind}
use Rattle.cm_abi_model.specs.declared.record.PartKind.TheVariants as kind
use Rattle.cm_abi_model.specs.declared.record.PartRecord.{PartRecord}
use Rattle.cm_abi_model.specs.Telling.{TellAll, TellsSource}
use Rattle.cm_abi_model.specs.RecordRequests.{AreAskable, IsCounted, kind_sizes, requests_for, tag_before, tags_of}
use Rattle.cm_abi_requests.proofs.TextUnits.{bytes_within, units_within}

-- ---- one part

same_sizes : (w : View) (target : StringEncoding) (r : PartRecord) (k : PartKind) (part : Part) (tags : List Bool) → TellsSource w r k part → r.size ≡ part_size target part
    → kind_sizes w.encoding target k r.count r.size ≡ part_sizes (read_charset w.encoding (first_tag (tag_before k tags))) (stored_charset target) part
same_sizes w target r (kind.Text tag) (text_part cs) tags told size =
    ap (λ n. text_sizes (read_charset w.encoding tag) (stored_charset target) n r.size) told.units
    ∙ ap (λ n. text_sizes (read_charset w.encoding tag) (stored_charset target) (text_units (read_charset w.encoding tag) cs) n) size
same_sizes w target r kind.Elements (element_part count size align) tags told is = ap (λ n. n ∷ []) is
same_sizes w target r kind.Elements (text_part cs) tags told is = absurd told
same_sizes w target r (kind.Text tag) (element_part count size align) tags told is = absurd told

tags_there : (w : View) (r : PartRecord) (k : PartKind) (part : Part) (tags : List Bool) → TellsSource w r k part → tags_behind part (tag_before k tags) ≡ tags
tags_there w r (kind.Text tag) (text_part cs) tags told = refl
tags_there w r kind.Elements (element_part count size align) tags told = refl
tags_there w r kind.Elements (text_part cs) tags told = absurd told
tags_there w r (kind.Text tag) (element_part count size align) tags told = absurd told

-- ---- all parts

pub asks_for : (w : View) (target : StringEncoding) (rs : List PartRecord) (parts : List Part) (places : List ℕ) → TellAll w target rs parts places
    → requests_for w.encoding target rs ≡ part_requests w.encoding target (tags_of rs) parts
asks_for w target [] [] [] told = refl
asks_for w target (r ∷ rs) (p ∷ ps) (m ∷ ms) told =
    let tags = tag_before r.kind (tags_of rs) in
    let sizes = same_sizes w target r r.kind p (tags_of rs) told.0.source told.0.size in
    let behind = tags_there w r r.kind p (tags_of rs) told.0.source in
    let rest : requests_for w.encoding target rs ≡ part_requests w.encoding target (tags_behind p tags) ps =
    asks_for w target rs ps ms told.1 ∙ ap (λ ts. part_requests w.encoding target ts ps) (sym behind) in
    ap (λ n. chain n (kind_sizes w.encoding target r.kind r.count r.size) ++ requests_for w.encoding target rs) told.0.align
    ∙ (ap (λ ss. chain (part_align target p) ss ++ requests_for w.encoding target rs) sizes
    ∙ ap (λ qs. chain (part_align target p) (part_sizes (read_charset w.encoding (first_tag tags)) (stored_charset target) p) ++ qs) rest)
asks_for w target [] [] (m ∷ ms) told = absurd told
asks_for w target [] (p ∷ ps) ms told = absurd told
asks_for w target (r ∷ rs) [] ms told = absurd told
asks_for w target (r ∷ rs) (p ∷ ps) [] told = absurd told

-- where strings are stored, tags say nothing
untagged : (e : StringEncoding) (a b : Bool) → IsStored e → read_charset e a ≡ read_charset e b
untagged encoding.Utf8 a b stored = refl
untagged encoding.Utf16 a b stored = refl
untagged encoding.Latin1OrUtf16 a b stored = absurd stored

same_requests : (e target : StringEncoding) (ts us : List Bool) (ps : List Part) → IsStored e → part_requests e target ts ps ≡ part_requests e target us ps
same_requests e target ts us [] stored = refl
same_requests e target ts us (p ∷ ps) stored =
    ap (λ s. chain (part_align target p) (part_sizes s (stored_charset target) p) ++ part_requests e target (tags_behind p ts) ps) (untagged e (first_tag ts) (first_tag us) stored)
    ∙ ap (λ qs. chain (part_align target p) (part_sizes (read_charset e (first_tag us)) (stored_charset target) p) ++ qs) (same_requests e target (tags_behind p ts) (tags_behind p us) ps stored)

pub asks_untagged : (w : View) (target : StringEncoding) (rs : List PartRecord) (parts : List Part) (places : List ℕ) (tags : List Bool) → TellAll w target rs parts places → IsStored w.encoding
    → requests_for w.encoding target rs ≡ part_requests w.encoding target tags parts
asks_untagged w target rs parts places tags told stored = asks_for w target rs parts places told ∙ same_requests w.encoding target (tags_of rs) tags parts stored

-- ---- small parts

record_counted : (w : View) (r : PartRecord) (k : PartKind) (part : Part) (tags : List Bool) → TellsSource w r k part → part_content (read_charset w.encoding (first_tag tags)) part ≤ MAX_CONTENT
    → IsCounted k r.count
record_counted w r (kind.Text tag) (text_part cs) tags told small =
    let few = units_within (read_charset w.encoding (first_tag tags)) (read_charset w.encoding tag) cs small in
    let is = told.units in
    omega (arith, few, is)
record_counted w r kind.Elements (element_part count size align) tags told small = tt
record_counted w r kind.Elements (text_part cs) tags told small = absurd told
record_counted w r (kind.Text tag) (element_part count size align) tags told small = absurd told

small_size : (target : StringEncoding) (e : StringEncoding) (part : Part) (tags : List Bool) → part_content (read_charset e (first_tag tags)) part ≤ MAX_CONTENT → part_size target part < 2 ^ 32
small_size target e (text_part cs) tags small = let most = bytes_within (read_charset e (first_tag tags)) (stored_charset target) cs small in omega (arith, most)
small_size target e (element_part count size align) tags small = omega (arith, small)

pub are_askable : (w : View) (target : StringEncoding) (rs : List PartRecord) (parts : List Part) (places : List ℕ) (tags : List Bool) → TellAll w target rs parts places
    → content_of_parts w.encoding tags parts ≤ MAX_CONTENT → AreAskable rs
are_askable w target [] [] [] tags told small = tt
are_askable w target (r ∷ rs) (p ∷ ps) (m ∷ ms) tags told small =
    let here : part_content (read_charset w.encoding (first_tag tags)) p ≤ MAX_CONTENT = omega (arith, small) in
    let there : content_of_parts w.encoding (tags_behind p tags) ps ≤ MAX_CONTENT = omega (arith, small) in
    let size : part_size target p < 2 ^ 32 = small_size target w.encoding p tags here in
    let is = told.0.size in (
      record { counted = record_counted w r r.kind p tags told.0.source here; small = omega (arith, size, is); aligned = told.0.aligned },
      are_askable w target rs ps ms (tags_behind p tags) told.1 there,
    )
are_askable w target [] [] (m ∷ ms) tags told small = absurd told
are_askable w target [] (p ∷ ps) ms tags told small = absurd told
are_askable w target (r ∷ rs) [] ms tags told small = absurd told
are_askable w target (r ∷ rs) (p ∷ ps) [] tags told small = absurd told
