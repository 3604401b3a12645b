-- The requests for parts that were scanned: tags are read of strings that have them alone.
use Rattle.std.proofs.Common.{◌≡◌, Bool, List, [], ◌∷◌, ◌++◌, ap, refl, subst, sym}
use Rattle.cm_types.specs.Types.{Fields}
use Rattle.cm_types.specs.Values.{Val}
use Rattle.cm_handles.specs.Handles.{Handles}
use Rattle.cm_abi_model.specs.declared.encoding.StringEncoding.{StringEncoding}
use Rattle.cm_abi_model.specs.declared.encoding.StringEncoding.TheVariants as encoding
use Rattle.cm_abi_model.specs.Parts.{Part}
use Rattle.cm_abi_model.specs.Requests.{call_parts, chain, part_align, part_requests, part_sizes, stored_charset, tags_behind}
use Rattle.cm_abi_model.specs.Texts.{utf8, utf16}
use Rattle.cm_abi_model.specs.Views.{View}
use Rattle.cm_abi_model.specs.Ways.{way_of}
use Rattle.cm_abi_model.specs.Telling.{TellAll}
use Rattle.cm_abi_model.specs.CallPlaces.{call_places}

utf8_tags : (target : StringEncoding) (parts : List Part) (xs ys : List Bool) → part_requests encoding.Utf8 target xs parts ≡ part_requests encoding.Utf8 target ys parts
utf8_tags target [] xs ys = refl
utf8_tags target (p ∷ ps) xs ys = ap (λ l. chain (part_align target p) (part_sizes utf8 (stored_charset target) p) ++ l) (utf8_tags target ps (tags_behind p xs) (tags_behind p ys))

utf16_tags : (target : StringEncoding) (parts : List Part) (xs ys : List Bool) → part_requests encoding.Utf16 target xs parts ≡ part_requests encoding.Utf16 target ys parts
utf16_tags target [] xs ys = refl
utf16_tags target (p ∷ ps) xs ys = ap (λ l. chain (part_align target p) (part_sizes utf16 (stored_charset target) p) ++ l) (utf16_tags target ps (tags_behind p xs) (tags_behind p ys))

pub same_requests : (e target : StringEncoding) (parts : List Part) (xs ys : List Bool) → (e ≡ encoding.Latin1OrUtf16 → xs ≡ ys) → part_requests e target xs parts ≡ part_requests e target ys parts
same_requests encoding.Utf8 target parts xs ys same = utf8_tags target parts xs ys
same_requests encoding.Utf16 target parts xs ys same = utf16_tags target parts xs ys
same_requests encoding.Latin1OrUtf16 target parts xs ys same = ap (λ tags. part_requests encoding.Latin1OrUtf16 target tags parts) (same refl)
