-- Laws of what Requests defines, for this crate and those above it.
use Rattle.std.proofs.Common.{ℕ, List, ◌++◌, ◌≡◌, true, refl, [], ◌*◌, Bool, ◌∷◌}
use Rattle.std.specs.Prelude.{nat_lt}
use Rattle.cm_abi_model.specs.Answering.{begins_part}
use Rattle.cm_abi_model.specs.Parts.{Part, text_part, element_part}
use Rattle.cm_abi_model.specs.Requests.{chain, text_sizes, shrunk, part_sizes, part_requests, part_align, tags_behind, read_charset, first_tag, stored_charset}
use Rattle.cm_abi_model.specs.Texts.{Charset, utf8, utf16, latin1}
use Rattle.cm_abi_model.specs.declared.encoding.StringEncoding.{StringEncoding}
use Rattle.cm_abi_model.specs.declared.request.Request.{Request}
use Rattle.cm_lemmas.proofs.Lists.{Some1, shrunk_some, grown_some}

pub begins : (align : ℕ) (sizes : List ℕ) (rest : List Request) → Some1 sizes → begins_part (chain align sizes ++ rest) ≡ true
begins align sizes rest some = rw some.1.1 refl

pub text_some_there : (s t : Charset) (units exact : ℕ) → Some1 (text_sizes s t units exact)
text_some_there utf8 utf8 units exact = (exact, ([], refl))
text_some_there utf8 utf16 units exact = shrunk_some (2 * units) exact (nat_lt exact (2 * units))
text_some_there utf8 latin1 units exact = (exact, ([], refl))
text_some_there utf16 utf8 units exact = grown_some units (shrunk (3 * units) exact) (nat_lt units exact)
text_some_there utf16 utf16 units exact = (exact, ([], refl))
text_some_there utf16 latin1 units exact = (exact, ([], refl))
text_some_there latin1 utf8 units exact = grown_some units (shrunk (2 * units) exact) (nat_lt units exact)
text_some_there latin1 utf16 units exact = (exact, ([], refl))
text_some_there latin1 latin1 units exact = (exact, ([], refl))

pub sizes_some : (s t : Charset) (p : Part) → Some1 (part_sizes s t p)
sizes_some s t (text_part cs) = text_some_there s t _ _
sizes_some s t (element_part count size align) = (count * size, ([], refl))

pub starts : (source target : StringEncoding) (tags : List Bool) (parts : List Part) → begins_part (part_requests source target tags parts) ≡ true
starts source target tags [] = refl
starts source target tags (p ∷ ps) = begins (part_align target p) _ (part_requests source target (tags_behind p tags) ps) (sizes_some (read_charset source (first_tag tags)) (stored_charset target) p)
