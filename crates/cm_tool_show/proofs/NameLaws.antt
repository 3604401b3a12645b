-- Texts that are shown part by part.
use Rattle.std.proofs.Common.{◌≡◌, ℕ, ◌+◌, ◌<◌, List, [], ◌∷◌, ◌++◌, OnOk, Result, length, map, refl, sym, ap, subst, ◌∙◌, append_assoc, append-nil, Option}
use Rattle.std.specs.Prelude.{codes}
use Rattle.cm_types.specs.ExternNames.{name_spelling, version_suffix}
use Rattle.cm_types.specs.ExternNameForms.{form_tree}
use Rattle.cm_types.specs.declared.extern_names.ExternNameForm.{ExternNameForm}
use Rattle.cm_types.specs.declared.resource.ResourceId.{ResourceId}
use Rattle.cm_tool_show.specs.Pages.{seen_on, text_on}
use Rattle.cm_tool_show.specs.Pieces.{chars, seen_behind, text_behind}
use Rattle.cm_tool_show.specs.declared.fault.ShowFault.{ShowFault}
use Rattle.cm_tool_show.specs.declared.page.Page.{Page}
use Rattle.cm_tool_show.specs.declared.page.TheConstants.{MAX_SHOWN}
use Rattle.cm_tool_show.specs.Written.{Shows}
use Rattle.cm_tool_show.proofs.ShownLaws.{pieces_put, shown_seen, shown_text}

-- texts, one behind the other
abbrev pub joined : List (List ℕ) → List ℕ
joined [] = []
joined (w ∷ ws) = w ++ joined ws

text_is : (seen : List ResourceId) (ws : List (List ℕ)) → text_behind seen (map chars ws) ≡ joined ws
text_is seen [] = refl
text_is seen (w ∷ ws) = ap (λ (z : List ℕ). w ++ z) (text_is seen ws)

none_seen : (seen : List ResourceId) (ws : List (List ℕ)) → seen_behind seen (map chars ws) ≡ seen
none_seen seen [] = refl
none_seen seen (w ∷ ws) = none_seen seen ws

-- texts that are shown one behind the other show the text that they are together
one_text : {p q : Page} {r : Result (Unit {0}) ShowFault} (ws : List (List ℕ)) (text : List ℕ) → joined ws ≡ text → Shows (map chars ws) p q r → Shows (chars text ∷ []) p q r
one_text {p} {q} {r} ws text e h =
    let is : text_behind (seen_on p) (map chars ws) ≡ text ++ [] = text_is (seen_on p) ws ∙ e ∙ sym (append-nil text) in
    pieces_put (chars text ∷ []) p q r
    (subst (λ (z : List ℕ). OnOk r (text_on q ≡ text_on p ++ z)) is (shown_text (map chars ws) p q r h))
    (subst (λ (z : List ResourceId). OnOk r (seen_on q ≡ z)) (none_seen (seen_on p) ws) (shown_seen (map chars ws) p q r h))
    (λ f. subst (λ (z : List ℕ). MAX_SHOWN < length (text_on p) + length z) is (h.over f))

-- ---- the parts of names

pub name_is : {n m : ExternNameForm} → n ≡ m → name_spelling (form_tree n) ≡ name_spelling (form_tree m)
name_is e = ap (λ (n : ExternNameForm). name_spelling (form_tree n)) e

pub member_shown : {p q : Page} {o : Result (Unit {0}) ShowFault} (w r m : List ℕ) → Shows (chars w ∷ chars r ∷ chars (codes ".") ∷ chars m ∷ []) p q o → Shows (chars (w ++ r ++ 46 ∷ m) ∷ []) p q o
member_shown w r m h = one_text (w ∷ r ∷ codes "." ∷ m ∷ []) (w ++ r ++ 46 ∷ m) (simp (append_assoc, append-nil)) h

pub constructor_shown : {p q : Page} {o : Result (Unit {0}) ShowFault} (r : List ℕ) → Shows (chars (codes "[constructor]") ∷ chars r ∷ []) p q o → Shows (chars (codes "[constructor]" ++ r) ∷ []) p q o
constructor_shown r h = one_text (codes "[constructor]" ∷ r ∷ []) (codes "[constructor]" ++ r) (simp append-nil) h

pub package_shown : {p q : Page} {o : Result (Unit {0}) ShowFault} (n k : List ℕ) → Shows (chars n ∷ chars (codes ":") ∷ chars k ∷ chars (codes "/") ∷ []) p q o → Shows (chars (n ++ 58 ∷ (k ++ 47 ∷ [])) ∷ []) p q o
package_shown n k h = one_text (n ∷ codes ":" ∷ k ∷ codes "/" ∷ []) (n ++ 58 ∷ (k ++ 47 ∷ [])) refl h

pub no_version_shown : {p q : Page} {o : Result (Unit {0}) ShowFault} → Shows [] p q o → Shows (chars [] ∷ []) p q o
no_version_shown h = one_text [] [] refl h

pub version_shown : {p q : Page} {o : Result (Unit {0}) ShowFault} (v : List ℕ) → Shows (chars (codes "@") ∷ chars v ∷ []) p q o → Shows (chars (64 ∷ v) ∷ []) p q o
version_shown v h = one_text (codes "@" ∷ v ∷ []) (64 ∷ v) (simp append-nil) h

pub interface_shown : {p q : Page} {o : Result (Unit {0}) ShowFault} (n k i : List ℕ) (v : Option (List ℕ)) → Shows (chars (n ++ 58 ∷ (k ++ 47 ∷ [])) ∷ chars i ∷ chars (version_suffix v) ∷ []) p q o → Shows (chars (n ++ 58 ∷ (k ++ 47 ∷ (i ++ version_suffix v))) ∷ []) p q o
interface_shown n k i v h = one_text ((n ++ 58 ∷ (k ++ 47 ∷ [])) ∷ i ∷ version_suffix v ∷ []) (n ++ 58 ∷ (k ++ 47 ∷ (i ++ version_suffix v))) (simp (append_assoc, append-nil)) h
