-- Pages on which pieces are written one behind the other.
use Rattle.std.proofs.Common.{◌≡◌, ℕ, List, [], ◌++◌, refl, sym, ap, ◌∙◌, append_assoc, append-nil}
use Rattle.cm_types.specs.declared.resource.ResourceId.{ResourceId}
use Rattle.cm_tool_show.specs.Pages.{IsOver, seen_on, text_on}
use Rattle.cm_tool_show.specs.Pieces.{Piece, seen_behind, text_behind}
use Rattle.cm_tool_show.specs.declared.page.Page.{Page}
use Rattle.cm_tool_show.specs.Written.{Wrote}
use Rattle.cm_tool_show.proofs.PageLaws.{text_append, seen_append, over_more, over_now}

pub wrote_none : (p : Page) → Wrote [] p p
wrote_none p = record { text = sym (append-nil (text_on p)); seen = refl }

-- what is written behind pieces is written behind what they were written behind
pub behind : (a b : List Piece) (p q : Page) → Wrote a p q → text_on q ++ text_behind (seen_on q) b ≡ text_on p ++ text_behind (seen_on p) (a ++ b)
behind a b p q w =
    ap (λ (z : List ℕ). z ++ text_behind (seen_on q) b) w.text
    ∙ (ap (λ (z : List ResourceId). (text_on p ++ text_behind (seen_on p) a) ++ text_behind z b) w.seen
    ∙ (append_assoc (text_on p) (text_behind (seen_on p) a) (text_behind (seen_behind (seen_on p) a) b)
    ∙ ap (λ (z : List ℕ). text_on p ++ z) (sym (text_append (seen_on p) a b))))

pub wrote_more : (a b : List Piece) (p q r : Page) → Wrote a p q → Wrote b q r → Wrote (a ++ b) p r
wrote_more a b p q r v w = record {
  text = w.text ∙ behind a b p q v;
  seen = w.seen ∙ (ap (λ (z : List ResourceId). seen_behind z b) v.seen ∙ sym (seen_append (seen_on p) a b));
}

pub wrote_over : (a b c : List Piece) (p q : Page) → Wrote a p q → IsOver q b → IsOver p (a ++ (b ++ c))
wrote_over a b c p q w o = over_now q (b ++ c) p (a ++ (b ++ c)) (behind a (b ++ c) p q w) (over_more q b c o)
