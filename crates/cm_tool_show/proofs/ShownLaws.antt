-- What comes of showing pieces, one behind the other.
use Rattle.std.proofs.Common.{◌≡◌, ℕ, List, [], ◌∷◌, ◌++◌, OnOk, IsErrOf, Result, Ok, Err, sym, ap, subst, ◌∙◌, append-nil}
use Rattle.cm_tool_show.specs.Pages.{IsOver, seen_on, text_on}
use Rattle.cm_tool_show.specs.Pieces.{Piece, chars, seen_behind, text_behind}
use Rattle.cm_tool_show.specs.declared.fault.ShowFault.{ShowFault}
use Rattle.cm_tool_show.specs.declared.fault.ShowFault.TheVariants as fault
use Rattle.cm_tool_show.specs.declared.page.Page.{Page}
use Rattle.cm_tool_show.specs.Written.{Shows, Wrote}
use Rattle.cm_tool_show.proofs.JoinLaws.{behind, wrote_more, wrote_none}
use Rattle.cm_tool_show.proofs.PageLaws.{over_more, over_now}

-- ---- from what a page says, and to it

pub pieces_put : (ps : List Piece) (p q : Page) (r : Result (Unit {0}) ShowFault) → OnOk r (text_on q ≡ text_on p ++ text_behind (seen_on p) ps) → OnOk r (seen_on q ≡ seen_behind (seen_on p) ps) → (IsErrOf r fault.TooLong → IsOver p ps) → Shows ps p q r
pieces_put ps p q (Ok u) text seen over = record { wrote = record { text = text; seen = seen }; over = over }
pieces_put ps p q (Err f) text seen over = record { wrote = tt; over = over }

pub chars_put : (w : List ℕ) (p q : Page) (r : Result (Unit {0}) ShowFault) → OnOk r (text_on q ≡ text_on p ++ w) → OnOk r (seen_on q ≡ seen_on p) → (IsErrOf r fault.TooLong → IsOver p (chars w ∷ [])) → Shows (chars w ∷ []) p q r
chars_put w p q (Ok u) text seen over = record { wrote = record { text = text ∙ ap (λ (z : List ℕ). text_on p ++ z) (sym (append-nil w)); seen = seen }; over = over }
chars_put w p q (Err f) text seen over = record { wrote = tt; over = over }

pub shown_text : (ps : List Piece) (p q : Page) (r : Result (Unit {0}) ShowFault) → Shows ps p q r → OnOk r (text_on q ≡ text_on p ++ text_behind (seen_on p) ps)
shown_text ps p q (Ok u) h = h.wrote.text
shown_text ps p q (Err f) h = tt

pub shown_seen : (ps : List Piece) (p q : Page) (r : Result (Unit {0}) ShowFault) → Shows ps p q r → OnOk r (seen_on q ≡ seen_behind (seen_on p) ps)
shown_seen ps p q (Ok u) h = h.wrote.seen
shown_seen ps p q (Err f) h = tt

-- ---- the same, said otherwise

pub told : {ps qs : List Piece} {p q : Page} {r : Result (Unit {0}) ShowFault} → ps ≡ qs → Shows qs p q r → Shows ps p q r
told {ps} {qs} {p} {q} {r} e h = subst (λ (xs : List Piece). Shows xs p q r) (sym e) h

pub named : {l w : List ℕ} {p q : Page} {r : Result (Unit {0}) ShowFault} → w ≡ l → Shows (chars w ∷ []) p q r → Shows (chars l ∷ []) p q r
named {l} {w} e h = told (ap (λ (x : List ℕ). chars x ∷ []) (sym e)) h

pub answers : {ps : List Piece} {p q : Page} {r x : Result (Unit {0}) ShowFault} → r ≡ x → Shows ps p q x → Shows ps p q r
answers {ps} {p} {q} {r} {x} e h = subst (λ (y : Result (Unit {0}) ShowFault). Shows ps p q y) (sym e) h

-- ---- nothing, and pieces behind others

pub all_shown : {ps : List Piece} {p q : Page} {u : Unit {0}} → Wrote ps p q → Shows ps p q (Ok u)
all_shown w = record { wrote = w; over = λ e. absurd cc }

pub none_shown : (p : Page) (u : Unit {0}) → Shows [] p p (Ok u)
none_shown p u = all_shown (wrote_none p)

wrote_then : (a b : List Piece) (p q s : Page) (r : Result (Unit {0}) ShowFault) → Wrote a p q → OnOk r (Wrote b q s) → OnOk r (Wrote (a ++ b) p s)
wrote_then a b p q s (Ok u) v w = wrote_more a b p q s v w
wrote_then a b p q s (Err f) v w = tt

pub then : {a b : List Piece} {p q s : Page} {u : Unit {0}} {r : Result (Unit {0}) ShowFault} → Shows a p q (Ok u) → Shows b q s r → Shows (a ++ b) p s r
then {a} {b} {p} {q} {s} {u} {r} v w = record { wrote = wrote_then a b p q s r v.wrote w.wrote; over = λ e. over_now q b p (a ++ b) (behind a b p q v.wrote) (w.over e) }

pub stops : {a : List Piece} {p q : Page} {f : ShowFault} (b : List Piece) → Shows a p q (Err f) → Shows (a ++ b) p q (Err f)
stops {a} {p} {q} {f} b h = record { wrote = tt; over = λ e. over_more p a b (h.over e) }
