-- What does not serve, entry by entry.
use Rattle.std.proofs.Common.{◌≡◌, ◌↔◌, Bool, true, false, IsTrue, List, [], ◌∷◌, ◌++◌, inl, inr, refl, sym, ap, ◌∙◌}
use Rattle.cm_types_arena.specs.Replaced.{Standing}
use Rattle.cm_hux_diff.specs.Breaking.{AreBreaks, Serves, break_of}
use Rattle.cm_hux_diff.specs.Held.{Entry, Held}
use Rattle.cm_hux_diff.specs.declared.breaking.Break.{Break}

pub breaks_serve : (w o : Standing) (es : List Entry) (e : Entry) (bs : List Break) → AreBreaks w o es bs → Serves w o e.held → AreBreaks w o (es ++ e ∷ []) bs
breaks_serve w o [] e bs are serves = inl (serves, are)
breaks_serve w o (x ∷ es) e bs (inl h) serves = inl (h.0, breaks_serve w o es e bs h.1 serves)
breaks_serve w o (x ∷ es) e bs (inr h) serves = inr (h.0, h.1, h.2, breaks_serve w o es e h.1 h.3 serves)

pub breaks_more : (w o : Standing) (es : List Entry) (e : Entry) (bs : List Break) → AreBreaks w o es bs → ¬ (Serves w o e.held) → AreBreaks w o (es ++ e ∷ []) (bs ++ break_of e ∷ [])
breaks_more w o [] e bs are unfit = inr (unfit, [], ap (λ (l : List Break). l ++ break_of e ∷ []) are, refl)
breaks_more w o (x ∷ es) e bs (inl h) unfit = inl (h.0, breaks_more w o es e bs h.1 unfit)
breaks_more w o (x ∷ es) e bs (inr h) unfit = inr (h.0, h.1 ++ break_of e ∷ [], ap (λ (l : List Break). l ++ break_of e ∷ []) h.2, breaks_more w o es e h.1 h.3 unfit)

-- what a test tells
pub told_true : (w o : Standing) (h : Held) (b : Bool) → IsTrue b ↔ Serves w o h → b ≡ true → Serves w o h
told_true w o h b t e = t.0 e

pub told_false : (w o : Standing) (h : Held) (b : Bool) → IsTrue b ↔ Serves w o h → b ≡ false → ¬ (Serves w o h)
told_false w o h b t e p = true_not (sym (t.1 p) ∙ e)
  where
    true_not : true ≡ false → ⊥
    true_not e = cc
