-- Tokens of texts from the end on: what texts are whatever stands behind them.
use Rattle.std.proofs.Common.{◌≡◌, ℕ, zero, suc, ◌+◌, ◌-◌, ◌<◌, ◌≤◌, Bool, true, false, List, [], ◌∷◌, ◌++◌, length, map, drop, Option, None, refl, sym, ap, subst, ◌∙◌, append_assoc, arith}
use Rattle.std.proofs.lemmas.List.{length-append}
use Rattle.cm_wit_tokens.specs.declared.run.Run.TheVariants as run
use Rattle.cm_wit_tokens.specs.declared.token.Form.{Form}
use Rattle.cm_wit_tokens.specs.declared.token.Token.{Token}
use Rattle.cm_wit_tokens.specs.declared.front.Front.{Front}
use Rattle.cm_wit_tokens.specs.declared.front.Front.TheVariants as front_is
use Rattle.cm_wit_tokens.specs.Runs.{goes_on}
use Rattle.cm_wit_tokens.specs.Tokens.{Lexed, after_front, lexed_in, front_behind, is_at}

abbrev pub forms : List Token → List Form
forms ts = map (λ t. t.form) ts

abbrev pub shown : Lexed → List Form × Option ℕ
shown l = (forms l.tokens, l.stop)

abbrev pub put : List Form → List Form × Option ℕ → List Form × Option ℕ
put fs p = (fs ++ p.0, p.1)

-- The tokens of a text are these, to its end.
pub record IsLexed (behind : Bool) (text : List ℕ) (fs : List Form) : Type 0 where
  pub at : (turns : ℕ) → length text < turns → shown (lexed_in turns behind text) ≡ (fs, None)

nothing_at : (turns : ℕ) → 0 < turns → shown (lexed_in turns false []) ≡ ([], None)
unfolding lexed_in
nothing_at zero lt = absurd (omega (arith, lt))
nothing_at (suc turns) lt = refl

pub nothing : IsLexed false [] []
nothing = record { at = nothing_at }

turn : (turns : ℕ) (behind : Bool) (text : List ℕ) → length text < turns → (fewer : ℕ) × (turns ≡ suc fewer) × (lexed_in turns behind text ≡ after_front (lexed_in fewer) text (front_behind behind text))
unfolding lexed_in
turn zero behind text lt = absurd (omega (arith, lt))
turn (suc fewer) behind text lt = (fewer, refl, refl)

pub token_first : (behind : Bool) (text after : List ℕ) (f : Form) (n : ℕ) (fs : List Form) → front_behind behind text ≡ front_is.Token f n → drop n text ≡ after → length after < length text → IsLexed (is_at f) after fs → IsLexed behind text (f ∷ fs)
token_first behind text after f n fs e d shorter l = record {
  at = λ turns lt.
      let t = turn turns behind text lt in
      ap shown t.2 ∙ (ap (λ (p : Front). shown (after_front (lexed_in t.0) text p)) e
      ∙ (ap (λ (rest : List ℕ). put (f ∷ []) (shown (lexed_in t.0 (is_at f) rest))) d
      ∙ ap (put (f ∷ [])) (l.at t.0 (omega (arith, lt, shorter, t.1)))));
}

-- ---- marks, blanks and keywords between them

abbrev pub more : ℕ → ℕ → ℕ
more zero k = k
more (suc n) k = suc (more n k)

more_is : (n k : ℕ) → more n k ≡ n + k
more_is zero k = omega arith
more_is (suc n) k = omega (arith, more_is n k)

-- In so many turns a text is these tokens, whatever stands behind it.
abbrev pub Marks : ℕ → List ℕ → List Form → Type 0
Marks n text fs = (turns : ℕ) (rest : List ℕ) → shown (lexed_in (more n turns) false (text ++ rest)) ≡ put fs (shown (lexed_in turns false rest))

-- ---- texts whose tokens do not depend on what stands behind them

-- a text that no run goes on into
abbrev pub Stops : List ℕ → Type 0
Stops rest = (goes_on run.Word rest ≡ false) × (goes_on run.Digits rest ≡ false) × (goes_on run.Version rest ≡ false)

abbrev pub Follows : Bool → List ℕ → Type 0
Follows true rest = Stops rest
Follows false rest = Unit {0}

-- A text is these tokens, whatever stands behind it; where it is bare, whatever stops runs.
pub record Lexes (text : List ℕ) (fs : List Form) (bare : Bool) : Type 0 where
  pub at : (rest : List ℕ) (gs : List Form) → Follows bare rest → IsLexed false rest gs → IsLexed false (text ++ rest) (fs ++ gs)

pub marks : (n : ℕ) (text : List ℕ) (fs : List Form) → n ≤ length text → Marks n text fs → Lexes text fs false
marks n text fs le m = record {
  at = λ rest gs follows l. record {
    at = λ turns lt.
        let size = length-append text rest in
        let all : turns ≡ more n (turns - n) = omega (arith, more_is n (turns - n), lt, le, size) in
        ap (λ (k : ℕ). shown (lexed_in k false (text ++ rest))) all
        ∙ (m (turns - n) rest ∙ ap (put fs) (l.at (turns - n) (omega (arith, lt, le, size))));
  };
}

pub join : {a b : List ℕ} {fs gs : List Form} {p q : Bool} → Lexes a fs p → ((rest : List ℕ) → Follows q rest → Follows p (b ++ rest)) → Lexes b gs q → Lexes (a ++ b) (fs ++ gs) q
join {a} {b} {fs} {gs} {p} {q} x follows y = record {
  at = λ rest hs f l.
      subst (λ (text : List ℕ). IsLexed false text ((fs ++ gs) ++ hs)) (sym (append_assoc a b rest))
      (subst (λ (ks : List Form). IsLexed false (a ++ (b ++ rest)) ks) (sym (append_assoc fs gs hs))
      (x.at (b ++ rest) (gs ++ hs) (follows rest f) (y.at rest hs f l)));
}

pub no_text : Lexes [] [] true
no_text = record { at = λ rest gs f l. l }

pub after : {a b : List ℕ} {fs gs : List Form} {q : Bool} → Lexes a fs false → Lexes b gs q → Lexes (a ++ b) (fs ++ gs) q
after x y = join x (λ rest f. tt) y

pub bare : {text : List ℕ} {fs : List Form} → Lexes text fs false → Lexes text fs true
bare l = record { at = λ rest gs f k. l.at rest gs tt k }
