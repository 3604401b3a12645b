-- The tokens of a text, read turn by turn.
use Rattle.std.proofs.Common.{◌≡◌, ℕ, zero, suc, ◌<◌, ◌≤◌, Bool, false, List, [], ◌∷◌, ◌++◌, length, drop, Some, None, refl, sym, ap, ◌∙◌, append_assoc, append-nil, arith}
use Rattle.std.proofs.lemmas.List.{length-drop}
use Rattle.cm_wit_tokens.specs.declared.token.Form.{Form}
use Rattle.cm_wit_tokens.specs.declared.token.Token.{Token}
use Rattle.cm_wit_tokens.specs.declared.front.Front.{Front}
use Rattle.cm_wit_tokens.specs.declared.front.Front.TheVariants as front_is
use Rattle.cm_wit_tokens.specs.Tokens.{Lexed, after_front, lexed_in, lexed, front_behind, is_at}

-- Tokens that stand before those of the rest of a text.
abbrev pub behind : List Token → Lexed → Lexed
behind ts l = record { tokens = ts ++ l.tokens; stop = l.stop }

-- These tokens, and then those of the rest, are all.
pub record Goes (ts : List Token) (behind_at : Bool) (rest : List ℕ) (all : Lexed) : Type 0 where
  pub turns : ℕ
  pub enough : length rest < turns
  pub same : behind ts (lexed_in turns behind_at rest) ≡ all

pub goes_at_first : (text : List ℕ) → Goes [] false text (lexed text)
goes_at_first text = record { turns = suc (length text); enough = omega arith; same = refl }

turn : (turns : ℕ) (behind_at : Bool) (rest : List ℕ) (f : Front) → length rest < turns → front_behind behind_at rest ≡ f → (fewer : ℕ) × (turns ≡ suc fewer) × (lexed_in turns behind_at rest ≡ after_front (lexed_in fewer) rest f)
unfolding lexed_in
turn zero behind_at rest f lt e = absurd (omega (arith, lt))
turn (suc fewer) behind_at rest f lt e = (fewer, refl, ap (after_front (lexed_in fewer) rest) e)

pub goes_to_end : (ts : List Token) (behind_at : Bool) (rest : List ℕ) (all : Lexed) → Goes ts behind_at rest all → front_behind behind_at rest ≡ front_is.End → record { tokens = ts; stop = None } ≡ all
goes_to_end ts behind_at rest all g e =
    let t = turn g.turns behind_at rest front_is.End g.enough e in
    sym (sym g.same ∙ (ap (behind ts) t.2 ∙ rw (append-nil ts) refl))

pub goes_to_stop : (ts : List Token) (behind_at : Bool) (rest : List ℕ) (all : Lexed) → Goes ts behind_at rest all → front_behind behind_at rest ≡ front_is.Bad → record { tokens = ts; stop = Some (length rest) } ≡ all
goes_to_stop ts behind_at rest all g e =
    let t = turn g.turns behind_at rest front_is.Bad g.enough e in
    sym (sym g.same ∙ (ap (behind ts) t.2 ∙ rw (append-nil ts) refl))

pub goes_past_gap : (ts : List Token) (behind_at : Bool) (rest : List ℕ) (all : Lexed) (n : ℕ) → Goes ts behind_at rest all → front_behind behind_at rest ≡ front_is.Gap n → (0 < n) × (n ≤ length rest) → Goes ts false (drop n rest) all
goes_past_gap ts behind_at rest all n g e w =
    let t = turn g.turns behind_at rest (front_is.Gap n) g.enough e in
    record {
      turns = t.0;
      enough = omega (arith, length-drop n rest, g.enough, t.1, w.0, w.1);
      same = sym (ap (behind ts) t.2) ∙ g.same;
    }

pub goes_past_token : (ts : List Token) (behind_at : Bool) (rest : List ℕ) (all : Lexed) (f : Form) (n : ℕ) → Goes ts behind_at rest all → front_behind behind_at rest ≡ front_is.Token f n → (0 < n) × (n ≤ length rest) → Goes (ts ++ record { left = length rest; form = f } ∷ []) (is_at f) (drop n rest) all
goes_past_token ts behind_at rest all f n g e w =
    let t = turn g.turns behind_at rest (front_is.Token f n) g.enough e in
    let here : Token = record { left = length rest; form = f } in
    let later = lexed_in t.0 (is_at f) (drop n rest) in
    record {
      turns = t.0;
      enough = omega (arith, length-drop n rest, g.enough, t.1, w.0, w.1);
      same = ap (λ (tokens : List Token). record { tokens = tokens; stop = later.stop }) (append_assoc ts (here ∷ []) later.tokens) ∙ (sym (ap (behind ts) t.2) ∙ g.same);
    }

pub ruleset lexed_laws = (goes_at_first, goes_past_gap, goes_past_token)
