-- The tokens of a text, read turn by turn.
use Rattle.std.proofs.Common.{◌≡◌, ℕ, zero, suc, ◌+◌, ◌-◌, ◌<◌, List, [], ◌∷◌, ◌++◌, length, drop, Some, None, refl, sym, ap, subst, ◌∙◌, append_assoc, append-nil, arith}
use Rattle.std.proofs.lemmas.List.{drop_all}
use Rattle.cm_wit_tokens.specs.declared.token.Form.{Form}
use Rattle.cm_wit_tokens.specs.declared.token.Token.{Token}
use Rattle.cm_wit_tokens.specs.declared.front.Front.{Front}
use Rattle.cm_wit_tokens.specs.declared.front.Front.TheVariants as front_is
use Rattle.cm_wit_tokens.specs.Tokens.{Lexed}
use Rattle.cm_wit_projects_tokens.specs.declared.front.Front as own_front
use Rattle.cm_wit_projects_tokens.specs.declared.front.Front.TheVariants as own_is
use Rattle.cm_wit_projects_tokens.specs.declared.standing.Standing.{Standing}
use Rattle.cm_wit_projects_tokens.specs.declared.standing.Standing.TheVariants as standing
use Rattle.cm_wit_projects_tokens.specs.Gates.{standing_behind}
use Rattle.cm_wit_projects_tokens.specs.Tokens.{after_front, front_at, lexed_in, lexed, without_mark}
use Rattle.cm_wit_projects_tokens.specs.Views.{front_view}

pub ruleset behind_laws = drop_all

-- Tokens that stand before those of the rest of a text.
abbrev pub behind : List Token → Lexed → Lexed
behind ts l = record { tokens = ts ++ l.tokens; stop = l.stop }

-- These tokens, and then those of the rest in so many turns, are all.
pub record Goes (turns : ℕ) (ts : List Token) (s : Standing) (rest : List ℕ) (all : Lexed) : Type 0 where
  pub same : behind ts (lexed_in turns s rest) ≡ all

goes_at_first : (turns : ℕ) (s : Standing) (text : List ℕ) → Goes turns [] s text (lexed_in turns s text)
goes_at_first turns s text = record { same = refl }

pub goes_init : (ts : List Token) (all bytes text : List ℕ) → ts ≡ [] → all ≡ without_mark bytes → bytes ≡ text → Goes (length all - 0) ts standing.Plain all (lexed text)
goes_init ts all bytes text e f g =
    let h = f ∙ ap without_mark g in
    let k : length (without_mark text) ≡ length (without_mark text) - 0 = omega arith in
    subst (λ (z : List Token). Goes (length all - 0) z standing.Plain all (lexed text)) (sym e)
    (subst (λ (z : List ℕ). Goes (length z - 0) [] standing.Plain z (lexed text)) (sym h)
    (subst (λ (n : ℕ). Goes n [] standing.Plain (without_mark text) (lexed text)) k
    (goes_at_first (length (without_mark text)) standing.Plain (without_mark text))))

turn : (turns : ℕ) (s : Standing) (rest : List ℕ) (f : Front) → front_at s rest ≡ f → lexed_in (suc turns) s rest ≡ after_front (lexed_in turns) s rest f
unfolding lexed_in
turn turns s rest f e = ap (after_front (lexed_in turns) s rest) e

pub goes_to_limit : (turns : ℕ) (ts : List Token) (s : Standing) (rest : List ℕ) (all : Lexed) → turns ≡ 0 → Goes turns ts s rest all → record { tokens = ts; stop = None } ≡ all
unfolding lexed_in
goes_to_limit zero ts s rest all e g = sym (sym g.same ∙ rw (append-nil ts) refl)
goes_to_limit (suc turns) ts s rest all e g = absurd (omega (arith, e))

-- the same, where a turn is left, by what the code found at the front
next : (i end : ℕ) (ts : List Token) (s : Standing) (rest : List ℕ) (all : Lexed) (f : Front) → i < end → Goes (end - i) ts s rest all → front_at s rest ≡ f → behind ts (after_front (lexed_in (end - (i + 1))) s rest f) ≡ all
next i end ts s rest all f lt g h =
    let e : end - i ≡ suc (end - (i + 1)) = omega (arith, lt) in
    sym (ap (behind ts) (turn (end - (i + 1)) s rest f h)) ∙ (subst (λ (n : ℕ). Goes n ts s rest all) e g).same

found : (s : Standing) (rest : List ℕ) (f g : own_front.Front) → front_view f ≡ front_at s rest → f ≡ g → front_at s rest ≡ front_view g
found s rest f g e is = sym e ∙ ap front_view is

pub goes_to_end : (i end : ℕ) (ts : List Token) (s : Standing) (rest : List ℕ) (all : Lexed) (f : own_front.Front) → i < end → Goes (end - i) ts s rest all → front_view f ≡ front_at s rest → f ≡ own_is.End → record { tokens = ts; stop = None } ≡ all
goes_to_end i end ts s rest all f lt g e is = sym (sym (next i end ts s rest all front_is.End lt g (found s rest f own_is.End e is)) ∙ rw (append-nil ts) refl)

pub goes_to_stop : (i end : ℕ) (ts : List Token) (s : Standing) (rest : List ℕ) (all : Lexed) (f : own_front.Front) → i < end → Goes (end - i) ts s rest all → front_view f ≡ front_at s rest → f ≡ own_is.Bad → record { tokens = ts; stop = Some (length rest) } ≡ all
goes_to_stop i end ts s rest all f lt g e is = sym (sym (next i end ts s rest all front_is.Bad lt g (found s rest f own_is.Bad e is)) ∙ rw (append-nil ts) refl)

pub goes_past_gap : (i end : ℕ) (ts : List Token) (s : Standing) (rest : List ℕ) (all : Lexed) (f : own_front.Front) (n : ℕ) → i < end → Goes (end - i) ts s rest all → front_view f ≡ front_at s rest → f ≡ own_is.Gap n → Goes (end - (i + 1)) ts s (drop n rest) all
goes_past_gap i end ts s rest all f n lt g e is = record { same = next i end ts s rest all (front_is.Gap n) lt g (found s rest f (own_is.Gap n) e is) }

pub goes_past_token : (i end : ℕ) (ts : List Token) (s : Standing) (rest : List ℕ) (all : Lexed) (f : own_front.Front) (form : Form) (n : ℕ) → i < end → Goes (end - i) ts s rest all → front_view f ≡ front_at s rest → f ≡ own_is.Token form n → Goes (end - (i + 1)) (ts ++ record { left = length rest; form = form } ∷ []) (standing_behind s form) (drop n rest) all
goes_past_token i end ts s rest all f form n lt g e is =
    let here : Token = record { left = length rest; form = form } in
    let later = lexed_in (end - (i + 1)) (standing_behind s form) (drop n rest) in
    record { same = ap (λ (tokens : List Token). record { tokens = tokens; stop = later.stop }) (append_assoc ts (here ∷ []) later.tokens) ∙ next i end ts s rest all (front_is.Token form n) lt g (found s rest f (own_is.Token form n) e is) }

pub goes_on : (turns : ℕ) (ts more : List Token) (s t : Standing) (rest behind : List ℕ) (all : Lexed) → more ≡ ts → t ≡ s → behind ≡ rest → Goes turns ts s rest all → Goes turns more t behind all
goes_on turns ts more s t rest behind all e f g h =
    subst (λ (z : List Token). Goes turns z t behind all) (sym e)
    (subst (λ (z : Standing). Goes turns ts z behind all) (sym f)
    (subst (λ (z : List ℕ). Goes turns ts s z all) (sym g) h))

pub ruleset lexed_laws = (goes_init, goes_past_gap)
