-- The table of what is known, made mention by mention.
use Rattle.std.proofs.Common.{◌≡◌, ◌==◌, ◌&&◌, ℕ, ◌+◌, ◌<◌, ◌≤◌, Bool, true, false, cond, List, ◌∷◌, length, map, drop, get_or, Option, Some, None, refl, sym, ap, ◌∙◌}
use Rattle.std.specs.Borrow.{Bor}
use Rattle.std.specs.List.{position_from}
use Rattle.std.specs.Option.{option_map, option_map_or}
use Rattle.std.proofs.lemmas.List.{drop_all}
use Rattle.std.proofs.lemmas.Slice.Eq.{bytes_eq-Decides}
use Rattle.std.specs.Str.{bytes_eq}
use Rattle.cm_wit_names.specs.declared.mention.Mention as code
use Rattle.cm_wit_names.specs.Mentions.{Mention}
use Rattle.cm_wit_names.specs.MentionViews.{mention_view}
use Rattle.cm_wit_names.specs.Known.{is_known_as, known_at}
use Rattle.cm_names.specs.KeyTables.{or_else}
use Rattle.cm_wit_names.specs.FirstKeys.{look_up}
use Rattle.cm_wit_names.specs.declared.first_keys.FirstKeys.{FirstKeys}
use Rattle.cm_wit_names.specs.Table.{IsTableOf, is_key, Notes}
use Rattle.cm_names.proofs.KeyLaws.{later, or_none}
use Rattle.cm_lemmas.proofs.Lists.{next_element}

-- What is known is what the table has, or else the first among the mentions to come.
abbrev pub SeeksIn : List Mention → ℕ → List Mention → FirstKeys → Type 0
SeeksIn ms i rest table = (n : ℕ) (text : List ℕ) → known_at ms n text ≡ or_else (look_up table n text) (position_from (is_known_as n text) i rest)

pub record Seeks (mentions : List code.Mention) (i : ℕ) (table : FirstKeys) : Type 0 where
  pub is : SeeksIn (map mention_view mentions) i (map mention_view (drop i mentions)) table

pub seeks_none : (mentions : List code.Mention) (table : FirstKeys) → ((n : ℕ) (text : List ℕ) → look_up table n text ≡ None) → Seeks mentions 0 table
seeks_none mentions table e = record {
  is = λ n text. ap (λ o. or_else o (position_from (is_known_as n text) 0 (map mention_view mentions))) (sym (e n text));
}

key_in : (n : ℕ) (text : List ℕ) (known : Option (ℕ × Bor (List ℕ))) → option_map_or (λ (k : ℕ × List ℕ). (n == k.0) && bytes_eq text k.1) (option_map (λ k. (k.0, k.1.now)) known) false ≡ is_key n text (option_map (λ k. (k.0, k.1.now)) known)
key_in n text None = refl
key_in n text (Some k) = refl

pub text_self : (x : List ℕ) → bytes_eq x x ≡ true
text_self x = (bytes_eq-Decides x x).1 refl

next_rest : (mentions : List code.Mention) (i : ℕ) (m : code.Mention) → i < length mentions → m ≡ get_or mentions i m → map mention_view (drop i mentions) ≡ mention_view m ∷ map mention_view (drop (i + 1) mentions)
next_rest mentions i m lt is = next_element mention_view mentions i m lt is

key_is : (n : ℕ) (text : List ℕ) (m : code.Mention) → is_known_as n text (mention_view m) ≡ is_key n text (option_map (λ k. (k.0, k.1.now)) m.known)
key_is n text m = key_in n text m.known

pub seeks_step : (mentions : List code.Mention) (i : ℕ) (m : code.Mention) (before after : FirstKeys) → i < length mentions → m ≡ get_or mentions i m → Seeks mentions i before → Notes (option_map (λ k. (k.0, k.1.now)) m.known) i before after → Seeks mentions (i + 1) after
seeks_step mentions i m before after lt e s f = record {
  is = λ n text.
      s.is n text
      ∙ (ap (λ (rest : List Mention). or_else (look_up before n text) (position_from (is_known_as n text) i rest)) (next_rest mentions i m lt e)
      ∙ (ap (λ (t : Bool). or_else (look_up before n text) (cond t (Some i) (position_from (is_known_as n text) (i + 1) (map mention_view (drop (i + 1) mentions))))) (key_is n text m)
      ∙ (later (look_up before n text) (is_key n text (option_map (λ k. (k.0, k.1.now)) m.known)) i (position_from (is_known_as n text) (i + 1) (map mention_view (drop (i + 1) mentions)))
      ∙ ap (λ (o : Option ℕ). or_else o (position_from (is_known_as n text) (i + 1) (map mention_view (drop (i + 1) mentions)))) (sym (f n text)))));
}

pub seeks_all : (mentions : List code.Mention) (i : ℕ) (table : FirstKeys) → length mentions ≤ i → Seeks mentions i table → IsTableOf (map mention_view mentions) table
seeks_all mentions i table le s n text =
    sym (s.is n text ∙ (ap (λ (rest : List code.Mention). or_else (look_up table n text) (position_from (is_known_as n text) i (map mention_view rest))) (drop_all i mentions le) ∙ or_none (look_up table n text)))

pub ruleset table_laws = (seeks_none, seeks_step, seeks_all)

-- ---- one name

pub notes_nothing : (index : ℕ) (table : FirstKeys) → Notes None index table table
notes_nothing index table n text = sym (or_none (look_up table n text))
