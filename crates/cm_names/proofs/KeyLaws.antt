-- The table of keys, made key by key.
use Rattle.std.proofs.Common.{◌≡◌, ◌==◌, ◌&&◌, ℕ, ◌+◌, ◌<◌, ◌≤◌, Bool, true, false, cond, if◌then◌else◌, List, [], ◌∷◌, length, map, drop, get_or, Option, Some, None, refl, sym, ap, ◌∙◌, arith}
use Rattle.std.specs.Borrow.{Bor}
use Rattle.std.specs.List.{position_from}
use Rattle.std.proofs.lemmas.List.{drop_all, drop_more}
use Rattle.std.proofs.lemmas.Bool.Decides.{nat_tests}
use Rattle.std.proofs.lemmas.Slice.Eq.{bytes_eq-Decides}
use Rattle.std.specs.Str.{bytes_eq}
use Rattle.cm_names.specs.Keys.{Key, is_key, first_key, key_view}
use Rattle.cm_names.specs.KeyTables.{Names, KeyTable, look_up, under, IsTableOf, or_else, Notes, NotesName}
use Rattle.std.specs.BTreeMap.{UpdatesBy, get_by, is_at}
use Rattle.std.specs.Cmp.Lexicographic.{slice_cmp}
use Rattle.std.specs.Map.{lookup}
use Rattle.std.specs.Option.{option_and_then, unwrap_or}
use Rattle.std.specs.Ordering.{is_eq, nat_cmp}
use Rattle.std.proofs.lemmas.Map.Text.{btree_map_updates_str}
use Rattle.cm_lemmas.proofs.Orders.{same_number}
use Rattle.cm_lemmas.proofs.Numbers.{eq_of}
use Rattle.cm_lemmas.proofs.Lists.{same_text}
use Rattle.cm_lemmas.proofs.Bools.{true_not_false}

abbrev pub Name : Type 0
Name = ℕ × Bor (List ℕ)

-- The first key is what the table has, or else the first among the keys to come.
pub record Seeks (keys : List Name) (i : ℕ) (table : KeyTable) : Type 0 where
  pub is : (n : ℕ) (name : List ℕ) → first_key (map key_view keys) n name ≡ or_else (look_up table n name) (position_from (is_key n name) i (map key_view (drop i keys)))

pub seeks_none : (keys : List Name) (table : KeyTable) → table.entries ≡ [] → Seeks keys 0 table
seeks_none keys table e = record {
  is = λ n name. ap (λ es. or_else (option_and_then (under name) (lookup (is_at (nat_cmp n)) es)) (position_from (is_key n name) 0 (map key_view keys))) (sym e);
}

pub or_none : (a : Option ℕ) → or_else a None ≡ a
or_none None = refl
or_none (Some x) = refl

pub later : (a : Option ℕ) (t : Bool) (i : ℕ) (rest : Option ℕ) → or_else a (cond t (Some i) rest) ≡ or_else (or_else a (if t then Some i else None)) rest
later None true i rest = refl
later None false i rest = refl
later (Some x) t i rest = refl

next_rest : (keys : List Name) (i : ℕ) (k : Name) → i < length keys → k ≡ get_or keys i k → map key_view (drop i keys) ≡ key_view k ∷ map key_view (drop (i + 1) keys)
next_rest keys i k lt is = ap (map key_view) (drop_more keys i k lt ∙ ap (λ (y : Name). y ∷ drop (i + 1) keys) (sym is))

pub seeks_step : (keys : List Name) (i : ℕ) (k : Name) (before after : KeyTable) → i < length keys → k ≡ get_or keys i k → Seeks keys i before → Notes (key_view k) i before after → Seeks keys (i + 1) after
seeks_step keys i k before after lt e s f = record {
  is = λ n name.
      s.is n name
      ∙ (ap (λ (rest : List Key). or_else (look_up before n name) (position_from (is_key n name) i rest)) (next_rest keys i k lt e)
      ∙ (later (look_up before n name) (is_key n name (key_view k)) i (position_from (is_key n name) (i + 1) (map key_view (drop (i + 1) keys)))
      ∙ ap (λ (o : Option ℕ). or_else o (position_from (is_key n name) (i + 1) (map key_view (drop (i + 1) keys)))) (sym (f n name))));
}

pub seeks_all : (keys : List Name) (i : ℕ) (table : KeyTable) → length keys ≤ i → Seeks keys i table → IsTableOf (map key_view keys) table
seeks_all keys i table le s n name =
    sym (s.is n name ∙ (ap (λ (rest : List Name). or_else (look_up table n name) (position_from (is_key n name) i (map key_view rest))) (drop_all i keys le) ∙ or_none (look_up table n name)))

pub ruleset table_laws = (seeks_none, seeks_step, seeks_all)

-- ---- one key

-- ---- the names under a number

placed_or : (o : Option ℕ) (place : ℕ) → Some (unwrap_or o place) ≡ or_else o (Some place)
placed_or None place = refl
placed_or (Some x) place = refl

not_text : (x y : List ℕ) → bytes_eq x y ≡ false → bytes_eq y x ≡ false
not_text x y e = by (bytes_eq y x) refl
  where
    by : (t : Bool) → bytes_eq y x ≡ t → t ≡ false
    by false f = refl
    by true f = absurd (true_not_false (sym ((bytes_eq-Decides x y).1 (sym (same_text y x f))) ∙ e))

-- a name has what it had, or else the place
pub name_noted : (name m : List ℕ) (names : Names) (place w : ℕ) → w ≡ unwrap_or (under name names) place → cond (bytes_eq name m) (Some w) (under m names) ≡ or_else (under m names) (if bytes_eq m name then Some place else None)
name_noted name m names place w had = by (bytes_eq name m) refl
  where
    by : (t : Bool) → bytes_eq name m ≡ t → cond t (Some w) (under m names) ≡ or_else (under m names) (if bytes_eq m name then Some place else None)
    by true e =
        let same : name ≡ m = same_text name m e in
        ap (λ (x : ℕ). Some x) had
        ∙ ap (λ n. Some (unwrap_or (under n names) place)) same
        ∙ placed_or (under m names) place
        ∙ ap (λ b. or_else (under m names) (if b then Some place else None)) (sym ((bytes_eq-Decides m name).1 (sym same)))
    by false e =
        sym (or_none (under m names))
        ∙ ap (λ b. or_else (under m names) (if b then Some place else None)) (sym (not_text name m e))

-- one name more, among none
pub first_noted : (name : List ℕ) (place : ℕ) (none more : Names) → none.entries ≡ [] → UpdatesBy (λ x y. slice_cmp nat_cmp x.now y.now) (λ q. slice_cmp nat_cmp name q.now) none more (Some place) → NotesName name place none more
first_noted name place none more empty named = λ m.
    let nothing : (k : List ℕ) → under k none ≡ None = λ k. ap (λ es. lookup (is_at (λ q. slice_cmp nat_cmp k q.now)) es) empty in
    btree_map_updates_str name none more (Some place) named m
    ∙ name_noted name m none place place (sym (ap (λ o. unwrap_or o place) (nothing name)))

pub none_held : (old : KeyTable) (k : Name) (none : Names) → none.entries ≡ [] → get_by (nat_cmp k.0) old ≡ None → (name : List ℕ) → under name none ≡ look_up old k.0 name
none_held old k none empty has = λ name.
    ap (λ es. lookup (is_at (λ q. slice_cmp nat_cmp name q.now)) es) empty ∙ sym (ap (option_and_then (under name)) has)

pub some_held : (old : KeyTable) (k : Name) (names : Names) → get_by (nat_cmp k.0) old ≡ Some names → (name : List ℕ) → under name names ≡ look_up old k.0 name
some_held old k names has = λ name. sym (ap (option_and_then (under name)) has)

-- the names under a number become these, with one more
module _ (place : ℕ) (old new : KeyTable) (names more : Names) (k : Name)
    (held : (name : List ℕ) → under name names ≡ look_up old k.0 name)
    (given : (q : ℕ) → get_by (nat_cmp q) new ≡ cond (is_eq (nat_cmp k.0 q)) (Some more) (get_by (nat_cmp q) old))
    (noted : NotesName k.1.now place names more) where
  pub notes_under : Notes (key_view k) place old new
  notes_under n name = by (k.0 == n) refl
    where
      turned : (t : Bool) → (k.0 == n) ≡ t → (n == k.0) ≡ t
      turned t e = grind (arith, nat_tests, e)

      by : (t : Bool) → (k.0 == n) ≡ t → look_up new n name ≡ or_else (look_up old n name) (if (n == k.0) && bytes_eq name k.1.now then Some place else None)
      by true e =
          ap (option_and_then (under name)) (given n ∙ ap (λ b. cond b (Some more) (get_by (nat_cmp n) old)) (same_number k.0 n ∙ e))
          ∙ noted name
          ∙ ap (λ o. or_else o (if bytes_eq name k.1.now then Some place else None)) (held name ∙ ap (λ m. look_up old m name) (eq_of k.0 n e))
          ∙ ap (λ b. or_else (look_up old n name) (if b && bytes_eq name k.1.now then Some place else None)) (sym (turned true e))
      by false e =
          ap (option_and_then (under name)) (given n ∙ ap (λ b. cond b (Some more) (get_by (nat_cmp n) old)) (same_number k.0 n ∙ e))
          ∙ sym (or_none (look_up old n name))
          ∙ ap (λ b. or_else (look_up old n name) (if b && bytes_eq name k.1.now then Some place else None)) (sym (turned false e))
