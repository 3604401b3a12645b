-- Transcripts that get one line more, and their ends.
use Rattle.std.proofs.Common.{◌≡◌, ◌+◌, ◌<◌, ◌||◌, ℕ, Bool, true, false, List, [], ◌∷◌, ◌++◌}
use Rattle.std.proofs.Common.{length, Option, Some, None, refl, sym, ap, ◌∙◌, subst, arith, ◌≤◌}
use Rattle.std.specs.Prelude.{IfSome, nat_lt}
use Rattle.std.specs.Io.{appended_bytes}
use Rattle.std.specs.Io.BufRead.{DropsThrough, drop_through, take_through}
use Rattle.std.specs.Io.KnownBytes.{Consumes, IsAtEnd, Keeps}
use Rattle.std.proofs.lemmas.Bool.{ltb-false, ltb-true}
use Rattle.std.proofs.lemmas.List.{length_push}
use Rattle.std.proofs.lemmas.List.Folds.{list_any-append}
use Rattle.cm_match_model.specs.Imports.{LinkSet}
use Rattle.cm_machine.specs.cm_machine_set.Running.{RunningSet}
use Rattle.cm_tool_script.specs.declared.statement.Statement.TheVariants as statement
use Rattle.cm_live.specs.declared.served.Served.{Served}
use Rattle.cm_live.specs.declared.served.Served.TheVariants as served
use Rattle.cm_live.specs.declared.served.Tally.{Tally}
use Rattle.cm_live.specs.Tallies.{Counts, IsEndOf, ReadsNext}
use Rattle.cm_live.specs.Transcripts.{AreRead, AreReadAtLeast, Ends, IsAtEndOf, IsNextLine}
use Rattle.cm_live.specs.Transcripts.{IsUsedUp, Leads, LineDoes, LinesDo, Reply, ServedLine}
use Rattle.cm_live.specs.Transcripts.{StayBelow, done, has_trapped, is_trap, moves_in, moves_of}
use Rattle.cm_live.specs.Transcripts.{IsAnswerOf, Streams, answers_to, recording_after, refused}
use Rattle.cm_live.specs.Transcripts.{unread}
use Rattle.cm_live.specs.Lines.{answer_lines}
use Rattle.cm_live.specs.Tallies.{Answers}
use Rattle.cm_live.proofs.LineLaws.{appends_both, appends_kept, appends_nothing}
use Rattle.std.specs.Io.KnownBytes.{Appends}
use Rattle.std.specs.Prelude.{codes}
use Rattle.std.proofs.lemmas.Grind.{flat_map-append}
use Rattle.std.proofs.lemmas.List.{append-nil}

-- ---- what was read

pub keeps_itself : (known : Option (List ℕ)) → Keeps known known
keeps_itself None = tt
keeps_itself (Some bytes) = refl

next_of_kept : (a b c : Option (List ℕ)) (line : List ℕ) → Keeps a b → IsNextLine b line c
    → IsNextLine a line c
next_of_kept None b c line k h = (h.0, tt)
next_of_kept (Some xs) None c line k h = absurd k
next_of_kept (Some xs) (Some ys) c line k h = (
  h.0,
  subst (λ (zs : List ℕ). (line ≡ take_through 10 zs) × (c ≡ Some (drop_through 10 zs)))
      k h.1,
)

read_more : (a b c : Option (List ℕ)) (ls : List ServedLine) (l : ServedLine) → AreRead a ls b
    → IsNextLine b l.bytes c → AreRead a (ls ++ l ∷ []) c
read_more a b c [] l k h = (c, next_of_kept a b c l.bytes k h, keeps_itself c)
read_more a b c (x ∷ ls) l r h = (r.0, r.1, read_more r.0 b c ls l r.2 h)

used_up : (a b c : Option (List ℕ)) → Keeps a b → IsUsedUp b c → Keeps a c
used_up None b c k h = tt
used_up (Some xs) None c k h = absurd k
used_up (Some xs) (Some ys) c k h =
    subst (λ (d : Option (List ℕ)). Keeps (Some xs) d) (sym h.1) (sym h.0 ∙ k)

pub read_to_end : (a b c : Option (List ℕ)) (ls : List ServedLine) → AreRead a ls b → IsUsedUp b c
    → AreRead a ls c
read_to_end a b c [] k h = used_up a b c k h
read_to_end a b c (x ∷ ls) r h = (r.0, r.1, read_to_end r.0 b c ls r.2 h)

none_left_kept : (a b c : Option (List ℕ)) → Keeps a b → IsUsedUp b c
    → IfSome a (λ _. c ≡ Some [])
none_left_kept None b c k h = tt
none_left_kept (Some xs) None c k h = absurd k
none_left_kept (Some xs) (Some ys) c k h = h.1

pub none_left : (a b c : Option (List ℕ)) (ls : List ServedLine) → AreRead a ls b → IsUsedUp b c
    → IfSome a (λ _. c ≡ Some [])
none_left a b c [] k h = none_left_kept a b c k h
none_left None b c (x ∷ ls) r h = tt
none_left (Some xs) b c (x ∷ ls) r h =
    subst (λ (m : Option (List ℕ)). IfSome m (λ _. c ≡ Some [])) r.1.1.1
    (none_left r.0 b c ls r.2 h)

consumes_nothing : (known : Option (List ℕ)) → Consumes known known []
consumes_nothing None = tt
consumes_nothing (Some bytes) = refl

pub read_whole : (a b : Option (List ℕ)) (ls : List ServedLine) → AreRead a ls b → AreReadAtLeast a ls b
read_whole a b ls r = record { mid = b; part = []; lines = r; behind = consumes_nothing b }

pub read_in_part : (a b c : Option (List ℕ)) (ls : List ServedLine) → AreRead a ls b
    → (part : List ℕ) × Consumes b c part → AreReadAtLeast a ls c
read_in_part a b c ls r h = record { mid = b; part = h.0; lines = r; behind = h.1 }

-- ---- what lines do

-- what is recorded behind lines
abbrev pub recording_behind : Option Bool → List ServedLine → Option Bool
recording_behind rec [] = rec
recording_behind rec (l ∷ ls) = recording_behind (recording_after rec l.reply) ls

recording_more : (rec : Option Bool) (ls : List ServedLine) (l : ServedLine)
    → recording_behind rec (ls ++ l ∷ []) ≡ recording_after (recording_behind rec ls) l.reply
recording_more rec [] l = refl
recording_more rec (x ∷ ls) l = recording_more (recording_after rec x.reply) ls l

do_more : (linked : LinkSet) (rec : Option Bool) (s t u : RunningSet) (ls : List ServedLine)
    (l : ServedLine) → LinesDo linked rec s ls t
    → LineDoes linked (recording_behind rec ls) t l.bytes l.reply u → IsAnswerOf u l.reply l.answer
    → LinesDo linked rec s (ls ++ l ∷ []) u
do_more linked rec s t u [] l e h a =
    (u, subst (λ (x : RunningSet). LineDoes linked rec x l.bytes l.reply u) e h, a, refl)
do_more linked rec s t u (x ∷ ls) l d h a =
    (d.0, d.1, d.2, do_more linked (recording_after rec x.reply) d.0 t u ls l d.3 h a)

-- an answer that was not written, or not all of it
unwritten : (s : RunningSet) (r : Reply) → (bytes : List ℕ) × IsAnswerOf s r bytes
unwritten s (unread f) = (codes "error: " ++ [] ++ codes "\n", ([], tt, refl))
unwritten s (refused t f) = (codes "error: " ++ [] ++ codes "\n", ([], tt, refl))
unwritten s (done t a) = (answer_lines s.state a, refl)

answers_more : (ls : List ServedLine) (l : ServedLine)
    → answers_to (ls ++ l ∷ []) ≡ answers_to ls ++ l.answer
answers_more ls l =
    flat_map-append (λ (x : ServedLine). x.answer) ls (l ∷ [])
    ∙ ap (λ (bs : List ℕ). answers_to ls ++ bs) (append-nil l.answer)

moves_more : (ls : List ServedLine) (l : ServedLine)
    → moves_in (ls ++ l ∷ []) ≡ moves_in ls + moves_of l.reply
moves_more [] l = omega arith
moves_more (x ∷ ls) l = omega (arith, moves_more ls l)

or_false : (b : Bool) → (b || false) ≡ b
or_false true = refl
or_false false = refl

traps_more : (ls : List ServedLine) (l : ServedLine)
    → has_trapped (ls ++ l ∷ []) ≡ (has_trapped ls || is_trap l.reply)
traps_more ls l =
    list_any-append (λ (x : ServedLine). is_trap x.reply) ls (l ∷ [])
    ∙ ap (λ (b : Bool). has_trapped ls || b) (or_false (is_trap l.reply))

below_more : (made limit : ℕ) (ls : List ServedLine) (l : ServedLine) → StayBelow made limit ls
    → made + moves_in ls < limit → StayBelow made limit (ls ++ l ∷ [])
below_more made limit [] l b h = (omega arith, tt)
below_more made limit (x ∷ ls) l b h =
    (b.0, below_more (made + moves_of x.reply) limit ls l b.1 (omega arith))

one_at_most : (r : Reply) → moves_of r ≤ 1
one_at_most (unread f) = omega arith
one_at_most (refused s f) = omega arith
one_at_most (done (statement.Pages p) a) = omega arith
one_at_most (done (statement.Guest i) a) = omega arith
one_at_most (done (statement.Move m) a) = omega arith
one_at_most (done (statement.Begin i) a) = omega arith

-- So many lines were served so far, answered, and counted so.
pub record SoFar (linked : LinkSet) (rec : Option Bool) (old : RunningSet) (limit : ℕ)
    (known : Streams) (ls : List ServedLine) (new : RunningSet) (now : Option Bool)
    (left : Streams) (t : Tally) (count : ℕ) : Type 0 where
  pub leads : Leads linked rec old limit ls new
  pub recording : now ≡ recording_behind rec ls
  pub read : AreRead known.input ls left.input
  pub written : Appends known.output left.output (answers_to ls)
  pub moves : t.moves ≡ moves_in ls
  pub trapped : t.trapped ≡ has_trapped ls
  pub count_is : length ls ≡ count

-- What serving was until it stopped behind these lines.
pub record Until (linked : LinkSet) (rec : Option Bool) (old : RunningSet) (limit : ℕ)
    (known : Streams) (ls : List ServedLine) (new : RunningSet) (more : Option (List ℕ))
    : Type 0 where
  pub leads : Leads linked rec old limit ls new
  pub read : AreRead known.input ls more

-- ---- one line more

-- a line that was read
next_line : (there : Bool) (left : Option (List ℕ)) (items bytes : List ℕ)
    (more : Option (List ℕ)) → bytes ≡ items → there ≡ true → ReadsNext there left items more
    → IsNextLine left bytes more
next_line there left items bytes more b h n =
    subst (λ (xs : List ℕ). IsNextLine left xs more) (sym b)
    (subst (λ (z : Bool). ReadsNext z left items more) h n)

abbrev line_of : List ℕ → Reply → List ℕ → ServedLine
line_of bytes r answer = record { bytes = bytes; reply = r; answer = answer }

-- a line that was read, and did this
pub record IsOne (linked : LinkSet) (now : Option Bool) (s : RunningSet)
    (left : Option (List ℕ)) (bytes : List ℕ) (r : Reply) (more : Option (List ℕ))
    (new : RunningSet) : Type 0 where
  pub next : IsNextLine left bytes more
  pub does : LineDoes linked now s bytes r new

pub is_one : (linked here : LinkSet) (now : Option Bool) (s : RunningSet)
    (left : Option (List ℕ)) (items bytes : List ℕ) (there : Bool) (r : Reply)
    (more : Option (List ℕ)) (new : RunningSet) → here ≡ linked → bytes ≡ items → there ≡ true
    → ReadsNext there left items more → LineDoes here now s bytes r new
    → IsOne linked now s left bytes r more new
is_one linked here now s left items bytes there r more new e b h n d = record {
  next = next_line there left items bytes more b h n;
  does = subst (λ (k : LinkSet). LineDoes k now s bytes r new) e d;
}

one_done : (linked : LinkSet) (rec : Option Bool) (old : RunningSet) (limit : ℕ)
    (known : Streams) (ls : List ServedLine) (s : RunningSet) (now : Option Bool)
    (left : Streams) (t : Tally) (count : ℕ) (l : ServedLine) (more : Option (List ℕ))
    (new : RunningSet)
    → SoFar linked rec old limit known ls s now left t count → t.moves < limit
    → IsOne linked now s left.input l.bytes l.reply more new → IsAnswerOf new l.reply l.answer
    → Until linked rec old limit known (ls ++ l ∷ []) new more
one_done linked rec old limit known ls s now left t count l more new f b o a =
    let m = moves_more ls l in
    record {
      leads = record {
        does = do_more linked rec old s new ls l f.leads.does
            (subst (λ (k : Option Bool). LineDoes linked k s l.bytes l.reply new) f.recording
            o.does) a;
        few = omega (arith, m, f.moves, one_at_most l.reply);
        below = below_more 0 limit ls l f.leads.below (omega (arith, f.moves));
      };
      read = read_more known.input left.input more ls l f.read o.next;
    }

-- the same, of a line whose answer was not written
pub one_cut : (linked : LinkSet) (rec : Option Bool) (old : RunningSet) (limit : ℕ)
    (known : Streams) (ls : List ServedLine) (s : RunningSet) (now : Option Bool)
    (left : Streams) (t : Tally) (count : ℕ) (bytes : List ℕ) (r : Reply)
    (more : Option (List ℕ)) (new : RunningSet)
    → SoFar linked rec old limit known ls s now left t count → t.moves < limit
    → IsOne linked now s left.input bytes r more new
    → (ms : List ServedLine) × Until linked rec old limit known ms new more
one_cut linked rec old limit known ls s now left t count bytes r more new f b o =
    let a = unwritten new r in
    let l = line_of bytes r a.0 in (
      ls ++ l ∷ [],
      one_done linked rec old limit known ls s now left t count l more new f b o a.1,
    )

-- the same, of a line that was answered
pub one_line : (linked : LinkSet) (rec : Option Bool) (old : RunningSet) (limit : ℕ)
    (known : Streams) (ls : List ServedLine) (s : RunningSet) (now : Option Bool)
    (left : Streams) (t : Tally) (count : ℕ) (bytes : List ℕ) (r : Reply) (after : Streams)
    (new : RunningSet) (u : Tally) (recorded : Option Bool) (mid : Option (List ℕ))
    → SoFar linked rec old limit known ls s now left t count → t.moves < limit
    → IsOne linked now s left.input bytes r after.input new → Counts t r u
    → Answers new r now recorded left.output mid → Keeps mid after.output
    → (ms : List ServedLine) × SoFar linked rec old limit known ms new recorded after u (count + 1)
one_line linked rec old limit known ls s now left t count bytes r after new u recorded mid f b o c a k =
    let l = line_of bytes r a.bytes in
    let w =
    one_done linked rec old limit known ls s now left t count l after.input new f b o a.answer in
    let m = moves_more ls l in (
      ls ++ l ∷ [],
      record {
        leads = w.leads;
        recording =
            a.record_is ∙ ap (λ (o : Option Bool). recording_after o r) f.recording
            ∙ sym (recording_more rec ls l);
        read = w.read;
        written = subst (Appends known.output after.output) (sym (answers_more ls l))
            (appends_both known.output left.output after.output (answers_to ls) a.bytes f.written
            (appends_kept left.output mid after.output a.bytes a.written k));
        moves = omega (arith, m, f.moves, c.moves);
        trapped = c.trapped ∙ ap (λ (b : Bool). b || is_trap r) f.trapped ∙ sym (traps_more ls l);
        count_is = length_push ls l ∙ ap (λ (n : ℕ). n + 1) f.count_is;
      },
    )

pub nothing_served : (linked : LinkSet) (rec : Option Bool) (s : RunningSet) (limit : ℕ)
    (known : Option (List ℕ))
    → Leads linked rec s limit [] s × AreReadAtLeast known [] known
nothing_served linked rec s limit known = (
  record { does = refl; few = omega arith; below = tt },
  read_whole known known [] (keeps_itself known),
)

pub nothing_so_far : (linked : LinkSet) (rec : Option Bool) (old : RunningSet) (limit : ℕ)
    (known : Streams) (t : Tally) → t.moves ≡ 0 → t.trapped ≡ false
    → SoFar linked rec old limit known [] old rec known t 0
nothing_so_far linked rec old limit known t m n = record {
  leads = record { does = refl; few = omega arith; below = tt };
  recording = refl;
  read = keeps_itself known.input;
  written = appends_nothing known.output;
  moves = m;
  trapped = n;
  count_is = refl;
}

-- ---- the end

pub ends_so : (served : Served) (linked : LinkSet) (rec : Option Bool) (old : RunningSet)
    (limit : ℕ) (known : Streams) (ls : List ServedLine) (s : RunningSet) (now : Option Bool)
    (left : Streams) (t : Tally) (count : ℕ) (end : Option (List ℕ))
    → SoFar linked rec old limit known ls s now left t count → IsEndOf served t limit
    → (t.moves < limit → IsAtEndOf known.input ls end) → Ends served limit known.input ls end
ends_so served.Limit linked rec old limit known ls s now left t count end f e o =
    omega (arith, f.moves, f.leads.few)
ends_so served.Trapped linked rec old limit known ls s now left t count end f e o =
    (omega (arith, f.moves), sym f.trapped ∙ e.1, o e.0)
ends_so served.Ended linked rec old limit known ls s now left t count end f e o =
    (omega (arith, f.moves), sym f.trapped ∙ e.1, o e.0)

-- what was written behind a greeting
pub greeted : (a b c d : Option (List ℕ)) (greeting answers : List ℕ) → Appends a b greeting
    → Keeps b c → Appends c d ([] ++ answers) → Appends a d (greeting ++ answers)
greeted a b c d greeting answers h k w =
    appends_both a c d greeting answers (appends_kept a b c greeting h k) w

-- ---- one line

no_bytes : (line : List ℕ) → length line ≡ 0 → line ≡ []
no_bytes [] e = refl
no_bytes (x ∷ xs) e = absurd (omega arith)

reads_one : (n : ℕ) (line : List ℕ) (old new : Option (List ℕ)) → length line ≡ n → 0 < n
    → IfSome old (λ xs. line ≡ [] ++ take_through 10 xs) → DropsThrough old new 10
    → IsNextLine old line new
reads_one n line None new l p b d = (omega arith, tt)
reads_one n line (Some xs) new l p b d = (omega arith, (b, d))

reads_none : (line : List ℕ) (old new : Option (List ℕ)) → length line ≡ 0
    → IsAtEnd old → Consumes old new (appended_bytes [] line) → IsUsedUp old new
reads_none line None new l e c = tt
reads_none line (Some xs) None l e c = absurd c
reads_none [] (Some xs) (Some ys) l e c = (e, ap (λ (zs : List ℕ). Some zs) (sym c ∙ e))
reads_none (x ∷ line) (Some xs) (Some ys) l e c = absurd (omega arith)

by_count : (there : Bool) (n : ℕ) (line : List ℕ) (old new : Option (List ℕ)) → nat_lt 0 n ≡ there
    → length line ≡ n
    → IfSome old (λ xs. line ≡ [] ++ take_through 10 xs) → DropsThrough old new 10
    → (n ≡ 0 → IsAtEnd old) → Consumes old new (appended_bytes [] line)
    → ReadsNext there old line new
by_count true n line old new t l b d e c = reads_one n line old new l (ltb-true 0 n t) b d
by_count false n line old new t l b d e c =
    let z : n ≡ 0 = omega (arith, ltb-false 0 n t) in
    reads_none line old new (l ∙ z) (e z) c

pub reads_next : (n : ℕ) (cleared line : List ℕ) (old new : Option (List ℕ)) → cleared ≡ []
    → length line ≡ length cleared + n
    → IfSome old (λ xs. line ≡ cleared ++ take_through 10 xs) → DropsThrough old new 10
    → (n ≡ 0 → IsAtEnd old) → Consumes old new (appended_bytes cleared line)
    → ReadsNext (nat_lt 0 n) old line new
reads_next n cleared line old new z l b d e c =
    by_count (nat_lt 0 n) n line old new refl
    (l ∙ ap (λ (xs : List ℕ). length xs + n) z ∙ omega arith)
    (subst (λ (ys : List ℕ). IfSome old (λ xs. line ≡ ys ++ take_through 10 xs)) z b) d e
    (subst (λ (ys : List ℕ). Consumes old new (appended_bytes ys line)) z c)
