-- What was read of a reader, and written to a writer.
use Rattle.std.proofs.Common.{◌≡◌, ℕ, ◌+◌, List, [], ◌++◌, take, drop, Option, Some, None, Ok, Err, append-nil, inl, inr, ◌⊎◌}
use Rattle.std.specs.Prelude.{IfSome}
use Rattle.std.specs.Io.KnownBytes.{Consumes, Appends, IsAtEnd, Keeps}
use Rattle.std.proofs.KnownBytes.{Consumes-trans, Consumes-kept, Appends-trans}
use lib.Seq.{take-add}
use Rattle.cm_binary_forms.specs.declared.fault.DecodeFault.{DecodeFault}
use Rattle.cm_binary_forms.specs.declared.fault.DecodeReason.TheVariants.{Memory}
use Rattle.cm_binary.specs.Answers.{IsAnswer}
use Rattle.cm_binary.specs.After.{Held, Answer}
use Rattle.cm_binary.specs.Pieces.{Decodes, StaysFault, HasCome}
use Rattle.cm_binary.specs.Streams.{FailsBehind, IsReadUpTo, IsReadFrom, IsKnown}
use Rattle.cm_lemmas.proofs.Lists.{IsBytes}

-- ---- reading

ended : (left : Option (List ℕ)) (bytes : List ℕ) (answer : Answer) → IsAtEnd left → Decodes bytes answer → IsReadUpTo left bytes answer
ended left bytes (Ok c) at_end (inl m) = absurd m
ended left bytes (Ok c) at_end (inr a) = (at_end, a)
ended left bytes (Err f) at_end (inl m) = inl (inl m)
ended left bytes (Err f) at_end (inr a) = inr (at_end, a)

none_taken : (a b : Option (List ℕ)) (bytes buffer : List ℕ) (count : ℕ) → count ≡ 0 → Consumes a b (bytes ++ take count buffer) → Consumes a b bytes
none_taken a b bytes buffer count none h = rw (none, append-nil bytes) at h

pub read_ended : (old mid new : Option (List ℕ)) (bytes buffer : List ℕ) (count : ℕ) (answer : Answer) → count ≡ 0 → Consumes old mid bytes → Consumes mid new (take count buffer) → IsAtEnd new → IsBytes bytes → Decodes bytes answer → IsReadFrom old new answer
read_ended old mid new bytes buffer count answer none h k at_end fits a = (bytes, none_taken old new bytes buffer count none (Consumes-trans old mid new bytes (take count buffer) h k), fits, ended new bytes answer at_end a)

pub read_stays : (old mid new : Option (List ℕ)) (bytes piece : List ℕ) (d d' : Held) (unfed unfed' : List ℕ) (r : Answer) (f g : DecodeFault) → r ≡ Err g → g ≡ f → Consumes old mid bytes → Consumes mid new piece → IsBytes (bytes ++ piece) → HasCome d unfed bytes → (f.reason ≡ Memory) ⊎ ((before : List ℕ) → HasCome d unfed before → HasCome d' unfed' (before ++ piece) × StaysFault (before ++ piece) f) → IsReadFrom old new r
read_stays old mid new bytes piece d d' unfed unfed' r f g is e h k fits come (inl m) = (bytes ++ piece, Consumes-trans old mid new bytes piece h k, fits, rw (is, e) (inl (inl m)))
read_stays old mid new bytes piece d d' unfed unfed' r f g is e h k fits come (inr s) = (bytes ++ piece, Consumes-trans old mid new bytes piece h k, fits, rw (is, e) (inl (inr (inl (s bytes come).1))))

pub read_fails : (old mid new : Option (List ℕ)) (bytes : List ℕ) (f : DecodeFault) → Consumes old mid bytes → Keeps mid new → IsBytes bytes → FailsBehind bytes f → IsReadFrom old new (Err f)
read_fails old mid new bytes f h k fits fails = (bytes, Consumes-kept old mid new bytes h k, fits, inl fails)

-- ---- a reader whose bytes are known

known_end : (bytes left : List ℕ) (answer : Answer) → left ≡ [] → IsAnswer bytes answer → IsAnswer (bytes ++ left) answer
known_end bytes left answer none a = rw (none, append-nil bytes) a

known_by : (bytes left : List ℕ) (answer : Answer) → IsReadUpTo (Some left) bytes answer → IsKnown (bytes ++ left) answer
known_by bytes left (Ok c) (at_end, a) = known_end bytes left (Ok c) at_end a
known_by bytes left (Err f) (inl (inl m)) = inl m
known_by bytes left (Err f) (inl (inr (inl s))) = inr (inr (λ fits. s left fits))
known_by bytes left (Err f) (inl (inr (inr r))) = inr (inl r.0)
known_by bytes left (Err f) (inr (at_end, a)) = inr (inr (λ fits. known_end bytes left (Err f) at_end a))

pub read_known : (old new : Option (List ℕ)) (answer : Answer) → IsReadFrom old new answer → IfSome old (λ bytes. IsKnown bytes answer)
read_known None new answer h = tt {0}
read_known (Some all) None answer h = absurd h.1
read_known (Some all) (Some left) answer h = rw (h.1) (known_by h.0 left answer h.3)

-- ---- writing

pub written_more : (old mid new : Option (List ℕ)) (bytes : List ℕ) (written taken : ℕ) → Appends old mid (take written bytes) → Appends mid new (take taken (drop written bytes)) → Appends old new (take (written + taken) bytes)
written_more old mid new bytes written taken h k = rw (take-add written taken bytes) (Appends-trans old mid new (take written bytes) (take taken (drop written bytes)) h k)
