-- What a text is read as, its printed text is read as again.
use Rattle.std.proofs.Common.{◌≡◌, ℕ, List, [], ◌∷◌, ◌++◌, length, Option, None, Result, Ok, refl, ap, subst, ◌∙◌, append-nil}
use Rattle.cm_wit_tokens.specs.declared.token.Form.{Form}
use Rattle.cm_wit_tokens.specs.declared.token.Form.TheVariants as form
use Rattle.cm_wit_tokens.specs.declared.token.Token.{Token}
use Rattle.cm_wit_tokens.specs.Tokens.{lexed}
use Rattle.cm_wit_tokens.specs.declared.fault.WitFault.{WitFault}
use Rattle.cm_wit_tokens.specs.Faults.{Fault}
use Rattle.cm_wit_tokens.specs.Grammar.{Grammar}
use Rattle.cm_wit_tokens.specs.Lists.{is_member}
use Rattle.cm_wit_tokens.specs.Whole.{to_end, whole, placed, text_reads}
use Rattle.cm_wit_reading.specs.Files.{file}
use Rattle.cm_wit_reading.specs.Trees.{File}
use Rattle.cm_wit_package.specs.Printed.{file_text}
use Rattle.cm_wit_package.specs.TreeTokens.{file_tokens}
use Rattle.cm_wit_package.proofs.Lexing.{forms}
use Rattle.cm_wit_package.proofs.Goods.{AreGood, tokens_good}
use Rattle.cm_wit_package.proofs.TextTokens.{file_text_tokens}
use Rattle.cm_wit_package.specs.Words.{words}
use Rattle.cm_wit_package.proofs.Chains.{at, Behind, behind_all, Canon}
use Rattle.cm_wit_package.proofs.ItemLaws.{ends}
use Rattle.cm_wit_package.proofs.FileLaws.{file_law}
use Rattle.cm_wit_tokens.proofs.ReadLaws.{ok_is}
use Rattle.cm_wit_reading.proofs.TreesLaws.{placed_ok}
use Rattle.cm_wit_tokens.proofs.Tools.{then_ok}

-- ---- texts that were read

abbrev fault_ok : {A : Type 0} → A → Result A WitFault
fault_ok x = Ok x

end_ok : (x y : File) (rest : List Token) → to_end x rest ≡ Ok y → (rest ≡ []) × (x ≡ y)
end_ok x y [] e = (refl, ok_is x y e)
end_ok x y (t ∷ rest) e = absurd cc

-- ---- good tokens, with and without operators

good_kept : (fs : List Form) → AreGood fs → AreGood (words fs)
good_kept [] g = tt
good_kept (form.Operator o ∷ fs) g = good_kept fs g.1
good_kept (form.Keyword k ∷ fs) g = (tt, good_kept fs g.1)
good_kept (form.Identifier w ∷ fs) g = (g.0, good_kept fs g.1)
good_kept (form.Version v ∷ fs) g = (g.0, good_kept fs g.1)
good_kept (form.Integer n ∷ fs) g = (g.0, good_kept fs g.1)

good_all : (fs : List Form) → AreGood (words fs) → AreGood fs
good_all [] g = tt
good_all (form.Operator o ∷ fs) g = (tt, good_all fs g)
good_all (form.Keyword k ∷ fs) g = (tt, good_all fs g.1)
good_all (form.Identifier w ∷ fs) g = (g.0, good_all fs g.1)
good_all (form.Version v ∷ fs) g = (g.0, good_all fs g.1)
good_all (form.Integer n ∷ fs) g = (g.0, good_all fs g.1)

-- ---- the laws

-- the tokens of a text that was read have the names and numbers of those of the tree
read_canon : (text : List ℕ) (f : File) → text_reads file text ≡ Ok f → (rest : List Token) × (rest ≡ []) × Canon file f (lexed text).tokens rest (file_tokens f) (at is_member) ends
read_canon text f e =
    let w = placed_ok (length text) (lexed text).stop (whole file (lexed text).tokens) f e in
    let a = then_ok (file.reads (lexed text).tokens) (λ (u : File × List Token). to_end u.0 u.1) f w in
    let k = end_ok a.0.0 f a.0.1 a.2 in
    (a.0.1, k.0, subst (λ (g : File). Canon file g (lexed text).tokens a.0.1 (file_tokens g) (at is_member) ends) k.1 (file_law.at a.0.0 (lexed text).tokens a.0.1 a.1))

pub printed_words : (f : File) (text : List ℕ) → text_reads file text ≡ Ok f → words (forms (lexed text).tokens) ≡ words (file_tokens f)
printed_words f text e =
    let c = read_canon text f e in
    c.2.same ∙ (ap (λ (us : List Token). words (file_tokens f) ++ words (forms us)) c.1 ∙ append-nil (words (file_tokens f)))

printed_good : (text : List ℕ) (f : File) → text_reads file text ≡ Ok f → AreGood (file_tokens f)
printed_good text f e =
    good_all (file_tokens f) (subst AreGood (printed_words f text e) (good_kept (forms (lexed text).tokens) (tokens_good text)))

pub printed_tokens : (f : File) (text : List ℕ) → text_reads file text ≡ Ok f → (forms (lexed (file_text f)).tokens ≡ file_tokens f) × ((lexed (file_text f)).stop ≡ None)
printed_tokens f text e =
    let s = file_text_tokens f (printed_good text f e) in
    (ap (λ (p : List Form × Option ℕ). p.0) s, ap (λ (p : List Form × Option ℕ). p.1) s)

all_read : (r : Result (File × List Token) Fault) (size : ℕ) (stop : Option ℕ) (f : File) → r ≡ Ok (f, []) → stop ≡ None → (g : Grammar File) (ts : List Token) → g.reads ts ≡ r → placed size stop (whole g ts) ≡ Ok f
all_read r size stop f e s g ts q = rw (q ∙ e, s) refl

pub printed_read : (f : File) (text : List ℕ) → text_reads file text ≡ Ok f → text_reads file (file_text f) ≡ Ok f
printed_read f text e =
    let t = printed_tokens f text e in
    let ts = (lexed (file_text f)).tokens in
    let b : Behind (file_tokens f) ts [] = subst (λ (fs : List Form). Behind fs ts []) t.0 (behind_all ts) in
    all_read (Ok (f, [])) (length (file_text f)) (lexed (file_text f)).stop f refl t.1 file ts ((read_canon text f e).2.again ts [] b refl)
