-- Values that are equal can stand for each other.
use Rattle.std.proofs.Common.{◌≡◌, subst}

pub four : {A B C D : Type 0} (P : A → B → C → D → Type 0) (a x : A) (b y : B) (c z : C) (d u : D) → x ≡ a → y ≡ b → z ≡ c → u ≡ d → P x y z u → P a b c d
four {A} {B} {C} {D} P a x b y c z d u ea eb ec ed h =
    subst (λ (k : A). P k b c d) ea (subst (λ (k : B). P x k c d) eb (subst (λ (k : C). P x y k d) ec (subst (λ (k : D). P x y z k) ed h)))
