-- What can't fail to hold: of two cases that leave no third, one; for the laws that something always shows itself.
use Rattle.std.proofs.Common.{◌⊎◌, inl, inr}

-- it can't fail to hold
abbrev pub NotNever : Type 0 → Type 0
NotNever A = ¬ (¬ A)

pub sure : {A : Type 0} → A → NotNever A
sure a never = never a

pub follow : {A B : Type 0} → NotNever A → (A → NotNever B) → NotNever B
follow some next never = some (λ a. next a never)

-- it holds or it doesn't
pub holds_or : (A : Type 0) → NotNever (A ⊎ (¬ A))
holds_or A never = never (inr (λ a. never (inl a)))
