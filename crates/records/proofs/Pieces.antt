-- Bytes that are written one piece after another, in front of zeros.
use Rattle.std.proofs.Common.{◌≡◌, ℕ, List, ◌++◌, ap, ◌∙◌, append_assoc}

-- one piece after another
pub then : {v u : List ℕ} (w a b : List ℕ) → v ≡ w ++ a → u ≡ v ++ b → u ≡ w ++ (a ++ b)
then w a b p q = q ∙ ap (λ l. l ++ b) p ∙ append_assoc w a b
