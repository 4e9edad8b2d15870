-- The entries that a plain put past line 0 moves out of it.
use Rattle.std.specs.Prelude.{Bool, cond, List, [], ◌∷◌, ℕ, zero, suc}

-- an entry copied from one slot to another
pub record Copy : Type 0 where
  pub from : ℕ
  pub to : ℕ

-- "for each remaining vacant slot of that line in rising order, copy the entry of slot 0, then 1, then 2, while there
-- are any": the slot i and those after it, to the vacant ones of the n slots from t on, where occ says which are
-- occupied. (There always are: at most three slots remain in the line.)
unfoldable pub copies : (ℕ → Bool) → ℕ → ℕ → ℕ → List Copy
copies occ i t zero = []
copies occ i t (suc n) =
    cond (occ t) (copies occ i (suc t) n) (record { from = i; to = t } ∷ copies occ (suc i) (suc t) n)
