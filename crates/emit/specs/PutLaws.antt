-- The plain put, put together from its stretches.
use Rattle.std.specs.Prelude.{ℕ, ◌+◌, ◌*◌, List, [], ◌∷◌, ◌++◌, ◌≡◌}
use Rattle.std.proofs.Common.{arith, append_assoc, ◌∙◌}
use Rattle.std.proofs.Math.Path.{refl, sym, ap}
use Rattle.std.proofs.Math.ListN.{length, length-append}
use Rattle.leaf.specs.Leaf.{Leaf}
use Rattle.steps.specs.declared.Step.{Step}
use Rattle.steps.specs.declared.Step.TheVariants.{Store as store, WriteBack as write_back, Fence as fence}
use Rattle.steps.specs.Model.{line}
use Rattle.steps.specs.Shapes.{one_store}
use Rattle.lists.proofs.Beside.{copy_length}
use Rattle.lists.specs.Lists.{word_place, key_place, low_word, high_word, entry_steps, copy_steps, copies_beside, filled_head}
use Rattle.lists.specs.Lists.{far_put}
use Rattle.emit.specs.Appended.{appended, stretch_more}

-- a line written back, and a fence
abbrev pub settling : ℕ → List Step
settling l = write_back l ∷ fence ∷ []

-- word 1, then word 0 with its write-back and a fence
abbrev pub header_steps : ℕ → ℕ → List Step
header_steps b h = store (word_place b 1) (high_word h) ∷ one_store (word_place b 0) (low_word h)

module _ (h : ℕ) (L : Leaf) (b s k v : ℕ) where
  far_length : length (far_put h L b s k v) ≡ 8 + 2 * length (copies_beside h s)
  unfolding far_put
  far_length =
      length-append (entry_steps b s k v ++ copy_steps L b (copies_beside h s)) _
      ∙ omega (arith, copy_length L b (copies_beside h s))

  pub far_put_lem : (at n p g : ℕ) (l0 l1 l2 l3 l4 : List ℕ) → l1 ≡ appended l0 at (entry_steps b s k v)
      → l2 ≡ appended l1 (at + 2) (copy_steps L b (copies_beside h s)) → n ≡ length (copies_beside h s)
      → p ≡ line (key_place b s) → l3 ≡ appended l2 (at + 2 + 2 * n) (settling p)
      → g ≡ filled_head h L s k → l4 ≡ appended l3 (at + 2 + 2 * n + 2) (header_steps b g)
      → (l4 ≡ appended l0 at (far_put h L b s k v)) × (8 + 2 * n ≡ length (far_put h L b s k v))
  unfolding far_put
  far_put_lem at n p g l0 l1 l2 l3 l4 e1 e2 en ep e3 eg e4 =
      let E = entry_steps b s k v in
      let C = copy_steps L b (copies_beside h s) in
      let S = settling (line (key_place b s)) in
      let m : length (E ++ C) ≡ 2 + 2 * n = omega (arith, length-append E C, copy_length L b (copies_beside h s)) in (
        stretch_more l0 l3 at (at + 2 + 2 * n + 2) ((E ++ C) ++ S)
            (stretch_more l0 l2 at (at + 2 + 2 * n) (E ++ C) (stretch_more l0 l1 at (at + 2) E e1 refl l2 C e2)
            (omega arith) l3 S
            (e3 ∙ ap (λ (x : ℕ). appended l2 (at + 2 + 2 * n) (settling x)) ep))
            (omega (arith, length-append (E ++ C) S))
            l4
            (header_steps b g)
            e4
            ∙ ap (appended l0 at) (append_assoc (E ++ C) S (header_steps b g))
            ∙ ap (λ (x : ℕ). appended l0 at ((E ++ C) ++ (S ++ header_steps b x))) eg,
        ap (λ (x : ℕ). 8 + 2 * x) en ∙ sym far_length,
      )
