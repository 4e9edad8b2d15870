-- The freed block is free after the del (Freed), and the next split takes the lowest free block.
use Rattle.std.specs.Prelude.{◌≡◌, ◌≢◌, List, ℕ, ◌/◌, ◌≤◌, Some}
use Rattle.std.proofs.Common.{arith, ap}
use Rattle.words.specs.WordLaws.{Bytes}
use Rattle.leaf.specs.Search.{count}
use Rattle.image.specs.Chain.{LowestFree}
use Rattle.image.specs.Image.{blocks, leaves}
use Rattle.image.proofs.ImageLaws.{good_length}
use Rattle.index.specs.Reading.{chain_of}
use Rattle.lists.proofs.SetDel.{near_block}
use Rattle.writing.specs.Writing.{target_of, free_of, del_of}
use Rattle.demands.proofs.Free.{taken_again}
use Rattle.demands.proofs.Accepted.{judged, del_accepted}
use Rattle.demands.specs.Demand3.{ran}
use Rattle.demands.proofs.Freed.{long, freed}

module _ (l list : List ℕ) (k : ℕ) (bytes : Bytes l) (e : (del_of l list k).answer ≡ 0) (other : target_of l k ≢ 0)
    (alone : count (leaves l (target_of l k)) ≡ 1) where
  abbrev b : ℕ
  b = target_of l k

  -- the image that the del leaves
  abbrev m : List ℕ
  m = ran l (del_of l list k)

  -- THE STATEMENT: the next split takes the freed block, or a lower one that is free too
  pub freed_taken : (c : ℕ) × (free_of m ≡ Some c) × LowestFree (blocks m) (chain_of m) c × (c ≤ b)
  freed_taken =
      let A = del_accepted l list k bytes e in
      let J = judged l k A.fine A.sound in
      let z = good_length l A.fine in
      let n = near_block (leaves l) (blocks l) J.front b J.behind J.sound z.some in
      taken_again m b (omega (arith, n, ap (λ (n : ℕ). n / 256) (long l list k bytes e other alone)))
      (freed l list k bytes e other alone)
