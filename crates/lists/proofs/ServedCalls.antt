-- DEMAND 2, AND THE ROWS OF DEMAND 3, FOR THE LISTS: on a sound image of bytes, where a call is accepted, its list
-- runs and cuts as promised. The target leaf is block b, between the leaves xs and ys of the chain.
use Rattle.std.specs.Prelude.{ℕ, ◌^◌, ◌<◌, List, ◌∷◌, ◌++◌, ◌≡◌, ◌≢◌}
use Rattle.words.specs.Words.{reads}
use Rattle.words.specs.WordLaws.{Bytes}
use Rattle.leaf.specs.Leaf.{Taken}
use Rattle.leaf.specs.Search.{count}
use Rattle.steps.specs.Model.{Rule}
use Rattle.steps.proofs.Settling.{Lawful}
use Rattle.image.specs.Map.{put_in, without}
use Rattle.image.specs.Chain.{Sound, LowestFree}
use Rattle.image.specs.Image.{blocks, leaves}
use Rattle.image.proofs.ImageLaws.{Sized}
use Rattle.image.specs.Target.{Target}
use Rattle.image.proofs.Edits.{Absent}
use Rattle.image.specs.Entries.{list_of}
use Rattle.lists.specs.Lists.{set_list, del_list}
use Rattle.lists.specs.FullLists.{put_list}
use Rattle.lists.specs.Served.{per_put, per_change}
use Rattle.lists.specs.Bytes.{ServedBytes}
use Rattle.lists.proofs.Bytes.{reads_small, served_bytes}
use Rattle.lists.specs.SetDel.{Behind}
use Rattle.lists.proofs.SetDel.{set_served, del_served}
use Rattle.lists.proofs.Put.{put_served}

module _ (rule : Rule) (L : Lawful rule) (l : List ℕ) (size : Sized l) (bytes : Bytes l) (xs : List ℕ) (b : ℕ) (ys : List ℕ)
    (S : Sound (leaves l) (blocks l) (xs ++ (b ∷ ys))) (k : ℕ) where
  -- the key is in slot s of its leaf
  module _ (s : ℕ) (taken : Taken (leaves l b) s) (key : (leaves l b).key s ≡ k) where
    pub set_call : (v : ℕ) → v < 2 ^ 64
        → ServedBytes rule l (xs ++ (b ∷ ys)) (set_list b s v) (put_in k v (list_of (leaves l) (xs ++ (b ∷ ys)))) per_change
    set_call v small =
        served_bytes rule l (xs ++ (b ∷ ys)) (set_list b s v) _ per_change size.whole bytes
        (rw key at
        (set_served rule L (reads l) (reads_small l bytes) (blocks l) size.some xs b ys S s taken v small))

    -- p is the leaf before, where there is one
    pub del_call : (p : ℕ) → (b ≢ 0 → Behind xs p)
        → ServedBytes rule l (xs ++ (b ∷ ys)) (del_list (reads l) p b s) (without k (list_of (leaves l) (xs ++ (b ∷ ys)))) per_change
    del_call p before =
        served_bytes rule l (xs ++ (b ∷ ys)) (del_list (reads l) p b s) _ per_change size.whole bytes
        (rw key at
        (del_served rule L (reads l) (reads_small l bytes) (blocks l) size.some xs p b ys S before s taken))

  -- the key is absent; if its leaf is full, c is the lowest free block
  pub put_call : k < 2 ^ 64 → (v : ℕ) → v < 2 ^ 64 → Target (leaves l) b ys k → Absent (leaves l b) k → (c : ℕ)
      → (count (leaves l b) ≡ 14 → LowestFree (blocks l) (xs ++ (b ∷ ys)) c)
      → ServedBytes rule l (xs ++ (b ∷ ys)) (put_list (reads l) b c k v) (put_in k v (list_of (leaves l) (xs ++ (b ∷ ys)))) per_put
  put_call key v val target absent c room =
      served_bytes rule l (xs ++ (b ∷ ys)) (put_list (reads l) b c k v) _ per_put size.whole bytes
      (put_served rule L (reads l) (reads_small l bytes) (blocks l) size.some size.most xs b c ys S k v key val target absent
      (λ full. ((room full).inside, (room full).free)))
