-- A block of an image, as the code reads it.
use Rattle.std.specs.Prelude.{◌≡◌, ◌≢◌, List, ℕ, ◌+◌, ◌-◌, ◌*◌, take, drop, Option, Some, None, false, is_some}
use Rattle.std.proofs.Common.{sym, refl, ap₂, ◌∙◌, arith}
use Rattle.words.specs.Words.{reads}
use Rattle.words.specs.WordLaws.{reads_block}
use Rattle.header.specs.Header.{whole, head_at}
use Rattle.leaf.proofs.LeafLaws.{block_at}
use Rattle.image.specs.Image.{leaves}
use Rattle.lists.specs.Lists.{head_in}
use Rattle.words.specs.WordLaws.{Bytes}
use Rattle.leaf.specs.Leaf.{Leaf}
use Rattle.lists.proofs.Bytes.{reads_small}
use Rattle.split.specs.Full.{HasLeaf}

-- the header at the start of a block's part, from a up to e
pub part_head : (l : List ℕ) (b a e : ℕ) → a ≡ 256 * b → e ≡ a + 256 → head_at (take (e - a) (drop a l)) 0 ≡ head_in (reads l) b
unfolding head_at reads
part_head l b a e p q =
    let n : e - a ≡ 256 = omega arith in
    rw (n, p)
    (ap₂ whole (reads_block l b 0 (omega arith) ∙ sym (block_at (reads l) b 0 (omega arith)))
    (reads_block l b 1 (omega arith) ∙ sym (block_at (reads l) b 1 (omega arith))))

-- a put into a full leaf rests on this: the leaf and its header are the image's
pub has_leaf : (l : List ℕ) (h : ℕ) (L : Leaf) (b c : ℕ) → Bytes l → h ≡ head_in (reads l) b → L ≡ leaves l b → b ≢ c
    → HasLeaf h L b c (reads l)
has_leaf l h L b c bytes head same apart = record { head = sym head; leaf = sym same; words = reads_small l bytes; apart = apart }

-- an Option by its test
pub not_some : (x : Option ℕ) → is_some x ≡ false → x ≡ None
not_some (Some s) h = absurd (cc)
not_some None h = refl
