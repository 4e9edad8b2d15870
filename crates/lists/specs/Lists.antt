-- The lists of set, del and the plain put: document 01's section "What each call does", sentence by sentence. To be
-- believed.
-- An image is its words, `w`. A place is the number of a word: block b has the words from 32b on and the lines from 4b
-- on. A list is made of sections: `one_store p v` is a store, the write-back of its line and a fence, `one_line t p v`
-- has the stores t before it, and `two_parts s r t p v` before these the stores s, the write-backs r and a fence.
use Rattle.std.specs.Prelude.{ℕ, suc, ◌+◌, ◌-◌, ◌*◌, ◌/◌, ◌%◌, ◌^◌, Bool, cond, not, List, [], ◌∷◌, ◌++◌, ltb, eqb, Option, Some, None}
use Rattle.words.specs.Bools.{both}
use Rattle.header.specs.Header.{alt_in, marked, cleared, fingerprint_of}
use Rattle.leaf.specs.Leaf.{Leaf, occ_in, head_of, block, view}
use Rattle.leaf.specs.Search.{lowest_vacant, count}
use Rattle.steps.specs.declared.Step.{Step}
use Rattle.steps.specs.declared.Step.TheVariants.{Store as store, WriteBack as write_back}
use Rattle.steps.specs.Model.{line}
use Rattle.steps.specs.Shapes.{one_store, one_line, two_parts}
use Rattle.image.specs.Copies.{Copy, copies}

-- ---- places and words of a leaf

-- word i of block b; "key of slot s, then its value"; "sibling 0, sibling 1"
abbrev pub word_place : ℕ → ℕ → ℕ
word_place b i = 32 * b + i

abbrev pub key_place : ℕ → ℕ → ℕ
key_place b s = word_place b (2 + 2 * s)

abbrev pub val_place : ℕ → ℕ → ℕ
val_place b s = word_place b (3 + 2 * s)

abbrev pub sib_place : ℕ → ℕ → ℕ
sib_place b a = word_place b (30 + a)

-- words 0 and 1 of a header
abbrev pub low_word : ℕ → ℕ
low_word h = h % 2 ^ 64

abbrev pub high_word : ℕ → ℕ
high_word h = h / 2 ^ 64

-- the header of block b
abbrev pub head_in : (ℕ → ℕ) → ℕ → ℕ
head_in w b = head_of (block w b)

-- the new entry k, v stored in slot s
abbrev pub entry_steps : ℕ → ℕ → ℕ → ℕ → List Step
entry_steps b s k v = store (key_place b s) k ∷ store (val_place b s) v ∷ []

-- ---- set

-- "Set: store the value word, write back its line, fence. 3 steps."
unfoldable pub set_list : ℕ → ℕ → ℕ → List Step
set_list b s v = one_store (val_place b s) v

-- ---- del

-- ".. store the leaf's active sibling in the active sibling of the leaf before it, write back that line, fence."
unfoldable pub unlink_list : (ℕ → ℕ) → ℕ → ℕ → List Step
unlink_list w before b = one_store (sib_place before (alt_in (head_in w before))) (view w b).next

-- "Otherwise store word 0 with the bit cleared, write back, fence. 3 steps."
unfoldable pub clear_list : (ℕ → ℕ) → ℕ → ℕ → List Step
clear_list w b s = one_store (word_place b 0) (low_word (cleared (head_in w b) s))

-- "Del: if the entry is the only one of a leaf other than block 0 .." The leaf is block b, the entry is in its slot s.
unfoldable pub is_alone : (ℕ → ℕ) → ℕ → Bool
is_alone w b = both (not (eqb b 0)) (eqb (count (view w b)) 1)

unfoldable pub del_list : (ℕ → ℕ) → ℕ → ℕ → ℕ → List Step
del_list w before b s = cond (is_alone w b) (unlink_list w before b) (clear_list w b s)

-- ---- plain put: the leaf L in block b has the header h

-- "In line 0: store key, value, word 0 with the bit and fingerprint; write back; fence. 5 steps."
unfoldable pub near_put : ℕ → ℕ → ℕ → ℕ → ℕ → List Step
near_put h b s k v = one_line (entry_steps b s k v) (word_place b 0) (low_word (marked h s (fingerprint_of k)))

-- "Slots 0 to 2 are in line 0, 3 to 6 in line 1, 7 to 10 in line 2, 11 to 13 in line 3": the last slot of a slot's line
abbrev pub last_beside : ℕ → ℕ
last_beside s = cond (ltb s 7) 6 (cond (ltb s 11) 10 13)

-- "Then, for each remaining vacant slot of that line in rising order, copy the entry of slot 0, then 1, then 2, while
-- there are any, storing key then value." (`copies` says from where and to where; there always are any, since slots 0
-- to 2 are occupied where the lowest vacant slot is past them.)
unfoldable pub copies_beside : ℕ → ℕ → List Copy
copies_beside h s = copies (occ_in h) 0 (suc s) (last_beside s - s)

abbrev pub copy_steps : Leaf → ℕ → List Copy → List Step
copy_steps L b [] = []
copy_steps L b (c ∷ cs) =
    store (key_place b c.to) (L.key c.from) ∷ store (val_place b c.to) (L.val c.from) ∷ copy_steps L b cs

-- ".. with the new entry and the copies marked, the copies' old bits cleared, new fingerprints at the filled slots, all
-- others kept."
abbrev pub copied_head : Leaf → ℕ → List Copy → ℕ
copied_head L h [] = h
copied_head L h (c ∷ cs) =
    copied_head L (marked (cleared h c.from) c.to (fingerprint_of (L.key c.from))) cs

unfoldable pub filled_head : ℕ → Leaf → ℕ → ℕ → ℕ
filled_head h L s k = copied_head L (marked h s (fingerprint_of k)) (copies_beside h s)

-- "In line L of 1 to 3: store key and value", and the copies
abbrev pub far_stores : ℕ → Leaf → ℕ → ℕ → ℕ → ℕ → List Step
far_stores h L b s k v = entry_steps b s k v ++ copy_steps L b (copies_beside h s)

-- "Write back line L, fence. Store word 1, .."
abbrev pub far_backs : ℕ → ℕ → List Step
far_backs b s = write_back (line (key_place b s)) ∷ []

abbrev pub high_store : ℕ → Leaf → ℕ → ℕ → ℕ → List Step
high_store h L b s k = store (word_place b 1) (high_word (filled_head h L s k)) ∷ []

-- ".. then word 0 (..). Write back line 0, fence. At most 14 steps."
unfoldable pub far_put : ℕ → Leaf → ℕ → ℕ → ℕ → ℕ → List Step
far_put h L b s k v =
    two_parts (far_stores h L b s k v) (far_backs b s) (high_store h L b s k) (word_place b 0) (low_word (filled_head h L s k))

unfoldable pub put_at : ℕ → Leaf → ℕ → ℕ → ℕ → ℕ → List Step
put_at h L b s k v = cond (ltb s 3) (near_put h b s k v) (far_put h L b s k v)

-- "Plain put (target not full): take the lowest vacant slot."
abbrev pub put_found : Option ℕ → ℕ → Leaf → ℕ → ℕ → ℕ → List Step
put_found (Some s) h L b k v = put_at h L b s k v
put_found None h L b k v = []

unfoldable pub plain_put : ℕ → Leaf → ℕ → ℕ → ℕ → List Step
plain_put h L b k v = put_found (lowest_vacant (occ_in h) 14) h L b k v
