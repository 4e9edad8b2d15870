-- The lists of a put into a full leaf, and of put: document 01's section "What each call does", sentence by sentence.
-- To be believed.
use Rattle.std.specs.Prelude.{ℕ, suc, ◌+◌, ◌-◌, ◌*◌, Bool, true, false, cond, List, [], ◌∷◌, ◌++◌, ltb, drop, replicate, Option, Some, None}
use Rattle.words.specs.Update.{upd}
use Rattle.header.specs.Header.{alt_in, marked, flipped, fingerprint_of, cleared_all}
use Rattle.leaf.specs.Leaf.{Leaf, occ_in, view}
use Rattle.leaf.specs.Search.{lowest_vacant}
use Rattle.steps.specs.declared.Step.{Step}
use Rattle.steps.specs.declared.Step.TheVariants.{Store as store, WriteBack as write_back}
use Rattle.steps.specs.Lists.{run_all}
use Rattle.steps.specs.Shapes.{two_parts}
use Rattle.steps.specs.Stores.{stores_from}
use Rattle.image.specs.Order.{slots_of}
use Rattle.lists.specs.Lists.{word_place, low_word, high_word, head_in, put_at, plain_put}

-- ---- the new leaf's words

-- ".. the seven largest keys of the full leaf (..), rising": the slots that have them, and the smallest moved key
unfoldable pub moved_slots : Leaf → List ℕ
moved_slots L = drop 7 (slots_of L)

abbrev pub first_key : Leaf → List ℕ → ℕ
first_key L [] = 0
first_key L (s ∷ ss) = L.key s

-- "where the new key is above the smallest moved key"; else it is below it, since it is not in the leaf
unfoldable pub goes_up : Leaf → ℕ → Bool
goes_up L k = ltb (first_key L (moved_slots L)) k

-- "in the header the bits and fingerprints of the filled slots, lock and alt 0": the entries of the slots ss in the
-- slots from t on, and where it goes there "the new entry in slot 6"
abbrev pub marked_from : Leaf → ℕ → ℕ → List ℕ → ℕ
marked_from L h t [] = h
marked_from L h t (s ∷ ss) = marked_from L (marked h t (fingerprint_of (L.key s))) (suc t) ss

abbrev pub new_header : Bool → Leaf → List ℕ → ℕ → ℕ
new_header up L ss k = cond up (marked (marked_from L 0 7 ss) 6 (fingerprint_of k)) (marked_from L 0 7 ss)

abbrev pub entry_words : Leaf → List ℕ → List ℕ
entry_words L [] = []
entry_words L (s ∷ ss) = L.key s ∷ L.val s ∷ entry_words L ss

-- "Its 32 words (..) in rising order: the seven largest keys of the full leaf in slots 7 to 13, rising; sibling 0 the
-- old active sibling; (..) the new entry in slot 6; in the header (..); all else zero."
abbrev pub new_words : Bool → Leaf → List ℕ → ℕ → ℕ → List ℕ
new_words up L ss k v =
    low_word (new_header up L ss k) ∷ high_word (new_header up L ss k)
    ∷ (replicate 12 0 ++ (cond up k 0 ∷ cond up v 0 ∷ (entry_words L ss ++ (L.next ∷ 0 ∷ []))))

-- ".. with moved bits cleared and alt flipped"
abbrev pub switched_head : (ℕ → ℕ) → ℕ → ℕ
switched_head w b = flipped (cleared_all (head_in w b) (moved_slots (view w b)))

-- "Store the new block's number in the old leaf's inactive sibling." The old leaf is block b, the new one block c.
abbrev pub link_word : (ℕ → ℕ) → ℕ → ℕ
link_word w b = 30 + (1 - alt_in (head_in w b))

abbrev pub link_store : (ℕ → ℕ) → ℕ → ℕ → List Step
link_store w b c = store (word_place b (link_word w b)) c ∷ []

-- "Its 32 words are stored in rising order", and the link
abbrev pub split_stores : (ℕ → ℕ) → ℕ → ℕ → ℕ → ℕ → List Step
split_stores w b c k v =
    stores_from (word_place c 0) (new_words (goes_up (view w b) k) (view w b) (moved_slots (view w b)) k v)
    ++ link_store w b c

-- "Write back the new leaf's four lines in order, then line 3 of the old leaf"
abbrev pub split_backs : ℕ → ℕ → List Step
split_backs b c =
    write_back (4 * c) ∷ write_back (4 * c + 1) ∷ write_back (4 * c + 2) ∷ write_back (4 * c + 3) ∷ write_back (4 * b + 3) ∷ []

-- ".. ; fence. Store the old leaf's word 0 (..); write back line 0; fence. 42 steps."
unfoldable pub split_list : (ℕ → ℕ) → ℕ → ℕ → ℕ → ℕ → List Step
split_list w b c k v = two_parts (split_stores w b c k v) (split_backs b c) [] (word_place b 0) (low_word (switched_head w b))

-- the image when a whole list has been run
abbrev pub after : List Step → (ℕ → ℕ) → ℕ → ℕ
after l w = run_all upd l w

-- "Where the new key is below the smallest moved key, a plain put into the old leaf follows, after that last fence. At
-- most 56 steps, 8 of them line writes."
-- "Correction to 001. Its Algorithm 3, lines 20 to 23, puts into the old leaf before the header is switched. The slot
-- it takes is vacant only in the copy of the header; in the memory it still holds a moved entry. A cut there loses
-- that entry. Ours switches first." So this is the put of the image after the split. With the keys 1 to 14 put in
-- order and then 0, 001's order stores the key 0 over the key 13 of slot 0, which the header in the memory still
-- calls occupied, and the new leaf is not linked yet: a cut there loses the entry 13.
abbrev pub put_below : Bool → (ℕ → ℕ) → ℕ → ℕ → ℕ → ℕ → List Step
put_below true w b c k v = []
put_below false w b c k v =
    let x = after (split_list w b c k v) w in plain_put (head_in x b) (view x b) b k v

unfoldable pub full_put : (ℕ → ℕ) → ℕ → ℕ → ℕ → ℕ → List Step
full_put w b c k v = split_list w b c k v ++ put_below (goes_up (view w b) k) w b c k v

-- ---- put: b is the target leaf, c "the lowest block not in the chain"

abbrev pub put_into : Option ℕ → (ℕ → ℕ) → ℕ → ℕ → ℕ → ℕ → List Step
put_into (Some s) w b c k v = put_at (head_in w b) (view w b) b s k v
put_into None w b c k v = full_put w b c k v

unfoldable pub put_list : (ℕ → ℕ) → ℕ → ℕ → ℕ → ℕ → List Step
put_list w b c k v = put_into (lowest_vacant (occ_in (head_in w b)) 14) w b c k v
