-- A list prints every entry: 4 blocks hold at most 56, which is the room that listing is lent.
use Rattle.std.specs.Prelude.{◌≡◌, refl, Bool, ℕ, zero, suc, ◌*◌, ◌≤◌, ◌<◌, eqb, length, get_or, take, replicate}
use Rattle.std.proofs.Math.Path.{ap}
use Rattle.std.proofs.Common.{◌∙◌, arith, le-leb, length-append, length-take-le, take_all}
use Rattle.std.proofs.lemmas.List.{get_or-take}
use Rattle.std.proofs.Math.Bool.{true, false, cond}
use mathlib.Core.List.{List, [], ◌∷◌, ◌++◌, map}
use Rattle.std.proofs.Math.ListN.{length-take}
use Rattle.leaf.specs.Leaf.{Leaf}
use Rattle.steps.specs.Refusals.{answer}
use Rattle.image.specs.Map.{Entry, only, starting_at}
use Rattle.image.specs.Order.{slots_of}
use Rattle.image.proofs.Order.{slots_within}
use Rattle.image.specs.Entries.{entries_of, list_of}
use Rattle.image.proofs.Entries.{entries_length}
use Rattle.image.specs.Image.{blocks, leaves}
use Rattle.image.proofs.Blocks.{view_size}
use Rattle.words.specs.Words.{reads}
use Rattle.index.specs.Reading.{chain_from, chain_of, entries_in, listing_table, Listing, Counted, counted, listing_is, over, listed, listing_of}
use Rattle.perform.specs.Perform.{row, rows}
use Rattle.perform.specs.Printing.{rows_to}

-- ---- how many entries there can be

leaf_within : (l : List ℕ) (b : ℕ) → length (entries_of (leaves l b)) ≤ 14
unfolding entries_of slots_of
leaf_within l b =
    let L = leaves l b in
    omega (arith, entries_length L (slots_of L), slots_within L L.size 0, view_size (reads l) b)

list_within : (l bs : List ℕ) → length (list_of (leaves l) bs) ≤ 14 * length bs
unfolding list_of
list_within l [] = omega arith
list_within l (b ∷ bs) =
    omega (arith, length-append (entries_of (leaves l b)) (list_of (leaves l) bs), leaf_within l b, list_within l bs)

chain_within : (I : ℕ → Leaf) (n b : ℕ) → length (chain_from I n b) ≤ n
unfolding chain_from
chain_within I zero b = omega arith
chain_within I (suc n) b = go (eqb (I b).next 0) (chain_within I n (I b).next)
  where
    go : (t : Bool) → length (chain_from I n (I b).next) ≤ n → suc (length (cond t [] (chain_from I n (I b).next))) ≤ suc n
    go true ih = omega arith
    go false ih = omega arith

-- "N blocks of 256 bytes", each of 14 slots
pub entries_within : (l : List ℕ) → length (entries_in l) ≤ 14 * blocks l
unfolding entries_in chain_of
entries_within l = omega (arith, list_within l (chain_of l), chain_within (leaves l) (blocks l) 0)

-- ---- the entries listed from key 0 on are all

from_0 : (es : List Entry) → starting_at 0 es ≡ es
unfolding starting_at only
from_0 [] = refl
from_0 (e ∷ es) = rw (le-leb 0 e.key (omega arith)) (ap (λ (x : List Entry). e ∷ x) (from_0 es))

all_listed : (l : List ℕ) → length l ≡ 1024 → listed l 0 (replicate 56 0) (replicate 56 0) ≡ entries_in l
all_listed l e =
    ap (λ (es : List Entry). take 56 es) (from_0 (entries_in l)) ∙ take_all 56 (entries_in l) (omega (arith, entries_within l))

-- ---- the rows of two buffers

rows_cons : (n k v : ℕ) (ks vs : List ℕ) → rows_to (suc n) (k ∷ ks) (v ∷ vs) ≡ (k ∷ v ∷ []) ∷ rows_to n ks vs
unfolding rows_to
rows_cons zero k v ks vs = refl
rows_cons (suc n) k v ks vs = ap (λ (x : List (List ℕ)). x ++ (get_or ks n 0 ∷ get_or vs n 0 ∷ []) ∷ []) (rows_cons n k v ks vs)

rows_of : (es : List Entry) (ks vs : List ℕ) → rows_to (length es) (map (λ e. e.key) es ++ ks) (map (λ e. e.val) es ++ vs) ≡ map row es
unfolding rows_to
rows_of [] ks vs = refl
rows_of (e ∷ es) ks vs = rows_cons (length es) e.key e.val _ _ ∙ ap (λ (x : List (List ℕ)). row e ∷ x) (rows_of es ks vs)

rows_taken : (m n : ℕ) (ks vs : List ℕ) → m ≤ n → rows_to m (take n ks) (take n vs) ≡ rows_to m ks vs
unfolding rows_to
rows_taken zero n ks vs h = refl
rows_taken (suc m) n ks vs h =
    let lt : m < n = omega arith in
    rw (rows_taken m n ks vs (omega arith), get_or-take n ks m 0 lt, get_or-take n vs m 0 lt)

-- ---- what a listing tells is what a list prints

abbrev lent : List ℕ
lent = replicate 56 0

module _ (l : List ℕ) (t : Counted) (keys values : List ℕ) (told : listing_is t keys values ≡ listing_of l 0 lent lent) where
  es : List Entry
  es = listed l 0 lent lent

  abbrev made : Bool → Listing
  made fine =
      let n = answer (listing_table l) in
      cond fine (listing_is (counted n (length es)) (over (map (λ e. e.key) es) lent) (over (map (λ e. e.val) es) lent))
      (listing_is (counted n 0) lent lent)

  told_rows : length l ≡ 1024 → rows_to t.count keys values ≡ rows l
  unfolding listing_of rows_to es
  told_rows long = go (eqb (answer (listing_table l)) 0) told
    where
      go : (fine : Bool) → listing_is t keys values ≡ made fine → rows_to t.count keys values ≡ cond fine (map row (entries_in l)) []
      go true e = (λ i. rows_to (e i).told.count (e i).keys (e i).values) ∙ rows_of es _ _ ∙ ap (map row) (all_listed l long)
      go false e = λ i. rows_to (e i).told.count (e i).keys (e i).values

  -- no listing tells more than the buffers hold
  pub list_few : t.count ≤ 56
  unfolding listing_of es
  list_few = go (eqb (answer (listing_table l)) 0) told
    where
      go : (fine : Bool) → listing_is t keys values ≡ made fine → t.count ≤ 56
      go true e = omega (arith, ap (λ (x : Listing). x.told.count) e, length-take 56 (starting_at 0 (entries_in l)))
      go false e = omega (arith, ap (λ (x : Listing). x.told.count) e)

  pub list_rows : length l ≡ 1024 → t.count ≤ length keys
      → rows_to (length (take t.count keys)) (take t.count keys) (take t.count values) ≡ rows l
  list_rows long few =
      ap (λ (n : ℕ). rows_to n (take t.count keys) (take t.count values)) (length-take-le t.count keys few)
      ∙ rows_taken t.count t.count keys values (omega arith) ∙ told_rows long
