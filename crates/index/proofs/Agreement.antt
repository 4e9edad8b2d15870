-- On a sound image the three calls agree with its map: find gives the value of a key, listing the entries from a key on,
-- strictly rising, and recovery the leaves of the chain.
use Rattle.std.specs.Prelude.{◌≡◌, ℕ, zero, suc, min, ◌≤◌, length, take, Option, Some, None}
use Rattle.std.proofs.Math.Path.{refl, ap, subst}
use Rattle.std.proofs.Common.{sym, ◌∙◌}
use Rattle.std.proofs.Math.Bool.{true, false, not}
use mathlib.Core.List.{List, [], ◌∷◌, map}
use Rattle.leaf.specs.Search.{smallest_of}
use Rattle.steps.specs.Refusals.{bad_image}
use Rattle.steps.proofs.Refusals.{row_left}
use Rattle.image.specs.Map.{Entry, Sorted, Lists, lookup, starting_at}
use Rattle.image.proofs.ListLaws.{starting_lists, lookup_some, lookup_none}
use Rattle.image.specs.Entries.{list_of}
use Rattle.image.proofs.Entries.{chain_lists}
use Rattle.image.specs.Image.{blocks, leaves, SoundImage, map_of}
use Rattle.index.specs.Reading.{chain_of, entries_in, told, find_of, over, counted, listing_is, listed, listing_of}
use Rattle.index.specs.Reading.{sizes, recovery_is, is_short, recovery_of}
use Rattle.index.proofs.SoundTest.{sound_test, sound_chain}
use Rattle.index.proofs.FindLaws.{find_by}
use Rattle.index.proofs.ListingLaws.{listing_on}
use Rattle.index.proofs.RecoveryLaws.{recovery_on}
use Rattle.index.specs.Agreement.{found_in}

sorted_take : (n lo : ℕ) (es : List Entry) → Sorted lo es → Sorted lo (take n es)
sorted_take zero lo es s = tt
sorted_take (suc n) lo [] s = tt
sorted_take (suc n) lo (e ∷ es) s = (s.0, sorted_take n (suc e.key) es s.1)

module _ (l : List ℕ) (fine : bad_image (length l) ≡ false) (S : SoundImage l) where
  -- ---- the whole answers

  pub find_accepted : (k : ℕ) → find_of l k ≡ found_in (lookup k (entries_in l))
  unfolding find_of
  find_accepted k = (λ i. find_by (fine i) (sound_test l fine S i) (lookup k (entries_in l))) ∙ by (lookup k (entries_in l))
    where
      by : (v : Option ℕ) → find_by false true v ≡ found_in v
      by (Some v) = refl
      by None = refl

  pub listing_accepted : (from : ℕ) (ks vs : List ℕ) → listing_of l from ks vs
      ≡ listing_is (counted 0 (length (listed l from ks vs))) (over (map (λ e. e.key) (listed l from ks vs)) ks)
      (over (map (λ e. e.val) (listed l from ks vs)) vs)
  unfolding listing_of
  listing_accepted from ks vs =
      ap (listing_on (listed l from ks vs) ks vs) (row_left 1 _ fine ∙ row_left 3 0 (ap not (sound_test l fine S)))

  pub recovery_accepted : (ks vs : List ℕ) → is_short (blocks l) (length ks) (length vs) ≡ false → recovery_of l ks vs
      ≡ recovery_is (sizes 0 (length (chain_of l)) (length (entries_in l)))
      (over (map (λ b. smallest_of (leaves l b)) (chain_of l)) ks) (over (chain_of l) vs)
  unfolding recovery_of
  recovery_accepted ks vs wide =
      ap (recovery_on l ks vs (length (entries_in l)))
      (row_left 1 _ fine ∙ row_left 8 _ wide ∙ row_left 3 0 (ap not (sound_test l fine S)))

  -- ---- the map

  pub entries_list : Lists (map_of l S) (entries_in l)
  unfolding entries_in
  entries_list =
      subst (λ (bs : List ℕ). Lists (map_of l S) (list_of (leaves l) bs)) (sym (sound_chain l S.chain fine S.sound))
      (chain_lists (leaves l) (blocks l) S.chain S.sound)

  pub find_present : (k v : ℕ) → map_of l S k v → find_of l k ≡ told 0 v
  find_present k v h = find_accepted k ∙ ap found_in (lookup_some k entries_list v h)

  pub find_absent : (k : ℕ) → ((v : ℕ) → map_of l S k v → ⊥) → find_of l k ≡ told 5 0
  find_absent k f = find_accepted k ∙ ap found_in (lookup_none k entries_list f)

  -- "keys and values, rising, of entries with that key or above"
  pub listing_agrees : (from : ℕ) → Lists (λ k v. map_of l S k v × (from ≤ k)) (starting_at from (entries_in l))
  listing_agrees from = starting_lists entries_list from

  pub listing_rises : (from : ℕ) (ks vs : List ℕ) → Sorted 0 (listed l from ks vs)
  listing_rises from ks vs = sorted_take (min (length ks) (length vs)) 0 (starting_at from (entries_in l)) (listing_agrees from).sorted
