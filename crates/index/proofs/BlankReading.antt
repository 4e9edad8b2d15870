-- "An all-zero image is blank: sound, with an empty map": all three calls accept it, for every N from 1 to 256.
use Rattle.std.specs.Prelude.{◌≡◌, false, ℕ, ◌<◌, min, length, Option, Some, None}
use Rattle.std.proofs.Math.Path.{refl, ap}
use Rattle.std.proofs.Common.{◌∙◌, inl}
use mathlib.Core.List.{List, [], ◌∷◌, map}
use Rattle.std.proofs.Math.ListN.{take}
use Rattle.std.proofs.Math.Seq.{take-nil}
use Rattle.leaf.specs.Search.{least_from, key_or0, smallest_of}
use Rattle.leaf.proofs.SearchLaws.{least_at}
use Rattle.steps.specs.Refusals.{bad_image}
use Rattle.image.specs.Map.{Entry, lookup, only, starting_at}
use Rattle.image.proofs.Same.{own}
use Rattle.image.specs.Entries.{list_of}
use Rattle.image.specs.Image.{blocks, leaves, Blank}
use Rattle.image.proofs.ImageLaws.{good_length, blank_sound, blank_image, blank_empty, blank_list}
use Rattle.index.specs.Reading.{chain_of, entries_in, told, find_of, over, counted, listing_is, listed, listing_of}
use Rattle.index.specs.Reading.{sizes, recovery_is, is_short, recovery_of}
use Rattle.index.proofs.SoundTest.{sound_chain}
use Rattle.index.specs.Agreement.{found_in}
use Rattle.index.proofs.Agreement.{find_accepted, listing_accepted, recovery_accepted}

module _ (l : List ℕ) (z : Blank l) (fine : bad_image (length l) ≡ false) where
  pos : 0 < blocks l
  pos = (good_length l fine).some

  blank_chain : chain_of l ≡ 0 ∷ []
  blank_chain = sound_chain l (0 ∷ []) fine (blank_sound l z pos)

  blank_entries : entries_in l ≡ []
  unfolding entries_in
  blank_entries = ap (list_of (leaves l)) blank_chain ∙ blank_list l z pos

  blank_smallest : smallest_of (leaves l 0) ≡ 0
  unfolding smallest_of
  blank_smallest = go (least_from (leaves l 0) 0) refl
    where
      go : (x : Option ℕ) → least_from (leaves l 0) 0 ≡ x → key_or0 (leaves l 0) x ≡ 0
      go (Some s) e = absurd (blank_empty l z _ _ (inl (own (leaves l 0) s (least_at (leaves l 0) 0 s e).taken)))
      go None e = refl

  pub blank_find : (k : ℕ) → find_of l k ≡ told 5 0
  unfolding lookup
  blank_find k = find_accepted l fine (blank_image l z pos) k ∙ ap (λ (es : List Entry). found_in (lookup k es)) blank_entries

  pub blank_listing : (from : ℕ) (ks vs : List ℕ) → listing_of l from ks vs ≡ listing_is (counted 0 0) ks vs
  unfolding starting_at only
  blank_listing from ks vs =
      listing_accepted l fine (blank_image l z pos) from ks vs
      ∙ ap
      (λ (es : List Entry). listing_is (counted 0 (length es)) (over (map (λ e. e.key) es) ks) (over (map (λ e. e.val) es) vs))
      none_listed
    where
      none_listed : listed l from ks vs ≡ []
      none_listed =
          ap (λ (es : List Entry). take (min (length ks) (length vs)) (starting_at from es)) blank_entries
          ∙ take-nil (min (length ks) (length vs))

  -- one leaf, block 0, with no entry
  pub blank_recovery : (ks vs : List ℕ) → is_short (blocks l) (length ks) (length vs) ≡ false
      → recovery_of l ks vs ≡ recovery_is (sizes 0 1 0) (over (0 ∷ []) ks) (over (0 ∷ []) vs)
  blank_recovery ks vs wide =
      recovery_accepted l fine (blank_image l z pos) ks vs wide
      ∙ (λ i. recovery_is (sizes 0 (length (blank_chain i)) (length (blank_entries i)))
      (over (map (λ b. smallest_of (leaves l b)) (blank_chain i)) ks) (over (blank_chain i) vs))
      ∙ ap (λ (k : ℕ). recovery_is (sizes 0 1 0) (over (k ∷ []) ks) (over (0 ∷ []) vs)) blank_smallest
