-- "Two sound images alike in length, chain, occupied slots and entries give equal find, listing, recovery answers and
-- refusals."
use Rattle.std.specs.Prelude.{◌≡◌, refl, false, List, [], ◌∷◌, map, ℕ, ◌/◌, min, length, take}
use Rattle.std.proofs.Common.{sym, ◌∙◌}
use Rattle.std.proofs.Math.Path.{ap}
use Rattle.words.specs.Bools.{by_test}
use Rattle.leaf.specs.Leaf.{Leaf}
use Rattle.leaf.specs.Search.{smallest_of}
use Rattle.steps.specs.Refusals.{bad_image}
use Rattle.image.specs.Map.{Entry, lookup, starting_at}
use Rattle.image.specs.Chain.{All}
use Rattle.image.specs.ChainLaws.{Good}
use Rattle.image.proofs.ChainLaws.{sound_good, Agree}
use Rattle.image.specs.Entries.{list_of}
use Rattle.image.proofs.Entries.{agree_list}
use Rattle.image.proofs.Answers.{slots_smallest}
use Rattle.image.specs.Image.{blocks, leaves, SoundImage, Alike}
use Rattle.image.proofs.ImageLaws.{alike_agree}
use Rattle.index.specs.Reading.{chain_of, entries_in, find_of, over, counted, Listing, listing_is, listing_of}
use Rattle.index.specs.Reading.{sizes, recovery_is, is_short, recovery_of}
use Rattle.index.proofs.SoundTest.{sound_chain}
use Rattle.index.proofs.FindLaws.{find_bad}
use Rattle.index.proofs.ListingLaws.{listing_bad}
use Rattle.index.proofs.RecoveryLaws.{recovery_bad, recovery_short}
use Rattle.index.specs.Agreement.{found_in}
use Rattle.index.proofs.Agreement.{find_accepted, listing_accepted, recovery_accepted}

smallest_agree : (I J : ℕ → Leaf) (N : ℕ) (bs : List ℕ) → All (Good I N) bs → Agree bs I J
    → map (λ b. smallest_of (J b)) bs ≡ map (λ b. smallest_of (I b)) bs
smallest_agree I J N [] g a = refl
smallest_agree I J N (b ∷ bs) g a = λ i. slots_smallest a.0.slots g.0.right i ∷ smallest_agree I J N bs g.1 a.1 i

module _ {l m : List ℕ} (a : Alike l m) where
  -- an image whose length is refused is refused alike
  pub same_bad : bad_image (length m) ≡ bad_image (length l)
  same_bad = ap bad_image a.long

  pub first_sound : SoundImage l
  first_sound = record { chain = a.chain; sound = a.first }

  pub second_sound : SoundImage m
  second_sound = record { chain = a.chain; sound = a.second }

  pub chain_first : bad_image (length l) ≡ false → chain_of l ≡ a.chain
  chain_first fine = sound_chain l a.chain fine a.first

  chain_second : bad_image (length m) ≡ false → chain_of m ≡ a.chain
  chain_second fine = sound_chain m a.chain fine a.second

  pub same_chain : bad_image (length l) ≡ false → chain_of m ≡ chain_of l
  same_chain fine = chain_second (same_bad ∙ fine) ∙ sym (chain_first fine)

module _ (l m : List ℕ) (a : Alike l m) (fine : bad_image (length l) ≡ false) where
  fine_too : bad_image (length m) ≡ false
  fine_too = same_bad a ∙ fine

  same_entries : entries_in m ≡ entries_in l
  unfolding entries_in
  same_entries =
      ap (list_of (leaves m)) (chain_second a fine_too) ∙ agree_list (leaves l) (leaves m) (blocks l) a.chain a.first (alike_agree l m a)
      ∙ ap (list_of (leaves l)) (sym (chain_first a fine))

  same_smallest : map (λ b. smallest_of (leaves m b)) (chain_of m) ≡ map (λ b. smallest_of (leaves l b)) (chain_of l)
  same_smallest =
      ap (map (λ b. smallest_of (leaves m b))) (chain_second a fine_too)
      ∙ smallest_agree (leaves l) (leaves m) (blocks l) a.chain (sound_good (leaves l) (blocks l) a.first) (alike_agree l m a)
      ∙ ap (map (λ b. smallest_of (leaves l b))) (sym (chain_first a fine))

  find_same : (k : ℕ) → find_of m k ≡ find_of l k
  find_same k =
      find_accepted m fine_too (second_sound a) k ∙ ap (λ (es : List Entry). found_in (lookup k es)) same_entries
      ∙ sym (find_accepted l fine (first_sound a) k)

  listing_same : (from : ℕ) (ks vs : List ℕ) → listing_of m from ks vs ≡ listing_of l from ks vs
  listing_same from ks vs =
      listing_accepted m fine_too (second_sound a) from ks vs
      ∙ ap (λ (es : List Entry). wrote (take (min (length ks) (length vs)) (starting_at from es))) same_entries
      ∙ sym (listing_accepted l fine (first_sound a) from ks vs)
    where
      wrote : List Entry → Listing
      wrote es = listing_is (counted 0 (length es)) (over (map (λ e. e.key) es) ks) (over (map (λ e. e.val) es) vs)

  same_short : (ks vs : List ℕ) → is_short (blocks m) (length ks) (length vs) ≡ is_short (blocks l) (length ks) (length vs)
  same_short ks vs = ap (λ (n : ℕ). is_short (n / 256) (length ks) (length vs)) a.long

  recovery_same : (ks vs : List ℕ) → recovery_of m ks vs ≡ recovery_of l ks vs
  recovery_same ks vs =
      by_test (λ b. recovery_of m ks vs ≡ recovery_of l ks vs) (is_short (blocks l) (length ks) (length vs))
      (λ e. sym (recovery_short m ks vs fine_too (same_short ks vs ∙ e)) ∙ recovery_short l ks vs fine e)
      (λ e. recovery_accepted m fine_too (second_sound a) ks vs (same_short ks vs ∙ e)
      ∙ (λ i. recovery_is (sizes 0 (length (same_chain a fine i)) (length (same_entries i))) (over (same_smallest i) ks)
      (over (same_chain a fine i) vs))
      ∙ sym (recovery_accepted l fine (first_sound a) ks vs e))

module _ (l m : List ℕ) (a : Alike l m) where
  pub alike_find : (k : ℕ) → find_of m k ≡ find_of l k
  alike_find k =
      by_test (λ b. find_of m k ≡ find_of l k) (bad_image (length l))
      (λ e. sym (find_bad m k (same_bad a ∙ e)) ∙ find_bad l k e) (λ e. find_same l m a e k)

  pub alike_listing : (from : ℕ) (ks vs : List ℕ) → listing_of m from ks vs ≡ listing_of l from ks vs
  alike_listing from ks vs =
      by_test (λ b. listing_of m from ks vs ≡ listing_of l from ks vs) (bad_image (length l))
      (λ e. sym (listing_bad m from ks vs (same_bad a ∙ e)) ∙ listing_bad l from ks vs e) (λ e. listing_same l m a e from ks vs)

  pub alike_recovery : (ks vs : List ℕ) → recovery_of m ks vs ≡ recovery_of l ks vs
  alike_recovery ks vs =
      by_test (λ b. recovery_of m ks vs ≡ recovery_of l ks vs) (bad_image (length l))
      (λ e. sym (recovery_bad m ks vs (same_bad a ∙ e)) ∙ recovery_bad l ks vs e) (λ e. recovery_same l m a e ks vs)
