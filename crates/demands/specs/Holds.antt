-- What an image left by a call is held against. To be believed.
use Rattle.std.specs.Prelude.{◌≡◌, false, List, map as each, ℕ, min, length, take}
use Rattle.steps.specs.Refusals.{bad_image}
use Rattle.image.specs.Map.{Entry, Lists, lookup, starting_at}
use Rattle.image.specs.Image.{SoundImage, map_of}
use Rattle.index.specs.Reading.{entries_in, find_of, Listing, over, counted, listing_is, listing_of}
use Rattle.index.specs.Agreement.{found_in}

-- "keys and values, rising, of entries with that key or above, as many as the shorter of two lent buffers holds": of the map m
abbrev pub listing_in : List Entry → ℕ → List ℕ → List ℕ → Listing
listing_in m from ks vs =
    let es = take (min (length ks) (length vs)) (starting_at from m) in
    listing_is (counted 0 (length es)) (over (each (λ e. e.key) es) ks) (over (each (λ e. e.val) es) vs)

-- The image is sound, of a length that no call refuses, and its map, as a rising list, is m: so any later call starts from a
-- sound image, and find and listing answer from m.
pub record Holds (image : List ℕ) (m : List Entry) : Type 0 where
  pub fine : bad_image (length image) ≡ false
  pub sound : SoundImage image
  pub entries : entries_in image ≡ m
  -- "The map of a sound image is its occupied entries."
  pub map : Lists (map_of image sound) m
  pub finds : (k : ℕ) → find_of image k ≡ found_in (lookup k m)
  pub lists : (from : ℕ) (ks vs : List ℕ) → listing_of image from ks vs ≡ listing_in m from ks vs
