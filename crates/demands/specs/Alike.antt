-- "Two sound images alike in length, chain, occupied slots and entries give equal find, listing, recovery answers and refusals."
use Rattle.std.specs.Prelude.{◌≡◌, List, ℕ}
use Rattle.demands.specs.Calls.{Asked, find, listing, recovery, put, set, del, run, cut, Result}
use Rattle.demands.specs.Calls.{told}

-- ---- what is demanded

abbrev pub image_of : Asked → List ℕ
image_of (find image key) = image
image_of (listing image from keys values) = image
image_of (recovery image smallest numbers) = image
image_of (put image list key value) = image
image_of (set image list key value) = image
image_of (del image list key) = image
image_of (run image list n) = image
image_of (cut image list n arrivals) = image

-- the same, asked of another image
abbrev pub asked_of : List ℕ → Asked → Asked
asked_of m (find image key) = find m key
asked_of m (listing image from keys values) = listing m from keys values
asked_of m (recovery image smallest numbers) = recovery m smallest numbers
asked_of m (put image list key value) = put m list key value
asked_of m (set image list key value) = set m list key value
asked_of m (del image list key) = del m list key
asked_of m (run image list n) = run m list n
asked_of m (cut image list n arrivals) = cut m list n arrivals

abbrev pub Reads : Asked → Type 0
Reads (find image key) = Unit {0}
Reads (listing image from keys values) = Unit {0}
Reads (recovery image smallest numbers) = Unit {0}
Reads (put image list key value) = ⊥
Reads (set image list key value) = ⊥
Reads (del image list key) = ⊥
Reads (run image list n) = ⊥
Reads (cut image list n arrivals) = ⊥

-- results of a call on two such images
pub record Demanded (asked : Asked) (m : List ℕ) (r : Result asked) (s : Result (asked_of m asked)) : Type 0 where
  -- "equal (..) refusals"
  pub refusals : (told (asked_of m asked) s).number ≡ (told asked r).number
  -- "equal find, listing, recovery answers", with what they leave in the buffers
  pub reads : Reads asked → told (asked_of m asked) s ≡ told asked r
