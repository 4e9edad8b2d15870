-- "2. On every sound image find, put, set, del and listing agree with a plain map from 64-bit keys to 64-bit values, and the
-- steps made are exactly document 01's. Run to the end they give the map after the call, every store settled. Cut after any
-- number of steps, each line holding any permitted number of its stores, they leave a sound image whose map is the one before or
-- the one after."
--
-- The steps are document 01's by the calls' contracts (`put_of`, `set_of`, `del_of` write `put_list`, `set_list`, `del_list`). Here is
-- what running and cutting the lists is to leave: proofs/Demand2 proves it (`demand2`), and that find and listing answer from the map
-- (`agrees`), for every image of bytes, key, value and list, with no hypothesis but that the call was accepted.
use Rattle.std.specs.Prelude.{◌≡◌, List, ◌⊎◌, ℕ, ◌^◌, ◌≤◌, ◌<◌}
use Rattle.steps.specs.Model.{rule01}
use Rattle.steps.specs.Settling.{AllSettled}
use Rattle.steps.specs.Encoding.{step_at}
use Rattle.machine.specs.Taking.{run_of, cut_of}
use Rattle.image.specs.Map.{Entry, put_in, without}
use Rattle.index.specs.Reading.{entries_in}
use Rattle.writing.specs.Writing.{Outcome, put_of, set_of, del_of}
use Rattle.demands.specs.Holds.{Holds}

-- ---- what is demanded

pub data Call : Type 0 where
  put : ℕ → ℕ → Call
  set : ℕ → ℕ → Call
  del : ℕ → Call

-- what the call answers and the list it leaves
abbrev pub answered : Call → List ℕ → List ℕ → Outcome
answered (put k v) image list = put_of image list k v
answered (set k v) image list = set_of image list k v
answered (del k) image list = del_of image list k

-- the plain map after it
abbrev pub after : Call → List Entry → List Entry
after (put k v) m = put_in k v m
after (set k v) m = put_in k v m
after (del k) m = without k m

-- "64-bit keys", "64-bit values"
abbrev pub Numbers : Call → Type 0
Numbers (put k v) = (k < 2 ^ 64) × (v < 2 ^ 64)
Numbers (set k v) = (k < 2 ^ 64) × (v < 2 ^ 64)
Numbers (del k) = k < 2 ^ 64

-- of what the call told and left, o: the list and its steps
pub record Left (call : Call) (image : List ℕ) (o : Outcome) : Type 0 where
  -- "Run to the end they give the map after the call, every store settled."
  pub accepted : (run_of image o.list o.steps).answer ≡ 0
  pub whole : Holds (run_of image o.list o.steps).image (after call (entries_in image))
  pub settled : AllSettled rule01 (step_at o.list) o.steps
  -- "Cut after any number of steps, each line holding any permitted number of its stores, they leave a sound image whose map is
  -- the one before or the one after."
  pub cut : (n : ℕ) (arrivals : List ℕ) → n ≤ o.steps → (cut_of image o.list n arrivals).answer ≡ 0
      → Holds (cut_of image o.list n arrivals).image (entries_in image)
      ⊎ Holds (cut_of image o.list n arrivals).image (after call (entries_in image))

abbrev pub Demanded : Call → List ℕ → List ℕ → Type 0
Demanded call image list = Left call image (answered call image list)
