-- "3. From a blank image, over any run of calls, whole or cut (I puts, D dels, R sets run whole, C accepted calls cut, W line
-- write-backs taken): 7W ≤ 20I + 7(D + R) + 42C, and no call takes more than 8."
use Rattle.std.specs.Prelude.{◌≡◌, List, ℕ, ◌+◌, ◌*◌, ◌≤◌, replicate}
use Rattle.steps.specs.Model.{line_writes}
use Rattle.steps.specs.Encoding.{step_at}
use Rattle.machine.specs.Taking.{run_of, cut_of}
use Rattle.writing.specs.Writing.{Outcome}
use Rattle.demands.specs.Demand2.{Call, put, set, del, answered, Numbers}

-- ---- a run of calls

-- "I puts, D dels, R sets run whole"
abbrev pub puts : Call → ℕ
puts (put k v) = 1
puts (set k v) = 0
puts (del k) = 0

abbrev pub dels : Call → ℕ
dels (put k v) = 0
dels (set k v) = 0
dels (del k) = 1

abbrev pub sets : Call → ℕ
sets (put k v) = 0
sets (set k v) = 1
sets (del k) = 0

-- the image that a call's list leaves, run whole
abbrev pub ran : List ℕ → Outcome → List ℕ
ran image o = (run_of image o.list o.steps).image

-- "W line write-backs taken": the write-back steps among the list's first n, from the list itself
abbrev pub taken : Outcome → ℕ → ℕ
taken o n = line_writes (step_at o.list) n

-- The image that a run has come to, with I, D, R, C and W. Each accepted call is run whole or cut; the next starts from the image
-- so left; refused calls and reads in between change nothing.
pub data Run : List ℕ → ℕ → ℕ → ℕ → ℕ → ℕ → Type 0 where
  -- "From a blank image"
  blank : (n : ℕ) → 1 ≤ n → n ≤ 256 → Run (replicate (256 * n) 0) 0 0 0 0 0
  whole : {image : List ℕ} {I D R C W : ℕ} → Run image I D R C W → (call : Call) (list : List ℕ) → Numbers call
      → (answered call image list).answer ≡ 0
      → Run (ran image (answered call image list)) (I + puts call) (D + dels call) (R + sets call) C
      (W + taken (answered call image list) (answered call image list).steps)
  cut : {image : List ℕ} {I D R C W : ℕ} → Run image I D R C W → (call : Call) (list : List ℕ) → Numbers call
      → (answered call image list).answer ≡ 0 → (n : ℕ) (arrivals : List ℕ) → n ≤ (answered call image list).steps
      → (cut_of image (answered call image list).list n arrivals).answer ≡ 0
      → Run (cut_of image (answered call image list).list n arrivals).image I D R (C + 1)
      (W + taken (answered call image list) n)
