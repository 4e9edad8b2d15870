-- "7W ≤ 20I + 7(D + R) + 42C" is not loose: a run, computed, whose slack stays 161 however often power is lost in it. Two blocks,
-- 14 puts that fill block 0 with 17 line writes; then the put that would split it is cut again and again behind its sixth
-- write-back, with the store of the switch not arrived. Each cut call costs 42 sevenths, and the image is the same after each.
use Rattle.std.specs.Prelude.{◌≡◌, List, [], ◌∷◌, ℕ, zero, suc, ◌+◌, ◌≤◌, replicate}
use Rattle.machine.specs.Taking.{cut_of}
use Rattle.writing.specs.Writing.{Outcome}
use Rattle.demands.specs.Demand2.{put, answered}
use Rattle.demands.specs.Demand3.{ran, taken}

abbrev pub list : List ℕ
list = replicate 112 0

-- the put that follows n puts of the keys 1 to n, and the image after n
abbrev pub made : List ℕ → ℕ → Outcome
made image n = answered (put (suc n) 100) image list

abbrev pub after : ℕ → List ℕ
after zero = replicate 512 0
after (suc n) = ran (after n) (made (after n) n)

abbrev pub total : ℕ → ℕ
total zero = 0
total (suc n) = total n + taken (made (after n) n) (made (after n) n).steps

abbrev pub Accepted : ℕ → Type 0
Accepted zero = Unit {0}
Accepted (suc n) = Accepted n × ((made (after n) n).answer ≡ 0)

-- by line: of block 0 the link to the new leaf, and the new leaf whole
abbrev pub arrivals : List ℕ
arrivals = 0 ∷ 0 ∷ 0 ∷ 1 ∷ 8 ∷ 8 ∷ 8 ∷ 8 ∷ []

abbrev pub left : List ℕ → List ℕ
left image = (cut_of image (made image 14).list 41 arrivals).image

-- an image that such a cut leaves as it is
pub record Stays (image : List ℕ) : Type 0 where
  pub accepted : (made image 14).answer ≡ 0
  pub steps : 41 ≤ (made image 14).steps
  pub permitted : (cut_of image (made image 14).list 41 arrivals).answer ≡ 0
  pub lines : taken (made image 14) 41 ≡ 6
  pub same : left image ≡ image
