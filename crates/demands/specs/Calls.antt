-- The public calls with their contracts, as one family: what is asked, the results that the contract allows, what a result tells,
-- and document 01's refusals. To be believed.
use Rattle.std.specs.Prelude.{◌≡◌, Bool, List, [], ◌∷◌, ℕ, length, Result as Answered}
use Rattle.steps.specs.declared.refusal.Refusal.{Refusal}
use Rattle.machine.specs.Taking.{ran_as, run_of, cut_of, run_table, cut_table}
use Rattle.index.specs.declared.recovery.Recovered.{Recovered}
use Rattle.index.specs.Reading.{found_as, find_of, find_table, listed_as, listing_is, listing_of, listing_table}
use Rattle.index.specs.Reading.{recovered_as, recovery_is, recovery_of, recovery_table}
use Rattle.writing.specs.declared.Made.{Made}
use Rattle.writing.specs.Writing.{made_as, put_of, set_of, del_of, put_table, change_table}

-- what is lent and given
pub data Asked : Type 0 where
  find : (image : List ℕ) (key : ℕ) → Asked
  listing : (image : List ℕ) (from : ℕ) (keys values : List ℕ) → Asked
  recovery : (image smallest numbers : List ℕ) → Asked
  put : (image list : List ℕ) (key value : ℕ) → Asked
  set : (image list : List ℕ) (key value : ℕ) → Asked
  del : (image list : List ℕ) (key : ℕ) → Asked
  run : (image list : List ℕ) (n : ℕ) → Asked
  cut : (image list : List ℕ) (n : ℕ) (arrivals : List ℕ) → Asked

-- the answer, and each buffer lent to be written as it is at the end
abbrev pub Result : Asked → Type 0
Result (find image key) = Answered ℕ Refusal
Result (listing image from keys values) = Answered ℕ Refusal × List ℕ × List ℕ
Result (recovery image smallest numbers) = Answered Recovered Refusal × List ℕ × List ℕ
Result (put image list key value) = Answered Made Refusal × List ℕ
Result (set image list key value) = Answered Made Refusal × List ℕ
Result (del image list key) = Answered Made Refusal × List ℕ
Result (run image list n) = Answered Unit Refusal × List ℕ
Result (cut image list n arrivals) = Answered Unit Refusal × List ℕ

-- The contracts, `ensures` for `ensures`, where r is the answer with each `x.new` behind it and the names of what was lent stand for
-- `x.old`, or for `x.now` where it is only read. Of set: `made_as result list.new ≡ set_of image.now list.old key value`.
abbrev pub Allowed : (asked : Asked) → Result asked → Type 0
Allowed (find image key) r = found_as r ≡ find_of image key
Allowed (listing image from keys values) r = listing_is (listed_as r.0) r.1 r.2 ≡ listing_of image from keys values
Allowed (recovery image smallest numbers) r = recovery_is (recovered_as r.0) r.1 r.2 ≡ recovery_of image smallest numbers
Allowed (put image list key value) r = made_as r.0 r.1 ≡ put_of image list key value
Allowed (set image list key value) r = made_as r.0 r.1 ≡ set_of image list key value
Allowed (del image list key) r = made_as r.0 r.1 ≡ del_of image list key
Allowed (run image list n) r = (ran_as r.0 ≡ (run_of image list n).answer) × (r.1 ≡ (run_of image list n).image)
Allowed (cut image list n arrivals) r =
    (ran_as r.0 ≡ (cut_of image list n arrivals).answer) × (r.1 ≡ (cut_of image list n arrivals).image)

-- a result as document 01 tells it: the number, the counts and values, and the buffers
pub record Told : Type 0 where
  pub number : ℕ
  pub counts : List ℕ
  pub buffers : List (List ℕ)

abbrev pub tells : ℕ → List ℕ → List (List ℕ) → Told
tells number counts buffers = record { number = number; counts = counts; buffers = buffers }

abbrev pub made : Answered Made Refusal → List ℕ → Told
made r list = let o = made_as r list in tells o.answer (o.steps ∷ o.lines ∷ o.words ∷ []) (o.list ∷ [])

abbrev pub told : (asked : Asked) → Result asked → Told
told (find image key) r = tells (found_as r).answer ((found_as r).value ∷ []) []
told (listing image from keys values) r =
    tells (listed_as r.0).answer ((listed_as r.0).count ∷ []) (r.1 ∷ r.2 ∷ [])
told (recovery image smallest numbers) r =
    let t = recovered_as r.0 in tells t.answer (t.leaves ∷ t.entries ∷ []) (r.1 ∷ r.2 ∷ [])
told (put image list key value) r = made r.0 r.1
told (set image list key value) r = made r.0 r.1
told (del image list key) r = made r.0 r.1
told (run image list n) r = tells (ran_as r.0) [] (r.1 ∷ [])
told (cut image list n arrivals) r = tells (ran_as r.0) [] (r.1 ∷ [])

-- the buffers lent to be written
abbrev pub lent : Asked → List (List ℕ)
lent (find image key) = []
lent (listing image from keys values) = keys ∷ values ∷ []
lent (recovery image smallest numbers) = smallest ∷ numbers ∷ []
lent (put image list key value) = list ∷ []
lent (set image list key value) = list ∷ []
lent (del image list key) = list ∷ []
lent (run image list n) = image ∷ []
lent (cut image list n arrivals) = image ∷ []

-- "Order: 1, 2, 8, 3, 4, 5, 6 as they apply; for run and cut 1, 7, 10."
abbrev pub table : Asked → List (ℕ × Bool)
table (find image key) = find_table image key
table (listing image from keys values) = listing_table image
table (recovery image smallest numbers) = recovery_table image smallest numbers
table (put image list key value) = put_table image list key
table (set image list key value) = change_table image list key
table (del image list key) = change_table image list key
table (run image list n) = run_table (length image) list n
table (cut image list n arrivals) = cut_table (length image) list n arrivals
