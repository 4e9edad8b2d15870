-- The contracts of the C interface. proofs/UniqueOutside has that two results that one allows are equal, of the bench program too.
use Rattle.std.specs.Prelude.{◌≡◌, List, ℕ}
use Rattle.machine.specs.Taking.{Outcome as Taken, run_of, cut_of}
use Rattle.index.specs.Reading.{told, find_of, counted, listing_is, listing_of, sizes, recovery_is, recovery_of}
use Rattle.writing.specs.Writing.{Outcome, put_of, set_of, del_of}
use Rattle.told.specs.declared.reading.HutFound.{HutFound}
use Rattle.told.specs.declared.reading.HutListed.{HutListed}
use Rattle.told.specs.declared.reading.HutRecovered.{HutRecovered}
use Rattle.told.specs.declared.making.HutMade.{HutMade}
use Rattle.board.specs.Told.{made_is}
use Rattle.demands.specs.Calls.{Asked, find, listing, recovery, put, set, del, run, cut}

-- ---- the contracts of the C interface, as `Calls` has those below: `contracts/src/outside.rt` proves that they are the sources'

-- `board`'s, and `board_c/src/outside.rt` that they are the exports'
abbrev pub OutsideResult : Asked → Type 0
OutsideResult (find image key) = HutFound
OutsideResult (listing image from keys values) = HutListed × List ℕ × List ℕ
OutsideResult (recovery image smallest numbers) = HutRecovered × List ℕ × List ℕ
OutsideResult (put image list key value) = HutMade × List ℕ
OutsideResult (set image list key value) = HutMade × List ℕ
OutsideResult (del image list key) = HutMade × List ℕ
OutsideResult (run image list n) = ℕ × List ℕ
OutsideResult (cut image list n arrivals) = ℕ × List ℕ

-- a list made, with its counts
abbrev pub MadeAs : Outcome → HutMade × List ℕ → Type 0
MadeAs o r = made_is r.0.answer r.0.steps r.0.line_writes r.0.word_writes r.1 ≡ o

-- steps taken over the image
abbrev pub TakenAs : Taken → ℕ × List ℕ → Type 0
TakenAs o r = (r.0 ≡ o.answer) × (r.1 ≡ o.image)

abbrev pub Outside : (asked : Asked) → OutsideResult asked → Type 0
Outside (find image key) r = told r.answer r.value ≡ find_of image key
Outside (listing image from keys values) r =
    listing_is (counted r.0.answer r.0.count) r.1 r.2 ≡ listing_of image from keys values
Outside (recovery image smallest numbers) r =
    recovery_is (sizes r.0.answer r.0.leaves r.0.entries) r.1 r.2 ≡ recovery_of image smallest numbers
Outside (put image list key value) r = MadeAs (put_of image list key value) r
Outside (set image list key value) r = MadeAs (set_of image list key value) r
Outside (del image list key) r = MadeAs (del_of image list key) r
Outside (run image list n) r = TakenAs (run_of image list n) r
Outside (cut image list n arrivals) r = TakenAs (cut_of image list n arrivals) r
