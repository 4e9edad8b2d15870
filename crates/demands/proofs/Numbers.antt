-- An answer by its number: no two refusals have the same, and none has 0.
use Rattle.std.specs.Prelude.{◌≡◌, refl, cond, ℕ, eqb, Result as Answered, Ok, Err}
use Rattle.steps.specs.declared.refusal.Refusal.{Refusal}
use Rattle.steps.specs.declared.refusal.Refusal.TheVariants.{
  BadImage,
  ShortList,
  Unsound,
  Present,
  Absent,
  Full,
  BadList,
  ShortBuffer,
  BadArrivals,
}
use Rattle.steps.specs.Refusals.{number_of}

abbrev refusal_from : ℕ → Refusal
refusal_from n =
    cond (eqb n 1) BadImage
    (cond (eqb n 2) ShortList
    (cond (eqb n 3) Unsound
    (cond (eqb n 4) Present
    (cond (eqb n 5) Absent (cond (eqb n 6) Full (cond (eqb n 7) BadList (cond (eqb n 8) ShortBuffer BadArrivals)))))))

-- 0 tells an answer that is no refusal
abbrev pub answered_from : {T : Type 0} → ℕ → T → Answered T Refusal
answered_from n x = cond (eqb n 0) (Ok x) (Err (refusal_from n))

pub refused_again : {T : Type 0} (x : T) (r : Refusal) → answered_from (number_of r) x ≡ Err r
refused_again x BadImage = refl
refused_again x ShortList = refl
refused_again x Unsound = refl
refused_again x Present = refl
refused_again x Absent = refl
refused_again x Full = refl
refused_again x BadList = refl
refused_again x ShortBuffer = refl
refused_again x BadArrivals = refl
