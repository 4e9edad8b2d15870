-- "3. From a blank image, over any run of calls, whole or cut (I puts, D dels, R sets run whole, C accepted calls cut, W line
-- write-backs taken): 7W ≤ 20I + 7(D + R) + 42C, and no call takes more than 8."
use Rattle.std.specs.Prelude.{◌≡◌, refl, false, List, ℕ, ◌+◌, ◌*◌, ◌≤◌, length, replicate}
use Rattle.std.proofs.Common.{ap, ◌∙◌, inl, inr, arith}
use Rattle.std.proofs.lemmas.List.{length-replicate}
use Rattle.words.specs.WordLaws.{Bytes}
use Rattle.steps.specs.Refusals.{bad_image}
use Rattle.image.specs.Map.{Entry}
use Rattle.image.specs.Potential.{phi}
use Rattle.image.specs.Image.{leaves}
use Rattle.image.proofs.ImageLaws.{length_good, zeros_blank, blank_sound, blank_phi}
use Rattle.index.proofs.SoundTest.{sound_chain}
use Rattle.lists.specs.Bytes.{LeftBytes}
use Rattle.demands.specs.Demand2.{Call, put, set, del, answered, Numbers}
use Rattle.demands.proofs.Demand2.{price}
use Rattle.demands.proofs.Demand2.{carried_call}
use Rattle.demands.specs.Demand3.{Run, blank, cut, dels, puts, ran, sets, taken, whole}
use Rattle.std.specs.Prelude.{◌≡◌, false, List, ℕ, ◌+◌, ◌*◌, ◌≤◌, length, replicate}
use Rattle.index.specs.Reading.{chain_of}

-- ---- the potential of an image pays for the line writes

abbrev potential : List ℕ → ℕ
potential l = phi (leaves l) (chain_of l)

record Paid (image : List ℕ) (W bound : ℕ) : Type 0 where
  bytes : Bytes image
  fine : bad_image (length image) ≡ false
  within : 7 * W + potential image ≤ bound

-- an image that a list leaves, at the cost of w line writes
left_paid : (l m : List ℕ) (es : List Entry) (W bound w more : ℕ) → bad_image (length l) ≡ false → Paid l W bound
    → LeftBytes l m es (7 * w) (potential l + more) → Paid m (W + w) (bound + more)
left_paid l m es W bound w more fine P L =
    let f : bad_image (length m) ≡ false = ap bad_image L.long ∙ fine in
    record {
      bytes = L.bytes;
      fine = f;
      within = omega (
        arith,
        P.within,
        L.left.within,
        ap (phi (leaves m)) (sound_chain m L.left.chain f L.left.sound),
      );
    }

price_is : (call : Call) → price call ≡ 20 * puts call + 7 * (dels call + sets call)
price_is (put k v) = refl
price_is (set k v) = refl
price_is (del k) = refl

zero_bytes : (n : ℕ) → Bytes (replicate n 0)
zero_bytes n i = omega (arith, zeros_blank n i)

blank_paid : (n : ℕ) → 1 ≤ n → n ≤ 256 → Paid (replicate (256 * n) 0) 0 0
blank_paid n some most =
    let l : List ℕ = replicate (256 * n) 0 in
    let z : length l ≡ 256 * n = length-replicate {A = ℕ} (256 * n) 0 in
    let f : bad_image (length l) ≡ false =
    length_good l (record { whole = omega (arith, z); some = omega (arith, z); most = omega (arith, z) }) in
    let c = sound_chain l _ f (blank_sound l (zeros_blank (256 * n)) (omega (arith, z))) in
    record {
      bytes = zero_bytes (256 * n);
      fine = f;
      within = omega (arith, ap (phi (leaves l)) c, blank_phi l (zeros_blank (256 * n)) 6 7);
    }

paid : {image : List ℕ} {I D R C W : ℕ} → Run image I D R C W → Paid image W (20 * I + 7 * (D + R) + 42 * C)
paid (blank n some most) = blank_paid n some most
paid (whole {image} {I} {D} {R} {C} {W} r call list small e) =
    let P = paid r in
    let A = carried_call call image list P.bytes small e in
    let o = answered call image list in
    let Q =
    left_paid image (ran image o) _ W (20 * I + 7 * (D + R) + 42 * C) (taken o o.steps) (price call) A.fine P A.whole in
    record { bytes = Q.bytes; fine = Q.fine; within = omega (arith, Q.within, price_is call) }
paid (cut {image} {I} {D} {R} {C} {W} r call list small e n arrivals h a) =
    let P = paid r in
    let A = carried_call call image list P.bytes small e in
    let o = answered call image list in
    elim (A.cuts n arrivals h a) [
      | inl L ↦ more (left_paid image _ _ W (20 * I + 7 * (D + R) + 42 * C) (taken o n) 42 A.fine P L)
      | inr L ↦ more (left_paid image _ _ W (20 * I + 7 * (D + R) + 42 * C) (taken o n) 42 A.fine P L)
    ]
  where
    more : {m : List ℕ} {w : ℕ} → Paid m w (20 * I + 7 * (D + R) + 42 * C + 42) → Paid m w (20 * I + 7 * (D + R) + 42 * (C + 1))
    more Q = record { bytes = Q.bytes; fine = Q.fine; within = omega (arith, Q.within) }

-- ---- THE DEMAND

-- "and no call takes more than 8": neither by what it tells nor by the list itself, run whole or cut
pub no_more_than_8 : (call : Call) (image list : List ℕ) → Bytes image → Numbers call → (answered call image list).answer ≡ 0
    → ((answered call image list).lines ≤ 8)
    × ((n : ℕ) → n ≤ (answered call image list).steps → taken (answered call image list) n ≤ 8)
no_more_than_8 call image list b n e = let C = carried_call call image list b n e in (C.told, C.lines)

pub demand3 : {image : List ℕ} {I D R C W : ℕ} → Run image I D R C W → 7 * W ≤ 20 * I + 7 * (D + R) + 42 * C
demand3 r = let P = paid r in omega (arith, P.within)
