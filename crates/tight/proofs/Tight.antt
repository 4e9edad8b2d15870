-- "7W ≤ 20I + 7(D + R) + 42C" is not loose: a run, computed, whose slack stays 161 however often power is lost in it. Two blocks,
-- 14 puts that fill block 0 with 17 line writes; then the put that would split it is cut again and again behind its sixth
-- write-back, with the store of the switch not arrived. Each cut call costs 42 sevenths, and the image is the same after each.
use Rattle.std.specs.Prelude.{◌≡◌, refl, List, ℕ, zero, suc, ◌+◌, ◌*◌, ◌≤◌}
use Rattle.std.proofs.Common.{subst, arith}
use Rattle.demands.specs.Demand2.{put}
use Rattle.demands.specs.Demand3.{taken, Run, blank, whole, cut}
use Rattle.demands.specs.Computing.{computing}
use Rattle.tight.specs.Tight.{Accepted, Stays, after, arrivals, left, list, made, total}

filled : (n : ℕ) → n ≤ 14 → Accepted n → Run (after n) n 0 0 0 (total n)
filled zero h a = blank 2 (omega arith) (omega arith)
filled (suc n) h a =
    let e : n + 1 ≡ suc n = omega arith in
    subst (λ (i : ℕ). Run (after (suc n)) i 0 0 0 (total (suc n))) e
    (whole (filled n (omega arith) a.0) (put (suc n) 100) list (omega arith, omega arith) a.1)

full : Run (after 14) 14 0 0 0 17
unfolding computing
full =
    filled 14 (omega arith)
    (((((((((((((((tt, refl), refl), refl), refl), refl), refl), refl), refl), refl), refl), refl), refl), refl), refl))

again : (image : List ℕ) → Stays image → (n W : ℕ) → Run image 14 0 0 n W → Run image 14 0 0 (suc n) (W + 6)
again image s n W r =
    let e : n + 1 ≡ suc n = omega arith in
    subst (λ (x : List ℕ). Run x 14 0 0 (suc n) (W + 6)) s.same
    (subst (λ (x : ℕ). Run (left image) 14 0 0 (suc n) (W + x)) s.lines
    (subst (λ (x : ℕ). Run (left image) 14 0 0 x (W + taken (made image 14) 41)) e
    (cut r (put 15 100) list (omega arith, omega arith) s.accepted 41 arrivals s.steps s.permitted)))

once : Run (left (after 14)) 14 0 0 1 23
unfolding computing
once = cut full (put 15 100) list (omega arith, omega arith) refl 41 arrivals (omega arith) refl

stays : Stays (left (after 14))
unfolding computing
stays = record { accepted = refl; steps = omega arith; permitted = refl; lines = refl; same = refl }

pub often : (n : ℕ) → Run (left (after 14)) 14 0 0 (suc n) (17 + 6 * suc n)
often zero = once
often (suc n) =
    let e : 17 + 6 * suc n + 6 ≡ 17 + 6 * suc (suc n) = omega arith in
    subst (λ (x : ℕ). Run (left (after 14)) 14 0 0 (suc (suc n)) x) e
    (again (left (after 14)) stays (suc n) (17 + 6 * suc n) (often n))

pub slack : (n : ℕ) → 7 * (17 + 6 * suc n) + 161 ≡ 20 * 14 + 7 * (0 + 0) + 42 * suc n
slack n = omega arith
