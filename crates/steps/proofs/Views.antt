-- A view of a memory is run and cut as the memory is: so what is proved of a memory of words holds of the bytes that hold
-- them. The stores have to be such (F) that the view shows them, on memories of a kind (P) that they do not leave.
use Rattle.std.specs.Prelude.{ℕ, zero, suc, Bool, true, false, ◌≡◌, refl}
use Rattle.std.proofs.Common.{arith, sym, ap, ◌∙◌}
use Rattle.steps.specs.Model.{Step, store, write_back, fence, Steps, made, land, arrives, run, cut}
use Rattle.steps.specs.Settling.{EachStore}
use Rattle.steps.proofs.Section.{Closed, cut_keeps, cut_made}

module _ {M N : Type 0} (write : M → ℕ → ℕ → M) (write' : N → ℕ → ℕ → N) (view : M → N) (F : ℕ → ℕ → Type 0) (P : M → Type 0)
    (keeps : Closed write F P) (shows : (m : M) (p v : ℕ) → F p v → P m → view (write m p v) ≡ write' (view m) p v) where
  land_view : (b : Bool) (x : Step) (m : M) → ((p v : ℕ) → x ≡ store p v → F p v) → P m
      → view (land write b x m) ≡ land write' b x (view m)
  land_view true (store p v) m f h = shows m p v (f p v refl) h
  land_view false (store p v) m f h = refl
  land_view b (write_back l) m f h = refl
  land_view b fence m f h = refl

  pub cut_view : (unit : ℕ → ℕ) (s : Steps) (a : ℕ → ℕ) (m : M) (n : ℕ) → EachStore s n (λ i p v. F p v) → P m
      → view (cut write unit s a m n) ≡ cut write' unit s a (view m) n
  cut_view unit s a m zero f h = refl
  cut_view unit s a m (suc n) f h =
      land_view (arrives unit a (made unit s n) (s n)) (s n) (cut write unit s a m n) (λ p v. f n p v (omega arith))
      (cut_keeps unit write F P keeps s a m n (λ i p v l e t. f i p v (omega arith) e) h)
      ∙ ap (land write' (arrives unit a (made unit s n) (s n)) (s n))
      (cut_view unit s a m n (λ i p v l. f i p v (omega arith)) h)

  pub run_view : (s : Steps) (m : M) (n : ℕ) → EachStore s n (λ i p v. F p v) → P m
      → view (run write s m n) ≡ run write' s (view m) n
  run_view s m n f h =
      ap view (sym (cut_made (λ p. p) write s m n)) ∙ cut_view (λ p. p) s (made (λ p. p) s n) m n f h
      ∙ cut_made (λ p. p) write' s (view m) n
