-- What is promised of a list, in bytes: the image that run and cut leave has as many bytes as before, and its words are
-- those that the promise in words is about: so each list of the calls serves in bytes too.
use Rattle.std.specs.Prelude.{ℕ, zero, suc, ◌+◌, ◌*◌, ◌/◌, ◌^◌, ◌≤◌, ◌<◌, true, List, [], ◌∷◌, ◌≡◌, refl, length, set}
use Rattle.std.proofs.Math.Decide.{ℕ_discrete, dec_lt}
use Rattle.std.proofs.Common.{arith, ap, ◌∙◌, inl, inr, length-set, get_or-set_same, get_or-set_other, lt-ltb}
use Rattle.std.proofs.Math.ListN.{get_or-eq_default}
use Rattle.words.specs.Words.{byte_of, bytes_of, stores, store_at, reads, store_word}
use Rattle.words.specs.WordLaws.{Bytes, word_small, length_store, reads_store}
use Rattle.words.specs.Update.{upd}
use Rattle.steps.specs.declared.Step.{Step}
use Rattle.steps.specs.declared.Step.TheVariants.{Store as store, WriteBack as write_back, Fence as fence}
use Rattle.steps.specs.Model.{line, made, run, cut, Rule}
use Rattle.steps.specs.Settling.{EachStore}
use Rattle.steps.proofs.Section.{Closed, cut_keeps, cut_made}
use Rattle.steps.specs.Encoding.{in_image, steps_of}
use Rattle.steps.specs.Lists.{Each}
use Rattle.steps.proofs.Lists.{each_at}
use Rattle.steps.proofs.Views.{cut_view, run_view}
use Rattle.image.specs.Map.{Entry}
use Rattle.image.specs.Image.{blocks}
use Rattle.lists.specs.Served.{Proper, Small, Left, Served}
use Rattle.lists.specs.Bytes.{LeftBytes, ServedBytes}

-- ---- bytes make words of 64 bits

pub reads_small : (l : List ℕ) → Bytes l → Small (reads l)
unfolding reads
reads_small l bytes p = word_small l _ bytes

-- ---- a stored word is eight bytes

bytes_set : (l : List ℕ) (i x : ℕ) → x < 256 → Bytes l → Bytes (set l i x)
bytes_set l i x h b j =
    elim (ℕ_discrete j i) [
      | yes e ↦ elim (dec_lt i (length l)) [
        | yes k ↦ rw (e, get_or-set_same l i x 0 k) h
        | no k ↦ rw (get_or-eq_default (set l i x) 0 {n = j} (simp length-set (omega arith))) (omega arith)
      ]
      | no ne ↦ rw (get_or-set_other l i j x 0 ne) (b j)
    ]

bytes_stores : (n k v : ℕ) (l : List ℕ) (p j : ℕ) → Bytes l → Bytes (stores l p j (bytes_of v k n))
bytes_stores zero k v l p j b = b
bytes_stores (suc n) k v l p j b =
    bytes_stores n (suc k) v (set l (p + j) (byte_of v k)) p (suc j) (bytes_set l (p + j) (byte_of v k) (omega arith) b)

pub bytes_store : (l : List ℕ) (p v : ℕ) → Bytes l → Bytes (store_at l p v)
unfolding store_at
bytes_store l p v b = bytes_stores 8 0 v l p 0 b

-- ---- proper steps

proper_inside : (N z : ℕ) → z ≡ 256 * N → (l : List Step) → Each (Proper N) l → Each (λ x. in_image z x ≡ true) l
proper_inside N z e [] a = tt
proper_inside N z e (store p v ∷ l) a = (lt-ltb (8 * p) z (omega (arith, a.0.0)), proper_inside N z e l a.1)
proper_inside N z e (write_back k ∷ l) a = (lt-ltb k (z / 64) (omega (arith, a.0)), proper_inside N z e l a.1)
proper_inside N z e (fence ∷ l) a = (refl, proper_inside N z e l a.1)

-- ---- the promise

module _ (rule : Rule) (l : List ℕ) (bs : List ℕ) (t : List Step) (es : List Entry) (price : ℕ)
    (whole : length l ≡ 256 * blocks l) (bytes : Bytes l) (S : Served rule (reads l) (blocks l) bs t es price) where
  -- an image of as many bytes
  abbrev Alike : List ℕ → Type 0
  Alike m = (length m ≡ length l) × Bytes m

  abbrev Held : ℕ → ℕ → Type 0
  Held p v = (8 * p + 8 ≤ length l) × (v < 2 ^ 64)

  held : (n : ℕ) → n ≤ length t → EachStore (steps_of t) n (λ i p v. Held p v)
  held n h i p v b e =
      let f : Proper (blocks l) (store p v) = rw e at (each_at (Proper (blocks l)) t i S.proper (omega arith)) in
      (omega (arith, f.0), f.1)

  keeps : Closed store_word Held Alike
  keeps m p v f a = (length_store m (8 * p) v ∙ a.0, bytes_store m (8 * p) v a.1)

  cut_alike : (n : ℕ) (a : ℕ → ℕ) → n ≤ length t → Alike (cut store_word line (steps_of t) a l n)
  cut_alike n a h =
      cut_keeps line store_word Held Alike keeps (steps_of t) a l n (λ i p v b e x. held n h i p v b e) (refl, bytes)

  shows : (m : List ℕ) (p v : ℕ) → Held p v → Alike m → reads (store_word m p v) ≡ upd (reads m) p v
  shows m p v f e = reads_store m p v (omega (arith, f.0, e.0)) f.1

  pub cut_reads : (n : ℕ) (a : ℕ → ℕ) → n ≤ length t
      → reads (cut store_word line (steps_of t) a l n) ≡ cut upd line (steps_of t) a (reads l) n
  cut_reads n a h =
      cut_view store_word upd reads Held Alike keeps shows line (steps_of t) a l n (held n h) (refl, bytes)

  pub run_reads : (n : ℕ) → n ≤ length t → reads (run store_word (steps_of t) l n) ≡ run upd (steps_of t) (reads l) n
  run_reads n h =
      run_view store_word upd reads Held Alike keeps shows (steps_of t) l n (held n h) (refl, bytes)

  lift : (m : List ℕ) (x : ℕ → ℕ) (fs : List Entry) (cost bound : ℕ) → Alike m → reads m ≡ x
      → Left (blocks l) x fs cost bound → LeftBytes l m fs cost bound
  lift m x fs cost bound a e r = record {
    long = a.0;
    bytes = a.1;
    left = rw (e, ap (λ (z : ℕ). z / 256) a.0) r;
  }

  -- the image of a whole run is that of a cut in which all stores arrived
  run_alike : Alike (run store_word (steps_of t) l (length t))
  run_alike =
      rw (cut_made line store_word (steps_of t) l (length t)) at
      (cut_alike (length t) (made line (steps_of t) (length t)) (omega arith))

  pub served_bytes : ServedBytes rule l bs t es price
  served_bytes = record {
    inside = proper_inside (blocks l) (length l) whole t S.proper;
    settled = S.settled;
    whole = lift _ _ es _ _ run_alike (run_reads (length t) (omega arith)) S.whole;
    cuts = λ n a h ok. elim (S.cuts n a h ok) [
      | inl r ↦ inl (lift _ _ _ _ _ (cut_alike n a h) (cut_reads n a h) r)
      | inr r ↦ inr (lift _ _ _ _ _ (cut_alike n a h) (cut_reads n a h) r)
    ];
  }
