-- "Two sound images alike in length, chain, occupied slots and entries give equal find, listing, recovery answers and refusals."
use Rattle.std.specs.Prelude.{◌≡◌, refl, Bool, false, cond, not, List, [], ◌∷◌, ℕ, ◌/◌, leb, eqb, length, Option, Some, None}
use Rattle.std.proofs.Common.{sym, ap, ◌∙◌, subst}
use Rattle.words.specs.Bools.{both, by_test}
use Rattle.words.specs.Below.{count_below}
use Rattle.words.specs.BelowLaws.{count_cong}
use Rattle.leaf.specs.Leaf.{Leaf}
use Rattle.leaf.specs.Search.{lowest}
use Rattle.leaf.specs.Tally.{at_most}
use Rattle.steps.specs.Refusals.{answer, bad_image}
use Rattle.machine.specs.Taking.{run_table, cut_table}
use Rattle.image.specs.Map.{lookup}
use Rattle.image.proofs.Same.{Same, Slots}
use Rattle.image.proofs.CountLaws.{count_slots}
use Rattle.image.proofs.ChainLaws.{Agree, all_split}
use Rattle.image.specs.Image.{leaves, Alike}
use Rattle.image.proofs.ImageLaws.{alike_agree}
use Rattle.verdict.specs.Place.{reaches_to, target_from}
use Rattle.steps.proofs.Refusals.{row_given}
use Rattle.index.specs.Reading.{is_sound, entries_in, is_none, Told as Found, Listing, Recovery}
use Rattle.index.proofs.SoundTest.{sound_test}
use Rattle.index.specs.Agreement.{found_in}
use Rattle.index.proofs.Agreement.{find_accepted}
use Rattle.index.proofs.AlikeReading.{same_bad, first_sound, second_sound, chain_first, same_chain}
use Rattle.index.proofs.AlikeReading.{alike_find, alike_listing, alike_recovery}
use Rattle.writing.specs.Writing.{target_of, free_of, is_among, is_full, short_list, put_table, change_table}
use Rattle.demands.proofs.Accepted.{judged}
use Rattle.demands.specs.Calls.{Asked, find, listing, recovery, put, set, del, run, cut, Result, Allowed}
use Rattle.demands.specs.Calls.{Told, tells, told, table}
use Rattle.demands.proofs.Demand1.{answers}
use Rattle.demands.specs.Alike.{Demanded, Reads, asked_of, image_of}

-- ---- the target leaf and the free block

reaches_same : {L M : Leaf} (k : ℕ) → Slots L M → reaches_to M k ≡ reaches_to L k
unfolding at_most
reaches_same {L} {M} k S = ap (λ (n : ℕ). not (eqb (count_below (at_most M k) n) 0)) S.size ∙ ap (λ (n : ℕ). not (eqb n 0)) e
  where
    by_slot_lem : (s : ℕ) → at_most M k s ≡ at_most L k s
    by_slot_lem s =
        by_test (λ b. at_most M k s ≡ at_most L k s) (L.occ s)
        (λ o. λ i. both (S.occ s i) (leb (S.key s o i) k))
        (λ o. ap (λ (b : Bool). both b (leb (M.key s) k)) (S.occ s ∙ o)
        ∙ sym (ap (λ (b : Bool). both b (leb (L.key s) k)) o))

    e : count_below (at_most M k) L.size ≡ count_below (at_most L k) L.size
    e = count_cong (at_most M k) (at_most L k) L.size (λ s h. by_slot_lem s)

target_same : (I J : ℕ → Leaf) (k t : ℕ) (bs : List ℕ) → Agree bs I J → target_from J k t bs ≡ target_from I k t bs
unfolding target_from
target_same I J k t [] a = refl
target_same I J k t (b ∷ bs) a =
    ap (λ (x : Bool). target_from J k (cond x b t) bs) (reaches_same k a.0.slots)
    ∙ target_same I J k (cond (reaches_to (I b) k) b t) bs a.1

module _ (l m : List ℕ) (a : Alike l m) (fine : bad_image (length l) ≡ false) where
  same_sound : is_sound m ≡ is_sound l
  same_sound = sound_test m (same_bad a ∙ fine) (second_sound a) ∙ sym (sound_test l fine (first_sound a))

  -- find tells whether the key is there
  same_none : (k : ℕ) → is_none (lookup k (entries_in m)) ≡ is_none (lookup k (entries_in l))
  same_none k =
      by (lookup k (entries_in m)) (lookup k (entries_in l))
      (sym (find_accepted m (same_bad a ∙ fine) (second_sound a) k) ∙ alike_find l m a k ∙ find_accepted l fine (first_sound a) k)
    where
      absent : (v : Option ℕ) → is_none v ≡ eqb (found_in v).answer 5
      absent (Some v) = refl
      absent None = refl

      by : (v w : Option ℕ) → found_in v ≡ found_in w → is_none v ≡ is_none w
      by v w e = absent v ∙ ap (λ (t : Found). eqb t.answer 5) e ∙ sym (absent w)

  same_target : (k : ℕ) → target_of m k ≡ target_of l k
  same_target k =
      ap (target_from (leaves m) k 0) (same_chain a fine ∙ chain_first a fine)
      ∙ target_same (leaves l) (leaves m) k 0 a.chain (alike_agree l m a)
      ∙ ap (target_from (leaves l) k 0) (sym (chain_first a fine))

  -- the target leaf is of the chain
  same_leaf : (k : ℕ) → Slots (leaves l (target_of l k)) (leaves m (target_of l k))
  same_leaf k =
      let J = judged l k fine (sound_test l fine (first_sound a)) in
      (all_split (λ b. Same (leaves l b) (leaves m b)) J.front (target_of l k ∷ J.behind)
      (subst (λ (bs : List ℕ). Agree bs (leaves l) (leaves m)) (sym (chain_first a fine) ∙ J.chain) (alike_agree l m a))).1.0.slots

  same_full : (k : ℕ) → is_full (leaves m (target_of m k)) ≡ is_full (leaves l (target_of l k))
  same_full k =
      ap (λ (b : ℕ). is_full (leaves m b)) (same_target k)
      ∙ (λ i. eqb (count_slots (same_leaf k) i) ((same_leaf k).size i))

  same_free : free_of m ≡ free_of l
  same_free = λ i. lowest (λ b. not (is_among b (same_chain a fine i))) (a.long i / 256) 0

  put_same : (list : List ℕ) (k : ℕ) → answer (put_table m list k) ≡ answer (put_table l list k)
  put_same list k = λ i.
      answer
      ((1, bad_image (a.long i)) ∷ (2, short_list list) ∷ (3, not (same_sound i)) ∷ (4, not (same_none k i))
      ∷ (6, both (same_full k i) (is_none (same_free i))) ∷ [])

  change_same : (list : List ℕ) (k : ℕ) → answer (change_table m list k) ≡ answer (change_table l list k)
  change_same list k = λ i.
      answer ((1, bad_image (a.long i)) ∷ (2, short_list list) ∷ (3, not (same_sound i)) ∷ (5, same_none k i) ∷ [])

-- an image whose length is refused is refused alike
module _ (l m : List ℕ) (a : Alike l m) (list : List ℕ) (k : ℕ) where
  alike_put : answer (put_table m list k) ≡ answer (put_table l list k)
  alike_put =
      by_test (λ b. answer (put_table m list k) ≡ answer (put_table l list k)) (bad_image (length l))
      (λ e. row_given 1 _ (same_bad a ∙ e) ∙ sym (row_given 1 _ e)) (λ e. put_same l m a e list k)

  alike_change : answer (change_table m list k) ≡ answer (change_table l list k)
  alike_change =
      by_test (λ b. answer (change_table m list k) ≡ answer (change_table l list k)) (bad_image (length l))
      (λ e. row_given 1 _ (same_bad a ∙ e) ∙ sym (row_given 1 _ e)) (λ e. change_same l m a e list k)

-- ---- THE DEMAND

by_table : (asked : Asked) (m : List ℕ) (r : Result asked) (s : Result (asked_of m asked)) → Allowed asked r
    → Allowed (asked_of m asked) s → answer (table (asked_of m asked)) ≡ answer (table asked) → (Reads asked → ⊥)
    → Demanded asked m r s
by_table asked m r s p q e writes =
    record { refusals = answers (asked_of m asked) s q ∙ e ∙ sym (answers asked r p); reads = λ u. absurd (writes u) }

as_told : (asked : Asked) (m : List ℕ) (r : Result asked) (s : Result (asked_of m asked))
    → told (asked_of m asked) s ≡ told asked r → Demanded asked m r s
as_told asked m r s e = record { refusals = ap (λ (t : Told). t.number) e; reads = λ u. e }

pub alike : (asked : Asked) (m : List ℕ) → Alike (image_of asked) m → (r : Result asked) (s : Result (asked_of m asked))
    → Allowed asked r → Allowed (asked_of m asked) s → Demanded asked m r s
alike (find image key) m a r s p q =
    as_told (find image key) m r s
    (ap (λ (t : Found). tells t.answer (t.value ∷ []) []) (q ∙ alike_find image m a key ∙ sym p))
alike (listing image from keys values) m a r s p q =
    as_told (listing image from keys values) m r s
    (ap (λ (o : Listing). tells o.told.answer (o.told.count ∷ []) (o.keys ∷ o.values ∷ []))
    (q ∙ alike_listing image m a from keys values ∙ sym p))
alike (recovery image smallest numbers) m a r s p q =
    as_told (recovery image smallest numbers) m r s
    (ap (λ (o : Recovery). tells o.told.answer (o.told.leaves ∷ o.told.entries ∷ []) (o.smallest ∷ o.blocks ∷ []))
    (q ∙ alike_recovery image m a smallest numbers ∙ sym p))
alike (put image list key value) m a r s p q =
    by_table (put image list key value) m r s p q (alike_put image m a list key) (λ u. u)
alike (set image list key value) m a r s p q =
    by_table (set image list key value) m r s p q (alike_change image m a list key) (λ u. u)
alike (del image list key) m a r s p q = by_table (del image list key) m r s p q (alike_change image m a list key) (λ u. u)
alike (run image list n) m a r s p q =
    by_table (run image list n) m r s p q (ap (λ (z : ℕ). answer (run_table z list n)) a.long) (λ u. u)
alike (cut image list n arrivals) m a r s p q =
    by_table (cut image list n arrivals) m r s p q (ap (λ (z : ℕ). answer (cut_table z list n arrivals)) a.long) (λ u. u)
