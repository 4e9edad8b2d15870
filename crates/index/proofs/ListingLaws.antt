-- One turn of each loop of listing, as a step of what the buffers are filled with, and each answer, from the tests that led
-- to it.
use Rattle.std.specs.Prelude.{◌≡◌, refl, true, false, ◌≢◌, eqb, length, take, drop, get_or, set, Ok, Err}
use Rattle.std.proofs.Math.Path.{sym, ap}
use Rattle.std.proofs.Common.{◌∙◌, subst, length-take, drop_of_length-le, drop-cons}
use Rattle.std.proofs.Math.Bool.{cond, not}
use mathlib.Core.List.{List, [], ◌∷◌, ◌++◌, map}
use Rattle.std.proofs.lemmas.List.{length-map}
use Prim.Native.Nat.{ℕ, suc, ◌+◌, ◌-◌, ◌≤◌, ◌<◌, min}
use Rattle.std.proofs.Math.Numerals.{add-one}
use native.Mathlib.Omega.{arith}
use borrow.Rule.Slice.PartMut.{put_mid, mid_of}
use Rattle.leaf.specs.Leaf.{Leaf, Right, leaf_in}
use Rattle.steps.specs.Refusals.{bad_image}
use Rattle.image.specs.Map.{Entry, starting_at}
use Rattle.image.specs.Chain.{All}
use Rattle.image.specs.Image.{blocks, leaves}
use Rattle.image.specs.ChainLaws.{Good}
use Rattle.image.proofs.ChainLaws.{sound_good, all_zip, all_split}
use Rattle.image.specs.Order.{slots_from, slots_of}
use Rattle.image.specs.Entries.{entry_in, entries_at, entries_of, list_of}
use Rattle.image.proofs.Entries.{list_from_lem}
use Rattle.survey.specs.Walk.{surveyed}
use Rattle.index.specs.Reading.{chain_from, entries_in, over}
use Rattle.index.specs.Reading.{counted, listed_as, Listing, listing_is, listed, listing_of}
use Rattle.steps.proofs.Refusals.{row_given, row_left}
use Rattle.index.proofs.SoundTest.{says_yes, says_no, noted_around}
use Rattle.index.specs.Filling.{Buffers, buffers, fill}
use Rattle.index.proofs.Filling.{fill_full, fill_one, fill_append, fill_part, fill_whole, over_part}
use Rattle.index.proofs.Along.{chain_on, chain_last, chain_over}
use Rattle.steps.specs.declared.refusal.Refusal.TheVariants.{BadImage, Unsound}
use Rattle.index.specs.ListingLaws.{entries_from, list_from}

-- ---- one leaf

module _ (L : Leaf) (room i n : ℕ) (ss ks vs : List ℕ) (whole : Buffers)
    (so_far : fill room (entries_at L (drop i ss)) (buffers n ks vs) ≡ whole) where
  pub slots_end : length ss ≤ i → buffers n ks vs ≡ whole
  unfolding entries_at fill
  slots_end h = rw (drop_of_length-le ss h) at so_far

  pub slots_full : room ≤ n → buffers n ks vs ≡ whole
  slots_full h = sym (fill_full room (entries_at L (drop i ss)) (buffers n ks vs) h) ∙ so_far

  pub slots_next : (s k v : ℕ) → i < length ss → n < room → s ≡ get_or ss i 0 → k ≡ L.key s → v ≡ L.val s
      → fill room (entries_at L (drop (i + 1) ss)) (buffers (n + 1) (set ks n k) (set vs n v)) ≡ whole
  unfolding entries_at
  slots_next s k v turn has_room at key value =
      rw (key, value, at, add-one i)
      (sym (fill_one room (entry_in L (get_or ss i 0)) (entries_at L (drop (suc i) ss)) (buffers n ks vs) has_room)
      ∙ (rw (drop-cons ss i 0 turn) at so_far))

pub order_lists : (l : List ℕ) (lo : ℕ) (ss : List ℕ) → ss ≡ slots_from (leaf_in l) 14 lo
    → entries_at (leaf_in l) ss ≡ entries_from (leaf_in l) lo
unfolding entries_from leaf_in
order_lists l lo ss e = ap (entries_at (leaf_in l)) e

-- a leaf's entries put behind the n that the buffers hold, which are lent from there on
pub leaf_listed : (n room : ℕ) (ks vs : List ℕ) → n ≤ room → length ks ≡ room → length vs ≡ room
    → (L M : Leaf) → L ≡ M → (lo m : ℕ) (ks' vs' : List ℕ)
    → buffers m ks' vs'
    ≡ fill (length (mid_of n (length ks - n) ks)) (entries_from L lo)
    (buffers 0 (mid_of n (length ks - n) ks) (mid_of n (length vs - n) vs))
    → buffers (n + m) (put_mid n (length ks - n) ks ks') (put_mid n (length vs - n) vs vs')
    ≡ fill room (entries_from M lo) (buffers n ks vs)
leaf_listed n room ks vs h k v L M e lo m ks' vs' is =
    fill_part n ks vs (omega arith) (k ∙ sym v) (entries_from L lo) m ks' vs' is
    ∙ (λ i. fill (k i) (entries_from (e i) lo) (buffers n ks vs))

-- ---- the leaves of a chain

list_all : (I : ℕ → Leaf) (bs : List ℕ) → list_from I 0 bs ≡ list_of I bs
unfolding list_from list_of entries_from entries_of slots_of
list_all I [] = refl
list_all I (b ∷ bs) = refl

module _ (I : ℕ → Leaf) (N room i b lo : ℕ) (st whole : Buffers)
    (so_far : fill room (list_from I lo (chain_from I (N - i) b)) st ≡ whole) where
  pub chain_done : N ≤ i → st ≡ whole
  unfolding list_from fill
  chain_done h = rw (chain_over I N i b h) at so_far

  module _ (turn : i < N) (st' : Buffers) (leaf : st' ≡ fill room (entries_from (I b) lo) st) where
    rest : (bs : List ℕ) → chain_from I (N - i) b ≡ b ∷ bs → fill room (list_of I bs) st' ≡ whole
    unfolding list_from
    rest bs e =
        ap (fill room (list_of I bs)) leaf ∙ sym (fill_append room (entries_from (I b) lo) (list_of I bs) st)
        ∙ ap (λ (cs : List ℕ). fill room (list_from I lo cs) st) (sym e) ∙ so_far

    pub chain_next : (c : ℕ) → c ≡ (I b).next → c ≢ 0 → fill room (list_from I 0 (chain_from I (N - (i + 1)) c)) st' ≡ whole
    chain_next c e nz =
        rw (e, list_all I (chain_from I (N - (i + 1)) (I b).next))
        (rest (chain_from I (N - (i + 1)) (I b).next) (chain_on I N i b turn (λ z. nz (e ∙ z))))

    pub chain_ends : (c : ℕ) → c ≡ (I b).next → c ≡ 0 → st' ≡ whole
    unfolding list_of fill
    chain_ends c e z = rest [] (chain_last I N i b turn (sym e ∙ z))

    pub chain_full : room ≤ st'.used → st' ≡ whole
    unfolding chain_from
    chain_full h =
        let q : N - i ≡ suc (N - (i + 1)) = omega arith in
        sym (fill_full room (list_of I bs) st' h) ∙ rest bs (rw q refl)
      where
        bs : List ℕ
        bs = cond (eqb (I b).next 0) [] (chain_from I (N - (i + 1)) (I b).next)

-- ---- the answers

module _ (l : List ℕ) (from : ℕ) (fine : bad_image (length l) ≡ false)
    (sound : (surveyed (leaves l) (blocks l) from).stage ≡ 1) where
  pub target_near : All (λ c. (c < blocks l) × Right (leaves l c))
      (chain_from (leaves l) (blocks l) (surveyed (leaves l) (blocks l) from).target)
  target_near =
      let t = noted_around l from fine sound in
      let bs = (surveyed (leaves l) (blocks l) from).target ∷ t.behind in
      let good = (all_split (Good (leaves l) (blocks l)) t.front bs (sound_good (leaves l) (blocks l) t.sound)).1 in
      subst (All (λ c. (c < blocks l) × Right (leaves l c))) (sym t.ahead)
      (all_zip (λ c. c < blocks l) (Good (leaves l) (blocks l)) (λ c. (c < blocks l) × Right (leaves l c))
      (λ c h g. (h, g.right)) bs t.near good)

  -- what the leaves from the target on hold from the key on are the map's entries from it on
  target_lists : list_from (leaves l) from (chain_from (leaves l) (blocks l) (surveyed (leaves l) (blocks l) from).target)
      ≡ starting_at from (entries_in l)
  unfolding list_from entries_from entries_in
  target_lists =
      let t = noted_around l from fine sound in
      ap (list_from (leaves l) from) t.ahead
      ∙ sym (list_from_lem (leaves l) (blocks l) t.front (surveyed (leaves l) (blocks l) from).target t.behind t.sound from
      t.target_is)
      ∙ ap (λ (bs : List ℕ). starting_at from (list_of (leaves l) bs)) (sym t.whole)

-- the outcome by the answer, where these are the entries to write
abbrev pub listing_on : List Entry → List ℕ → List ℕ → ℕ → Listing
listing_on es ks vs n =
    cond (eqb n 0) (listing_is (counted n (length es)) (over (map (λ e. e.key) es) ks) (over (map (λ e. e.val) es) vs))
    (listing_is (counted n 0) ks vs)

module _ (l : List ℕ) (from : ℕ) (ks vs : List ℕ) where
  pub listing_bad : bad_image (length l) ≡ true → listing_is (listed_as (Err BadImage)) ks vs ≡ listing_of l from ks vs
  unfolding listing_of
  listing_bad e = sym (ap (listing_on (listed l from ks vs) ks vs) (row_given 1 _ e))

  pub listing_unsound : bad_image (length l) ≡ false → ((surveyed (leaves l) (blocks l) from).stage ≡ 1 → ⊥)
      → listing_is (listed_as (Err Unsound)) ks vs ≡ listing_of l from ks vs
  unfolding listing_of
  listing_unsound fine ne =
      sym (ap (listing_on (listed l from ks vs) ks vs) (row_left 1 _ fine ∙ row_given 3 0 (ap not (says_no l from fine ne))))

  -- into the parts of both buffers that are as long as the shorter
  pub listing_done : bad_image (length l) ≡ false → (surveyed (leaves l) (blocks l) from).stage ≡ 1
      → (room b n : ℕ) (ks' vs' : List ℕ) → room ≡ min (length ks) (length vs) → b ≡ (surveyed (leaves l) (blocks l) from).target
      → buffers n ks' vs'
      ≡ fill (length (take room ks)) (list_from (leaves l) from (chain_from (leaves l) (blocks l) b))
      (buffers 0 (take room ks) (take room vs))
      → listing_is (listed_as (Ok n)) (ks' ++ drop room ks) (vs' ++ drop room vs) ≡ listing_of l from ks vs
  unfolding listing_of
  listing_done fine e room b n ks' vs' r t is =
      let es = take room (starting_at from (entries_in l)) in
      let k : length (take room ks) ≡ room = omega (arith, length-take room ks) in
      let v : length (take room vs) ≡ room = omega (arith, length-take room vs) in
      let whole = is
      ∙ (λ i. fill (k i) (list_from (leaves l) from (chain_from (leaves l) (blocks l) (t i))) (buffers 0 (take room ks) (take room vs)))
      ∙ ap (λ (fs : List Entry). fill room fs (buffers 0 (take room ks) (take room vs))) (target_lists l from fine e)
      ∙ fill_whole room (starting_at from (entries_in l)) (take room ks) (take room vs) (omega arith) (omega arith) in
      ap (λ (x : Buffers). listing_is (counted 0 x.used) (x.keys ++ drop room ks) (x.values ++ drop room vs)) whole
      ∙ (λ i. listing_is (counted 0 (length es))
      (over_part (map (λ e. e.key) es) ks room (few (λ e. e.key)) (omega arith) i)
      (over_part (map (λ e. e.val) es) vs room (few (λ e. e.val)) (omega arith) i))
      ∙ ap (λ (m : ℕ). done (take m (starting_at from (entries_in l)))) r
      ∙ sym (ap (listing_on (listed l from ks vs) ks vs) (row_left 1 _ fine ∙ row_left 3 0 (ap not (says_yes l from fine e))))
    where
      few : (f : Entry → ℕ) → length (map f (take room (starting_at from (entries_in l)))) ≤ room
      few f = omega (arith, length-map (take room (starting_at from (entries_in l))) f, length-take room (starting_at from (entries_in l)))

      done : List Entry → Listing
      done es = listing_is (counted 0 (length es)) (over (map (λ e. e.key) es) ks) (over (map (λ e. e.val) es) vs)
