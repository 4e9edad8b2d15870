-- The notes of recovery's walk written out, and each answer, from the tests that led to it.
use Rattle.std.specs.Prelude.{◌≡◌, Bool, true, false, cond, ℕ, zero, suc, ◌≤◌, ◌<◌, ltb, eqb, get_or, take, Ok, Err}
use Rattle.std.proofs.Math.Path.{refl, sym, ap}
use Rattle.std.proofs.Common.{◌∙◌, subst, arith, ltb-false, length-take, ext_get_or}
use Rattle.std.proofs.Math.Bool.{not}
use mathlib.Core.List.{List, [], ◌∷◌, map}
use Rattle.std.proofs.Math.ListN.{length}
use Rattle.std.proofs.lemmas.List.{length-map}
use Rattle.words.specs.Bools.{or_false}
use Rattle.leaf.specs.Search.{smallest_of}
use Rattle.steps.specs.Refusals.{bad_image}
use Rattle.steps.proofs.Refusals.{row_given, row_left}
use Rattle.survey.specs.Walk.{start, surveyed, visited, NotedTo, Noted}
use Rattle.image.proofs.ChainSize.{chain_short}
use Rattle.image.specs.Entries.{list_of}
use Rattle.image.proofs.Entries.{chain_length}
use Rattle.image.specs.Image.{blocks, leaves}
use Rattle.image.proofs.ImageLaws.{good_length}
use Rattle.index.specs.Reading.{chain_of, entries_in, over}
use Rattle.index.specs.Reading.{sizes, recovered_as, Recovery, recovery_is, is_short, recovery_of}
use Rattle.index.proofs.SoundTest.{survey_sound, says_yes, says_no, sound_chain}
use Rattle.index.proofs.Along.{visited_chain}
use Rattle.steps.specs.declared.refusal.Refusal.TheVariants.{BadImage, ShortBuffer, Unsound}
use Rattle.std.proofs.Math.Seq.{get_or-take}

get_d_map : (f : ℕ → ℕ) (l : List ℕ) (j : ℕ) → j < length l → get_or (map f l) j 0 ≡ f (get_or l j 0)
get_d_map f [] j h = absurd (omega arith)
get_d_map f (x ∷ l) zero h = refl
get_d_map f (x ∷ l) (suc j) h = get_d_map f l j (omega arith)

-- the first n of a list, where ys are these
noted_list : (n : ℕ) (xs ys : List ℕ) → n ≤ length xs → length ys ≡ n → ((j : ℕ) → j < n → get_or xs j 0 ≡ get_or ys j 0)
    → take n xs ≡ ys
noted_list n xs ys few e is =
    ext_get_or 0 (take n xs) ys (omega (arith, length-take n xs))
    (λ j h. let b : j < n = omega (arith, length-take n xs) in get_or-take n xs j 0 b ∙ is j b)

-- ---- the answers

module _ (l : List ℕ) (fine : bad_image (length l) ≡ false) (sound : (surveyed (leaves l) (blocks l) 0).stage ≡ 1) where
  chain_found : chain_of l ≡ (survey_sound l 0 fine sound).chain
  chain_found = let s = survey_sound l 0 fine sound in sound_chain l s.chain fine s.sound

  entries_told : (surveyed (leaves l) (blocks l) 0).entries ≡ length (entries_in l)
  unfolding entries_in
  entries_told =
      let s = survey_sound l 0 fine sound in
      s.notes.entries ∙ sym (chain_length (leaves l) (blocks l) s.chain s.sound)
      ∙ ap (λ (bs : List ℕ). length (list_of (leaves l) bs)) (sym chain_found)

  leaves_told : (surveyed (leaves l) (blocks l) 0).leaves ≡ length (chain_of l)
  leaves_told = let s = survey_sound l 0 fine sound in s.notes.leaves ∙ ap length (sym chain_found)

  -- there are no more leaves than blocks, and so room for the notes of all
  pub leaves_few : ((surveyed (leaves l) (blocks l) 0).leaves ≤ blocks l) × (blocks l ≤ 256)
  leaves_few =
      let s = survey_sound l 0 fine sound in
      let z = good_length l fine in
      (omega (arith, s.notes.leaves, chain_short (leaves l) (blocks l) s.chain s.sound z.some), omega (arith, z.whole, z.most))

  visited_is : visited (leaves l) (blocks l) 0 (blocks l) start ≡ chain_of l
  unfolding chain_of surveyed
  visited_is = visited_chain (leaves l) (blocks l) 0 (blocks l) start refl sound

  -- the notes of the walk are what is to be written
  module _ (leasts numbers : List ℕ) (k : Noted (leaves l) (blocks l) 0 leasts numbers) (a : length leasts ≡ 256)
      (b : length numbers ≡ 256) where
    notes : NotedTo (leaves l) (chain_of l) (length (chain_of l)) leasts numbers
    notes = subst (λ (bs : List ℕ). NotedTo (leaves l) bs (length bs) leasts numbers) visited_is k

    keys_noted : (j : ℕ) → j < length (chain_of l) → get_or leasts j 0 ≡ get_or (map (λ b. smallest_of (leaves l b)) (chain_of l)) j 0
    keys_noted j h =
        notes.least j h (omega (arith, leaves_told, leaves_few.0, leaves_few.1)) ∙ sym (get_d_map (λ b. smallest_of (leaves l b)) (chain_of l) j h)

    blocks_noted : (j : ℕ) → j < length (chain_of l) → get_or numbers j 0 ≡ get_or (chain_of l) j 0
    blocks_noted j h = notes.number j h (omega (arith, leaves_told, leaves_few.0, leaves_few.1))

-- enough room
pub not_short : (N a b : ℕ) → is_short N a b ≡ false → (N ≤ a) × (N ≤ b)
not_short N a b e = let h = or_false (ltb a N) (ltb b N) e in (ltb-false a N h.0, ltb-false b N h.1)

module _ (l : List ℕ) (ks vs : List ℕ) where
  -- the outcome by the answer, where this is the number of the entries
  abbrev pub recovery_on : ℕ → ℕ → Recovery
  recovery_on m n =
      cond (eqb n 0)
      (recovery_is (sizes n (length (chain_of l)) m) (over (map (λ b. smallest_of (leaves l b)) (chain_of l)) ks)
      (over (chain_of l) vs))
      (recovery_is (sizes n 0 0) ks vs)

  abbrev short : Bool
  short = is_short (blocks l) (length ks) (length vs)

  pub recovery_bad : bad_image (length l) ≡ true → recovery_is (recovered_as (Err BadImage)) ks vs ≡ recovery_of l ks vs
  unfolding recovery_of
  recovery_bad e = sym (ap (recovery_on (length (entries_in l))) (row_given 1 _ e))

  pub recovery_short : bad_image (length l) ≡ false → short ≡ true → recovery_is (recovered_as (Err ShortBuffer)) ks vs ≡ recovery_of l ks vs
  unfolding recovery_of
  recovery_short fine e = sym (ap (recovery_on (length (entries_in l))) (row_left 1 _ fine ∙ row_given 8 _ e))

  module _ (fine : bad_image (length l) ≡ false) (wide : short ≡ false) where
    pub recovery_unsound : ((surveyed (leaves l) (blocks l) 0).stage ≡ 1 → ⊥)
        → recovery_is (recovered_as (Err Unsound)) ks vs ≡ recovery_of l ks vs
    unfolding recovery_of
    recovery_unsound ne =
        sym (ap (recovery_on (length (entries_in l)))
        (row_left 1 _ fine ∙ row_left 8 _ wide ∙ row_given 3 0 (ap not (says_no l 0 fine ne))))

    pub recovery_done : (e : (surveyed (leaves l) (blocks l) 0).stage ≡ 1) → (n m : ℕ) (leasts numbers : List ℕ)
        → n ≡ (surveyed (leaves l) (blocks l) 0).leaves → m ≡ (surveyed (leaves l) (blocks l) 0).entries
        → Noted (leaves l) (blocks l) 0 leasts numbers → length leasts ≡ 256 → length numbers ≡ 256
        → recovery_is (recovered_as (Ok (record { leaves = n; entries = m }))) (over (take n leasts) ks) (over (take n numbers) vs)
        ≡ recovery_of l ks vs
    unfolding recovery_of
    recovery_done e n m leasts numbers en em k a b =
        let few = leaves_few l fine e in
        let all : n ≡ length (chain_of l) = en ∙ leaves_told l fine e in
        let keys = noted_list n leasts (map (λ b. smallest_of (leaves l b)) (chain_of l)) (omega (arith, few.0, few.1))
        (length-map (chain_of l) _ ∙ sym all) (λ j h. keys_noted l fine e leasts numbers k a b j (omega arith)) in
        let numbered = noted_list n numbers (chain_of l) (omega (arith, few.0, few.1)) (sym all)
        (λ j h. blocks_noted l fine e leasts numbers k a b j (omega arith)) in
        (λ i. recovery_is (sizes 0 (all i) ((em ∙ entries_told l fine e) i)) (over (keys i) ks) (over (numbered i) vs))
        ∙ sym (ap (recovery_on (length (entries_in l)))
        (row_left 1 _ fine ∙ row_left 8 _ wide ∙ row_left 3 0 (ap not (says_yes l 0 fine e))))
