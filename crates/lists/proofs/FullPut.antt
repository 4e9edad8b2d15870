-- Put into a full leaf: the split is a section; where the new key went to the new leaf it is the whole put, else it
-- leaves the entries as they are and pays for itself, and a plain put follows.
use Prim.Native.Nat.{ℕ, ◌+◌, ◌-◌, ◌*◌, ◌^◌, ◌≤◌, ◌<◌}
use Rattle.std.proofs.Math.Decide.{ℕ_discrete}
use native.Mathlib.Omega.{arith}
use Rattle.std.specs.Prelude.{Bool, ◌≡◌, ◌⊎◌, ◌≢◌, length, drop}
use Rattle.std.proofs.Math.Bool.{true, false}
use mathlib.Core.List.{List, [], ◌∷◌, ◌++◌}
use Rattle.std.proofs.Math.Path.{refl, sym, ap}
use Rattle.std.proofs.Common.{◌∙◌, subst}
use Rattle.std.proofs.Math.Logic.{inl}
use borrow.Author.Tests.{ltb-true, ltb-false}
use Rattle.words.specs.Update.{upd}
use Rattle.header.specs.Header.{whole, cleared_all}
use Rattle.leaf.specs.Leaf.{Leaf, Taken, In, Right, block, view}
use Rattle.leaf.specs.Search.{count}
use Rattle.steps.specs.declared.Step.{Step}
use Rattle.steps.specs.declared.Step.TheVariants.{WriteBack as write_back}
use Rattle.steps.specs.Model.{Rule, line, run}
use Rattle.steps.proofs.Settling.{Lawful}
use Rattle.steps.specs.Section.{Section}
use Rattle.steps.specs.Encoding.{steps_of}
use Rattle.steps.specs.Lists.{Each, run_all}
use Rattle.steps.proofs.Lists.{Into, each_append, run_all_append}
use Rattle.steps.proofs.Shapes.{Backed}
use Rattle.steps.specs.Stores.{stores_from}
use Rattle.image.specs.Map.{put_in}
use Rattle.image.specs.Chain.{All, Sound}
use Rattle.image.proofs.ChainLaws.{all_map, all_split}
use Rattle.image.proofs.Stretch.{Changed, part_good}
use Rattle.image.specs.Target.{Target}
use Rattle.image.specs.Kept.{Harmless, of_sib}
use Rattle.image.proofs.KeptLaws.{harmless_in, harmless_out}
use Rattle.image.proofs.Edits.{Absent}
use Rattle.image.specs.Order.{slots_of}
use Rattle.image.proofs.Order.{Upper, upper_head, slots_top}
use Rattle.image.proofs.Blocks.{view_slot}
use Rattle.image.proofs.Stored.{Stored}
use Rattle.image.specs.Entries.{list_of}
use Rattle.image.proofs.Changes.{Stays, changed_stays}
use Rattle.image.specs.Potential.{phi}
use Rattle.image.proofs.PotentialLaws.{phi_split}
use Rattle.image.proofs.WordSplit.{word_of, Placed, split_image, Splits, split_others, split_moved, split_words}
use Rattle.image.proofs.WordSplit.{split_put_words, split_old_count, split_new_count, split_put_count, split_room}
use Rattle.image.proofs.Answers.{put_list_lem, stays_list}
use Rattle.lists.specs.Lists.{word_place, low_word, head_in}
use Rattle.lists.specs.FullLists.{moved_slots, first_key, goes_up, new_words, link_word, link_store}
use Rattle.lists.specs.FullLists.{switched_head, split_stores, split_backs, split_list}
use Rattle.lists.specs.Served.{per_put, Small, Proper, Served}
use Rattle.lists.proofs.Headers.{low_small, under_low, under_all, under_flipped}
use Rattle.lists.proofs.Parts.{parts_each, parts_run, parts_section}
use Rattle.lists.proofs.Sizes.{new_length, split_lines}
use Rattle.lists.proofs.Joined.{section_served}
use Rattle.lists.proofs.SetDel.{block_small, near_block}
use Rattle.lists.proofs.NewLeaf.{placed_stores, stores_each, new_stored, new_word, new_small, Word}

-- ---- the moved slots

-- the largest seven of a full leaf, from the smallest moved key on
pub record Moved (L : Leaf) (ss : List ℕ) : Type 0 where
  pub upper : Upper L (first_key L ss) ss
  pub seven : length ss ≡ 7
  pub least : ℕ
  pub taken : Taken L least
  pub key_is : L.key least ≡ first_key L ss

pub moved : (L : Leaf) → Right L → count L ≡ 14 → Moved L (moved_slots L)
unfolding moved_slots
moved L r full = let (lo, u, n) = slots_top L r 7 in go (drop 7 (slots_of L)) lo u (omega arith)
  where
    go : (ss : List ℕ) (lo : ℕ) → Upper L lo ss → length ss ≡ 7 → Moved L ss
    go [] lo u n = absurd (omega arith)
    go (s ∷ ss) lo u n = record {
      upper = upper_head L lo s ss u;
      seven = n;
      least = s;
      taken = u.taken.0;
      key_is = refl;
    }

-- the switched header's word 0, over the old word 1
pub switched_whole : (w : ℕ → ℕ) → Small w → (b : ℕ) → Moved (view w b) (moved_slots (view w b))
    → whole (low_word (switched_head w b)) (block w b 1) ≡ switched_head w b
switched_whole w small b half =
    let ss : List ℕ = moved_slots (view w b) in
    under_low (switched_head w b) (block w b 1)
    (under_flipped (cleared_all (head_in w b) ss) (block w b 1)
    (under_all ss (head_in w b) (block w b 1)
    (all_map (λ s. Taken (view w b) s) (λ s. s < 14) (view_slot w b) ss half.upper.taken)
    (record { low = block w b 0; small = block_small w small b 0; is = refl })))

-- ---- the write-backs

new_backed : (b c p : ℕ) → word_place c 0 ≤ p → p < word_place c 0 + 32 → Backed (split_backs b c) (line p)
new_backed b c p l h =
    elim (ℕ_discrete (line p) (4 * c)) [
      | yes e ↦ record { index = 0; inside = omega arith; is = ap write_back (sym e) }
      | no x ↦ elim (ℕ_discrete (line p) (4 * c + 1)) [
        | yes e ↦ record { index = 1; inside = omega arith; is = ap write_back (sym e) }
        | no y ↦ elim (ℕ_discrete (line p) (4 * c + 2)) [
          | yes e ↦ record { index = 2; inside = omega arith; is = ap write_back (sym e) }
          | no z ↦ let e : line p ≡ 4 * c + 3 = omega arith in
              record { index = 3; inside = omega arith; is = ap write_back (sym e) }
        ]
      ]
    ]

old_backed : (b c i : ℕ) → 30 ≤ i → i < 32 → Backed (split_backs b c) (line (word_place b i))
old_backed b c i l h =
    let e : line (word_place b i) ≡ 4 * b + 3 = omega arith in
    record { index = 4; inside = omega arith; is = ap write_back (sym e) }

-- ---- the split

module _ (rule : Rule) (L : Lawful rule) (w : ℕ → ℕ) (small : Small w) (N : ℕ) (some : 0 < N) (most : N ≤ 256) (xs : List ℕ)
    (b c : ℕ) (ys : List ℕ) (S : Sound (view w) N (xs ++ (b ∷ ys))) (fresh : All (λ x. x ≢ c) (xs ++ (b ∷ ys))) (room : c < N)
    (full : count (view w b) ≡ 14) (k v : ℕ) (key : k < 2 ^ 64) (val : v < 2 ^ 64) where
  abbrev bs : List ℕ
  bs = xs ++ (b ∷ ys)

  abbrev ss : List ℕ
  ss = moved_slots (view w b)

  abbrev up : Bool
  up = goes_up (view w b) k

  abbrev low : ℕ
  low = low_word (switched_head w b)

  abbrev words : List ℕ
  words = new_words (goes_up (view w b) k) (view w b) (moved_slots (view w b)) k v

  inside : b < N
  inside = near_block (view w) N xs b ys S some

  half : Moved (view w b) (moved_slots (view w b))
  half = moved (view w b) (part_good (view w) N xs (b ∷ []) ys S).0.right full

  long : length words ≡ 32
  long = new_length up (view w b) ss k v ∙ omega (arith, half.seven)

  -- what is stored in the new block, and the image after the whole split
  abbrev placed : ℕ → ℕ
  placed = run_all upd (stores_from (word_place c 0) words) w

  abbrev pub parted : ℕ → ℕ
  parted = split_image w placed b c low

  is_placed : Placed w placed c (word_of (new_stored up w b ss k v))
  is_placed = placed_stores w c (word_of (new_stored up w b ss k v)) words long (new_word up w b ss k v half.seven)

  splits : Splits w N xs b c ys (first_key (view w b) (moved_slots (view w b))) (moved_slots (view w b)) 7 low
  splits = record {
    sound = S;
    fresh = fresh;
    inside = room;
    upper = half.upper;
    fits = omega (arith, half.seven);
    some = omega (arith, half.seven);
    more = omega (arith, half.seven);
    switch = switched_whole w small b half;
  }

  -- ---- its steps

  abbrev early : List Step
  early = split_stores w b c k v

  pub split_run : run upd (steps_of (split_list w b c k v)) w (length (split_list w b c k v)) ≡ parted
  unfolding split_list
  split_run =
      parts_run early (split_backs b c) [] (word_place b 0) low upd w (tt, (tt, (tt, (tt, (tt, tt)))))
      ∙ ap (λ (m : ℕ → ℕ). upd m (word_place b 0) low) (run_all_append upd (stores_from (word_place c 0) words) (link_store w b c) w)

  split_proper : Each (Proper N) (split_list w b c k v)
  unfolding split_list
  split_proper =
      parts_each early (split_backs b c) [] (word_place b 0) low (Proper N)
      (each_append (Proper N) (stores_from (word_place c 0) words) (link_store w b c)
      (stores_each (Proper N) Word (word_place c 0) words (new_small w small b up ss k v half.seven key val)
      (λ p x l h a. (omega (arith, long), a)))
      ((omega (arith, inside), omega arith), tt))
      (omega arith, (omega arith, (omega arith, (omega arith, (omega (arith, inside), tt)))))
      tt
      tt
      (omega (arith, inside), low_small (switched_head w b))
      (omega (arith, inside))

  -- a store to the new block is harmless
  out : (p x : ℕ) → word_place c 0 ≤ p → p < word_place c 0 + 32 → Harmless w bs p x
  out p x l h =
      let e : 32 * c + (p - 32 * c) ≡ p = omega arith in
      rw e at (harmless_out w bs c (p - 32 * c) x fresh (omega arith))

  split_section : Section line rule (Harmless w bs) (steps_of (split_list w b c k v)) (length (split_list w b c k v))
  unfolding split_list
  split_section =
      parts_section early (split_backs b c) [] (word_place b 0) low rule L (Harmless w bs)
      (each_append (Into Early) (stores_from (word_place c 0) words) (link_store w b c)
      (stores_each (Into Early) Word (word_place c 0) words (new_small w small b up ss k v half.seven key val)
      (λ p x l h a. (out p x l (omega (arith, long)), inl (new_backed b c p l (omega (arith, long)))))) (
        (
          harmless_in w xs b ys (link_word w b) c S.distinct (omega arith) (of_sib refl),
          inl (old_backed b c (link_word w b) (omega arith) (omega arith)),
        ),
        tt,
      ))
      (tt, (tt, (tt, (tt, (tt, tt)))))
      tt
    where
      Early : ℕ → ℕ → Type 0
      Early q x = Harmless w bs q x × (Backed (split_backs b c) (line q) ⊎ (line q ≡ line (word_place b 0)))

  -- ---- the image after it

  stored_as : (t : Bool) → up ≡ t → Placed w placed c (word_of (new_stored t w b ss k v))
  stored_as t e =
      subst (λ (R : Stored). Placed w placed c (word_of R)) (ap (λ (x : Bool). new_stored x w b ss k v) e) is_placed

  old_half : count (view parted b) ≡ 7
  old_half = omega (arith, split_old_count splits (new_stored up w b ss k v) placed is_placed, half.seven)

  -- with n entries more in the new leaf
  split_pays : (n : ℕ) → count (view parted c) ≡ 7 + n
      → phi (view parted) (xs ++ (b ∷ c ∷ ys)) + 42 ≡ phi (view w) bs + 6 * n
  split_pays n more =
      phi_split 6 7 (view w) (view parted) N xs b c ys S fresh
      (split_others w placed b c low (new_stored up w b ss k v) is_placed (all_split (λ x. x ≢ c) xs (b ∷ ys) fresh).1.0)
      full
      old_half
      n
      more

  pub up_served : goes_up (view w b) k ≡ true → Target (view w) b ys k → Absent (view w b) k
      → Served rule w N (xs ++ (b ∷ ys)) (split_list w b c k v) (put_in k v (list_of (view w) (xs ++ (b ∷ ys)))) per_put
  unfolding goes_up
  up_served e target absent =
      section_served rule L w N bs S (split_list w b c k v) (put_in k v (list_of (view w) bs)) per_put split_proper split_section parted
      split_run
      (record {
        chain = xs ++ (b ∷ c ∷ ys);
        sound = changed.sound;
        list = put_list_lem (view w) (view parted) N bs (xs ++ (b ∷ c ∷ ys)) S k v changed;
        few = omega (arith, split_lines w b c k v);
        fair = omega arith;
        pays = omega (
          arith,
          split_lines w b c k v,
          split_pays 1 (split_put_count splits k v target absent 6 (omega arith) placed (stored_as true e)
              ∙ ap (λ (n : ℕ). n + 1) half.seven),
        );
      })
    where
      changed : Changed (view w) (view parted) N bs (xs ++ (b ∷ c ∷ ys)) k (λ z. z ≡ v)
      changed =
          split_put_words splits k v target absent 6 (omega arith) placed (stored_as true e) ((view w b).key half.least)
          ((view w b).val half.least)
          (split_moved splits half.least half.taken (omega (arith, half.key_is)))
          (omega (arith, half.key_is, ltb-true (first_key (view w b) ss) k e))

  module _ (stays : goes_up (view w b) k ≡ false) where
    same : Stays (view w) (view parted) N bs (xs ++ (b ∷ c ∷ ys))
    same =
        let i : In (view w b) ((view w b).key half.least) ((view w b).val half.least) =
        record { at = half.least; taken = half.taken; key_is = refl; val_is = refl } in
        changed_stays (view w) (view parted) N xs b ys (xs ++ (b ∷ c ∷ ys)) S _ _ i
        (split_words splits placed (stored_as false stays) ((view w b).key half.least) ((view w b).val half.least) i)

    pub split_served : Served rule w N (xs ++ (b ∷ ys)) (split_list w b c k v) (list_of (view w) (xs ++ (b ∷ ys))) 0
    split_served =
        section_served rule L w N bs S (split_list w b c k v) (list_of (view w) bs) 0 split_proper split_section parted split_run
        (record {
          chain = xs ++ (b ∷ c ∷ ys);
          sound = same.sound;
          list = stays_list (view w) (view parted) N bs (xs ++ (b ∷ c ∷ ys)) S same;
          few = omega (arith, split_lines w b c k v);
          fair = omega arith;
          pays = omega (
            arith,
            split_lines w b c k v,
            split_pays 0 (split_new_count splits placed (stored_as false stays) ∙ half.seven),
          );
        })

    -- what the plain put that follows finds
    pub record PutRoom : Type 0 where
      pub sound : Sound (view parted) N (xs ++ (b ∷ c ∷ ys))
      pub list : list_of (view parted) (xs ++ (b ∷ c ∷ ys)) ≡ list_of (view w) (xs ++ (b ∷ ys))
      pub target : Target (view parted) b (c ∷ ys) k
      pub absent : Absent (view parted b) k
      pub half : count (view parted b) ≡ 7

    pub put_room : Target (view w) b ys k → Absent (view w b) k → PutRoom
    unfolding goes_up
    put_room target absent =
        let r = split_room splits placed (stored_as false stays) k below target absent in
        record {
          sound = same.sound;
          list = stays_list (view w) (view parted) N bs (xs ++ (b ∷ c ∷ ys)) S same;
          target = r.0;
          absent = r.1;
          half = old_half;
        }
      where
        other : k ≢ first_key (view w b) ss
        other e =
            absent ((view w b).val half.least)
            (record { at = half.least; taken = half.taken; key_is = half.key_is ∙ sym e; val_is = refl })

        below : k < first_key (view w b) ss
        below = omega (arith, ltb-false (first_key (view w b) ss) k stays, other)
