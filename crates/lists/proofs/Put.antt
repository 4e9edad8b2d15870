-- Put, whatever its list is.
use Rattle.std.specs.Prelude.{ℕ, ◌^◌, ◌≤◌, ◌<◌, false, ◌≡◌, ◌≢◌, length, Some, None}
use Rattle.std.proofs.Common.{arith, sym, ◌∙◌, subst}
use Rattle.std.proofs.Math.Decide.{ℕ_discrete}
use mathlib.Core.List.{List, [], ◌∷◌, ◌++◌, append-nil}
use Rattle.words.specs.Bools.{by_test}
use Rattle.words.specs.Update.{upd, upd_same, upd_other}
use Rattle.words.specs.BelowLaws.{count_all}
use Rattle.leaf.specs.Leaf.{occ_in, view}
use Rattle.leaf.specs.Search.{lowest_vacant, count}
use Rattle.leaf.proofs.SearchLaws.{vacant_at, vacant_none}
use Rattle.steps.specs.declared.Step.{Step}
use Rattle.steps.specs.declared.Step.TheVariants.{Store as store, WriteBack as write_back, Fence as fence}
use Rattle.steps.specs.Model.{Rule, run}
use Rattle.steps.proofs.Settling.{Lawful}
use Rattle.steps.specs.Encoding.{steps_of}
use Rattle.steps.specs.Lists.{Each, run_all}
use Rattle.steps.proofs.Lists.{run_all_lem}
use Rattle.image.specs.Map.{put_in}
use Rattle.image.specs.Chain.{All, Sound}
use Rattle.image.specs.Target.{Target}
use Rattle.image.proofs.Edits.{Absent}
use Rattle.image.specs.Entries.{list_of}
use Rattle.lists.specs.Lists.{head_in, put_at, put_found, plain_put}
use Rattle.lists.specs.FullLists.{goes_up, split_list, after, put_below, full_put, put_into, put_list}
use Rattle.lists.specs.Served.{per_put, Small, Proper, Served}
use Rattle.lists.proofs.Joined.{join_served}
use Rattle.lists.proofs.Sizes.{by_slot_lem}
use Rattle.lists.proofs.PlainPut.{put_at_served}
use Rattle.lists.proofs.FullPut.{parted, split_run, up_served, split_served, put_room, PutRoom}

-- ---- no slot is found

-- a leaf with no vacant slot is full
pub none_vacant : (w : ℕ → ℕ) (b : ℕ) → lowest_vacant (occ_in (head_in w b)) 14 ≡ None → count (view w b) ≡ 14
unfolding count view
none_vacant w b e = count_all (occ_in (head_in w b)) 14 (vacant_none (occ_in (head_in w b)) 14 e)

-- ---- a list of proper steps leaves words

pub run_small : (N : ℕ) (l : List Step) (w : ℕ → ℕ) → Each (Proper N) l → Small w → Small (run_all upd l w)
run_small N [] w a small = small
run_small N (store p v ∷ l) w a small =
    run_small N l (upd w p v) a.1 (λ q. elim (ℕ_discrete q p) [
      | yes e ↦ rw (e, upd_same w p v) a.0.1
      | no ne ↦ rw (upd_other w p v q ne) (small q)
    ])
run_small N (write_back k ∷ l) w a small = run_small N l w a.1 small
run_small N (fence ∷ l) w a small = run_small N l w a.1 small

-- ---- the plain put

module _ (rule : Rule) (L : Lawful rule) (w : ℕ → ℕ) (small : Small w) (N : ℕ) (some : 0 < N) (xs : List ℕ) (b : ℕ) (ys : List ℕ)
    (S : Sound (view w) N (xs ++ (b ∷ ys))) (k v : ℕ) (key : k < 2 ^ 64) (val : v < 2 ^ 64) (target : Target (view w) b ys k)
    (absent : Absent (view w b) k) where
  found_served : (s : ℕ) → lowest_vacant (occ_in (head_in w b)) 14 ≡ Some s
      → Served rule w N (xs ++ (b ∷ ys)) (put_at (head_in w b) (view w b) b s k v) (put_in k v (list_of (view w) (xs ++ (b ∷ ys)))) per_put
  found_served s e =
      let (l, o, t) = vacant_at (occ_in (head_in w b)) 14 s e in
      put_at_served rule L w small N some xs b ys S k v key val target absent s l o t

  pub plain_served : count (view w b) < 14
      → Served rule w N (xs ++ (b ∷ ys)) (plain_put (head_in w b) (view w b) b k v) (put_in k v (list_of (view w) (xs ++ (b ∷ ys)))) per_put
  unfolding plain_put
  plain_served more =
      by_slot_lem
      (λ x. Served rule w N (xs ++ (b ∷ ys)) (put_found x (head_in w b) (view w b) b k v)
      (put_in k v (list_of (view w) (xs ++ (b ∷ ys)))) per_put)
      (lowest_vacant (occ_in (head_in w b)) 14)
      found_served
      (λ e. absurd (omega (arith, none_vacant w b e)))

-- ---- put

module _ (rule : Rule) (L : Lawful rule) (w : ℕ → ℕ) (small : Small w) (N : ℕ) (some : 0 < N) (most : N ≤ 256) (xs : List ℕ)
    (b c : ℕ) (ys : List ℕ) (S : Sound (view w) N (xs ++ (b ∷ ys))) (k v : ℕ) (key : k < 2 ^ 64) (val : v < 2 ^ 64)
    (target : Target (view w) b ys k) (absent : Absent (view w b) k)
    (room : count (view w b) ≡ 14 → (c < N) × All (λ x. x ≢ c) (xs ++ (b ∷ ys))) where
  below_served : count (view w b) ≡ 14 → goes_up (view w b) k ≡ false
      → Served rule w N (xs ++ (b ∷ ys)) (split_list w b c k v ++ put_below false w b c k v)
      (put_in k v (list_of (view w) (xs ++ (b ∷ ys)))) per_put
  below_served full e =
      rw (← run_is)
      (join_served rule L w N (xs ++ (b ∷ ys)) (xs ++ (b ∷ c ∷ ys)) (split_list w b c k v) _ _ per_put split x at_end r.sound
      (rw (← r.list)
      (plain_served rule L x
      (subst (λ (y : ℕ → ℕ). Small y) (sym run_is) (run_small N (split_list w b c k v) w split.proper small))
      N some xs b (c ∷ ys) r.sound k v key val r.target r.absent (omega (arith, r.half)))))
    where
      x : ℕ → ℕ
      x = parted rule L w small N some most xs b c ys S (room full).1 (room full).0 full k v key val

      split : Served rule w N (xs ++ (b ∷ ys)) (split_list w b c k v) (list_of (view w) (xs ++ (b ∷ ys))) 0
      split = split_served rule L w small N some most xs b c ys S (room full).1 (room full).0 full k v key val e

      at_end : run upd (steps_of (split_list w b c k v)) w (length (split_list w b c k v)) ≡ x
      at_end = split_run rule L w small N some most xs b c ys S (room full).1 (room full).0 full k v key val

      run_is : x ≡ after (split_list w b c k v) w
      run_is = sym at_end ∙ run_all_lem upd (split_list w b c k v) w

      r : PutRoom rule L w small N some most xs b c ys S (room full).1 (room full).0 full k v key val e
      r = put_room rule L w small N some most xs b c ys S (room full).1 (room full).0 full k v key val e target absent

  pub put_served : Served rule w N (xs ++ (b ∷ ys)) (put_list w b c k v) (put_in k v (list_of (view w) (xs ++ (b ∷ ys)))) per_put
  unfolding put_list full_put
  put_served =
      by_slot_lem
      (λ x. Served rule w N (xs ++ (b ∷ ys)) (put_into x w b c k v) (put_in k v (list_of (view w) (xs ++ (b ∷ ys)))) per_put)
      (lowest_vacant (occ_in (head_in w b)) 14)
      (found_served rule L w small N some xs b ys S k v key val target absent)
      (λ e.
      let full = none_vacant w b e in
      by_test
      (λ t. Served rule w N (xs ++ (b ∷ ys)) (split_list w b c k v ++ put_below t w b c k v)
      (put_in k v (list_of (view w) (xs ++ (b ∷ ys)))) per_put)
      (goes_up (view w b) k)
      (λ u.
      rw append-nil
      (up_served rule L w small N some most xs b c ys S (room full).1 (room full).0 full k v key val u target absent))
      (below_served full))
