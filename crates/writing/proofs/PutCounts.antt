-- How many line writes and word writes a put has, by its number of steps.
use Rattle.std.specs.Prelude.{◌≡◌, refl, Bool, true, false, ◌⊎◌, ℕ, Ok, ◌+◌, ◌-◌, ◌*◌, ◌≤◌}
use Rattle.std.proofs.Common.{sym, ◌∙◌, arith, ne_eqb, lt-ltb, le-ltb, length-append}
use Rattle.std.proofs.Math.Path.{ap, ap₂}
use Rattle.std.proofs.Math.Bool.{cond}
use mathlib.Core.List.{List, [], ◌++◌}
use Rattle.std.proofs.Math.Logic.{inl, inr}
use Rattle.std.proofs.Math.Decide.{dec_lt}
use Rattle.std.proofs.Math.ListN.{length}
use Rattle.words.specs.Below.{count_below}
use Rattle.leaf.specs.Leaf.{Leaf, Right, occ_in, view}
use Rattle.leaf.specs.Search.{lowest_vacant, count}
use Rattle.steps.specs.Model.{is_line_write, is_word_write}
use Rattle.steps.specs.declared.Step.{Step}
use Rattle.steps.specs.Encoding.{written}
use Rattle.lists.specs.Lists.{head_in, far_put, put_at, put_found, plain_put}
use Rattle.lists.specs.FullLists.{moved_slots, goes_up, after, split_list, put_below, full_put}
use Rattle.lists.specs.Served.{lines_of, words_of}
use Rattle.lists.proofs.FullPut.{moved}
use Rattle.lists.proofs.Parts.{total_append}
use Rattle.lists.proofs.Sizes.{by_slot_lem, near_size, near_words, far_lines, far_words, split_length, split_lines, split_words}
use Rattle.emit.specs.Appended.{Wrote, appended_start}
use Rattle.split.specs.Full.{FullPut, HasLeaf}
use Rattle.writing.specs.Writing.{outcome, made_as}
use Rattle.writing.specs.declared.Made.{Made}
use Rattle.writing.specs.PutCounts.{counts, full_lines, plain_lines}

-- ---- a list told by its number of steps, its line writes and its word writes

told : (l : List Step) (list : List ℕ) (n lines words : ℕ) → n ≡ length l → lines ≡ lines_of l → words ≡ words_of l
    → made_as (Ok (counts n lines words)) (written l list) ≡ outcome 0 l list
told l list n lines words a b c = λ i. record { answer = 0; steps = a i; lines = b i; words = c i; list = written l list }

-- ---- a plain put: 5 steps into line 0, else at least 8; each line write has its fence

record Plain (l : List Step) : Type 0 where
  some : 5 ≤ length l
  lines : plain_lines (length l) ≡ lines_of l
  words : words_of l + 2 * lines_of l ≡ length l

plain_at : (h : ℕ) (L : Leaf) (b s k v : ℕ) → Plain (put_at h L b s k v)
unfolding put_at
plain_at h L b s k v =
    elim (dec_lt s 3) [
      | yes l ↦ rw (lt-ltb s 3 l)
          (let z = near_size h b s k v in
          record {
            some = omega (arith, z.0);
            lines = ap plain_lines z.0 ∙ sym z.1;
            words = omega (arith, z.0, z.1, near_words h b s k v);
          })
      | no l ↦ rw (le-ltb s 3 (omega arith))
          (let z = far_words h L b s k v in
          let y = far_lines h L b s k v in
          record {
            some = omega (arith, z.1);
            lines = ap (λ (t : Bool). cond t 1 2) (ne_eqb (length (far_put h L b s k v)) 5 (λ e. omega (arith, z.1, e))) ∙ sym y;
            words = omega (arith, z.0, y);
          })
    ]

module _ (h : ℕ) (L : Leaf) (b s k v n : ℕ) (list behind : List ℕ) (w : Wrote list 0 (put_at h L b s k v) behind n) where
  pub plain_some : 5 ≤ n
  plain_some = omega (arith, w.1, (plain_at h L b s k v).some)

  -- what is told of a plain put that was written
  pub plain_wrote : (m : Made) → 112 ≤ length list → m ≡ counts n (plain_lines n) (n - (plain_lines n + plain_lines n))
      → made_as (Ok m) behind ≡ outcome 0 (put_at h L b s k v) list
  plain_wrote m room told_as =
      let P = put_at h L b s k v in
      let z = plain_at h L b s k v in
      let q : plain_lines n ≡ lines_of P = ap plain_lines w.1 ∙ z.lines in
      ap₂ (λ (x : Made) (y : List ℕ). made_as (Ok x) y) told_as (w.0 ∙ appended_start P list (omega (arith, w.1, w.2)))
      ∙ told P list n (plain_lines n) (n - (plain_lines n + plain_lines n)) w.1 q (omega (arith, w.1, q, z.words))

-- ---- a put into a full leaf: 42 steps of the split, 6 of them line writes and 2 fences, and the plain put that may follow

below : (t : Bool) (w : ℕ → ℕ) (b c k v : ℕ) → (put_below t w b c k v ≡ []) ⊎ Plain (put_below t w b c k v)
unfolding plain_put
below true w b c k v = inl refl
below false w b c k v =
    let x = after (split_list w b c k v) w in
    by_slot_lem (λ y. (put_found y (head_in x b) (view x b) b k v ≡ []) ⊎ Plain (put_found y (head_in x b) (view x b) b k v))
    (lowest_vacant (occ_in (head_in x b)) 14)
    (λ s e. inr (plain_at (head_in x b) (view x b) b s k v))
    (λ e. inl refl)

record Full (l : List Step) : Type 0 where
  some : 42 ≤ length l
  lines : full_lines (length l) ≡ lines_of l
  more : 6 ≤ lines_of l
  words : words_of l + 2 * lines_of l ≡ length l + 4

module _ (w : ℕ → ℕ) (b c k v : ℕ) (seven : length (moved_slots (view w b)) ≡ 7) where
  full_counts : Full (full_put w b c k v)
  unfolding full_put count_below
  full_counts =
      elim (below (goes_up (view w b) k) w b c k v) [
        | inl e ↦
            let z : length B ≡ 0 = ap (λ (l : List Step). length l) e in
            let y : lines_of B ≡ 0 = ap lines_of e in
            let x : words_of B ≡ 0 = ap words_of e in
            let n : length (S ++ B) ≡ 42 = omega (arith, long, size, z) in
            record {
              some = omega (arith, n);
              lines = ap full_lines n ∙ omega (arith, lines, split_lines w b c k v, y);
              more = omega (arith, lines, split_lines w b c k v);
              words = omega (arith, words, split_words w b c k v, split_lines w b c k v, lines, n, size, x, y);
            }
        | inr p ↦
            let d : length (S ++ B) - 42 ≡ length B = omega (arith, long, size) in
            record {
              some = omega (arith, long, size);
              lines = ap (λ (t : Bool). cond t 6 (6 + plain_lines (length (S ++ B) - 42)))
                  (ne_eqb (length (S ++ B)) 42 (λ e. omega (arith, e, long, size, p.some)))
                  ∙ ap (λ (m : ℕ). 6 + plain_lines m) d ∙ omega (arith, p.lines, lines, split_lines w b c k v);
              more = omega (arith, lines, split_lines w b c k v);
              words = omega (arith, words, split_words w b c k v, split_lines w b c k v, lines, long, size, p.words);
            }
      ]
    where
      S : List Step
      S = split_list w b c k v

      B : List Step
      B = put_below (goes_up (view w b) k) w b c k v

      size : length S ≡ 42
      size = split_length w b c k v ∙ omega (arith, seven)

      long : length (S ++ B) ≡ length S + length B
      long = length-append S B

      lines : lines_of (S ++ B) ≡ lines_of S + lines_of B
      lines = total_append is_line_write S B

      words : words_of (S ++ B) ≡ words_of S + words_of B
      words = total_append is_word_write S B

-- what is told of a put into a full leaf that was written
module _ (w : ℕ → ℕ) (h : ℕ) (L : Leaf) (b c k v n : ℕ) (list behind : List ℕ) (wrote : FullPut h L b c k v list behind n)
    (has : HasLeaf h L b c w) (right : Right L) (full : count L ≡ 14) where
  seven : length (moved_slots (view w b)) ≡ 7
  seven = ap (λ (M : Leaf). length (moved_slots M)) has.leaf ∙ (moved L right full).seven

  pub full_some : 42 ≤ n
  full_some = omega (arith, (wrote w has).1, (full_counts w b c k v seven).some)

  pub full_wrote : (m : Made) → m ≡ counts n (full_lines n) (n - (full_lines n + (full_lines n - 4)))
      → made_as (Ok m) behind ≡ outcome 0 (full_put w b c k v) list
  full_wrote m told_as =
      let z = full_counts w b c k v seven in
      let is = (wrote w has).1 in
      let q : full_lines n ≡ lines_of (full_put w b c k v) = ap full_lines is ∙ z.lines in
      ap₂ (λ (x : Made) (y : List ℕ). made_as (Ok x) y) told_as (wrote w has).0
      ∙ told (full_put w b c k v) list n (full_lines n) (n - (full_lines n + (full_lines n - 4))) is q
      (omega (arith, is, q, z.words, z.more, z.some))
