-- The plain put, in line 0 and past it.
use Prim.Native.Nat.{ℕ, suc, ◌+◌, ◌*◌, ◌^◌, ◌≤◌, ◌<◌}
use Rattle.std.proofs.Math.Decide.{dec_lt}
use native.Mathlib.Omega.{arith}
use Rattle.std.specs.Prelude.{true, false, List, ◌∷◌, ◌++◌, ◌≡◌, ◌⊎◌, ◌≢◌, length}
use Rattle.std.proofs.Math.Path.{refl, ap}
use Rattle.std.proofs.Common.{sym, ◌∙◌, lt-ltb, le-ltb}
use Rattle.std.proofs.Math.Logic.{inl}
use Rattle.words.specs.Update.{upd}
use Rattle.header.specs.Header.{whole}
use Rattle.leaf.specs.Leaf.{occ_in, block, view}
use Rattle.steps.specs.declared.Step.{Step}
use Rattle.steps.specs.declared.Step.TheVariants.{WriteBack as write_back}
use Rattle.steps.specs.Model.{Rule, line, run}
use Rattle.steps.proofs.Settling.{Lawful}
use Rattle.steps.specs.Section.{Section}
use Rattle.steps.specs.Encoding.{steps_of}
use Rattle.steps.specs.Lists.{Each}
use Rattle.steps.proofs.Lists.{Into, into_map}
use Rattle.steps.proofs.Rules.{lines_in_lines}
use Rattle.steps.proofs.Shapes.{Backed, one_line_section}
use Rattle.image.specs.Map.{put_in}
use Rattle.image.specs.Chain.{Sound}
use Rattle.image.specs.Copies.{Copy}
use Rattle.image.specs.Target.{Target}
use Rattle.image.specs.Kept.{Unused, Harmless, of_key, of_val}
use Rattle.image.proofs.KeptLaws.{harmless_in}
use Rattle.image.proofs.Edits.{Absent}
use Rattle.image.proofs.Blocks.{only_refl, only_store, only_others, put_entry}
use Rattle.image.proofs.Same.{Same}
use Rattle.image.proofs.Stretch.{Changed}
use Rattle.image.specs.Entries.{list_of}
use Rattle.image.proofs.PotentialLaws.{phi_put}
use Rattle.image.proofs.WordCalls.{put_words, put_only, put_words_lem, put_words_count}
use Rattle.image.proofs.WordMoves.{only_copies, new_head, moved_image, Moving, moved_prints, moved_words_lem, moved_words_count}
use Rattle.image.proofs.Answers.{put_list_lem}
use Rattle.lists.specs.Lists.{word_place, key_place, val_place, low_word, high_word, head_in, entry_steps, near_put}
use Rattle.lists.specs.Lists.{last_beside, copies_beside, filled_head, far_stores, far_backs, high_store, far_put, put_at}
use Rattle.lists.specs.Served.{per_put, Small, Proper, Served}
use Rattle.lists.proofs.Headers.{Fit, two_words, low_small, high_small, whole_fit, under_low, under_marked}
use Rattle.lists.proofs.Headers.{fit_marked, fit_copied}
use Rattle.lists.proofs.Parts.{parts_each, parts_run, parts_section}
use Rattle.lists.proofs.Beside.{Beside, beside, fits_raise, beside_fit, copied_is, copies_run, copies_each}
use Rattle.lists.proofs.Sizes.{near_size, far_lines}
use Rattle.lists.proofs.Joined.{section_served}
use Rattle.lists.proofs.SetDel.{block_small, near_block}

-- ---- the put

module _ (rule : Rule) (L : Lawful rule) (w : ℕ → ℕ) (small : Small w) (N : ℕ) (some : 0 < N) (xs : List ℕ) (b : ℕ) (ys : List ℕ)
    (S : Sound (view w) N (xs ++ (b ∷ ys))) (k v : ℕ) (key : k < 2 ^ 64) (val : v < 2 ^ 64) (target : Target (view w) b ys k)
    (absent : Absent (view w b) k) (s : ℕ) (slot : s < 14) (vacant : occ_in (head_in w b) s ≡ false) where
  abbrev bs : List ℕ
  bs = xs ++ (b ∷ ys)

  inside : b < N
  inside = near_block (view w) N xs b ys S some

  free : (view w b).occ s ≡ false
  unfolding view
  free = vacant

  harmless : (i x : ℕ) → Unused (block w b) i x → i < 32 → Harmless w bs (word_place b i) x
  harmless i x u l = harmless_in w xs b ys i x S.distinct l u

  pub near_served : s < 3
      → Served rule w N (xs ++ (b ∷ ys)) (near_put (head_in w b) b s k v) (put_in k v (list_of (view w) (xs ++ (b ∷ ys)))) per_put
  unfolding near_put
  near_served near =
      section_served rule L w N bs S (near_put (head_in w b) b s k v) (put_in k v (list_of (view w) bs)) per_put (
        (omega (arith, inside), key),
        (
          (omega (arith, inside), val),
          ((omega (arith, inside), low_small (new_head (block w b) s k)), (omega (arith, inside), (tt, tt))),
        ),
      )
      (one_line_section line lines_in_lines rule L (Harmless w bs) (entry_steps b s k v) (word_place b 0) low (
        (harmless (2 + 2 * s) k (of_key s slot vacant refl) (omega arith), omega arith),
        ((harmless (3 + 2 * s) v (of_val s slot vacant refl) (omega arith), omega arith), tt),
      ))
      (put_words w b s k v low)
      refl
      (record {
        chain = bs;
        sound = c.sound;
        list = put_list_lem (view w) (view (put_words w b s k v low)) N bs bs S k v c;
        few = omega (arith, (near_size (head_in w b) b s k v).1);
        fair = omega arith;
        pays = omega (
          arith,
          (near_size (head_in w b) b s k v).1,
          phi_put 6 7 (view w) (view (put_words w b s k v low)) N xs b ys S (only_others (put_only w b s k v low slot))
              (put_words_count w N xs b ys S k v target absent s slot free low head),
        );
      })
    where
      low : ℕ
      low = low_word (new_head (block w b) s k)

      head : whole low (block w b 1) ≡ new_head (block w b) s k
      head =
          under_low (new_head (block w b) s k) (block w b 1)
          (under_marked (head_in w b) (block w b 1) s k (omega arith)
          (record { low = block w b 0; small = block_small w small b 0; is = refl }))

      c : Changed (view w) (view (put_words w b s k v low)) N bs bs k (λ u. u ≡ v)
      c = put_words_lem w N xs b ys S k v target absent s slot free low head

  -- ---- past line 0

  module _ (past : 3 ≤ s) (before : (j : ℕ) → j < s → occ_in (head_in w b) j ≡ true) where
    abbrev cs : List Copy
    cs = copies_beside (head_in w b) s

    abbrev filled : ℕ
    filled = filled_head (head_in w b) (view w b) s k

    abbrev low : ℕ
    low = low_word (filled_head (head_in w b) (view w b) s k)

    abbrev high : ℕ
    high = high_word (filled_head (head_in w b) (view w b) s k)

    abbrev word1 : List Step
    word1 = high_store (head_in w b) (view w b) b s k

    abbrev early : List Step
    early = far_stores (head_in w b) (view w b) b s k v

    abbrev far : List Step
    far = far_put (head_in w b) (view w b) b s k v

    moving : Moving w N xs b ys s k (copies_beside (head_in w b) s) low high
    unfolding filled_head view
    moving = record {
      sound = S;
      target = target;
      absent = absent;
      slot = slot;
      past = past;
      vacant = free;
      line = λ j l. before j (omega arith);
      fits = fits_raise (occ_in (head_in w b)) 0 (suc s) (suc (last_beside s)) 14 cs (omega (arith, (beside b s past slot).top))
          (beside_fit (head_in w b) b s past slot);
      head = two_words filled ∙ copied_is w b cs (new_head (block w b) s k);
    }

    fit : Fit filled
    unfolding filled_head
    fit =
        fit_copied (view w b) (occ_in (head_in w b)) cs (new_head (block w b) s k) 0 (suc s) 14 moving.fits (omega arith)
        (fit_marked (head_in w b) s k slot
        (whole_fit (block w b 0) (block w b 1) (block_small w small b 0) (block_small w small b 1)))

    -- every store of an entry is to a vacant slot of the line
    abbrev Early : ℕ → ℕ → Type 0
    Early q x = Harmless w bs q x × (line q ≡ line (key_place b s))

    slot_stores : (t j u : ℕ) → s ≤ t → t ≤ last_beside s → occ_in (head_in w b) t ≡ false
        → Early (key_place b t) j × Early (val_place b t) u
    slot_stores t j u l h o =
        let r : Beside b s (last_beside s) = beside b s past slot in (
          (harmless (2 + 2 * t) j (of_key t (omega arith) o refl) (omega arith), r.keys t l h),
          (harmless (3 + 2 * t) u (of_val t (omega arith) o refl) (omega arith), r.vals t l h),
        )

    early_stores : Each (Into Early) early
    early_stores =
        let y = slot_stores s k v (omega arith) (beside b s past slot).from vacant in (
          y.0,
          (
            y.1,
            copies_each (Into Early) (occ_in (head_in w b)) (view w b) b cs 0 (suc s) (suc (last_beside s))
                (beside_fit (head_in w b) b s past slot)
                (λ q j l h. slot_stores q ((view w b).key j) ((view w b).val j) (omega arith) (omega arith)),
          ),
        )

    early_proper : Each (Proper N) early
    unfolding view
    early_proper = (
      (omega (arith, inside), key),
      (
        (omega (arith, inside), val),
        copies_each (Proper N) (occ_in (head_in w b)) (view w b) b cs 0 (suc s) 14 moving.fits
            (λ q j l h o. (
              (omega (arith, inside), block_small w small b (2 + 2 * j)),
              (omega (arith, inside), block_small w small b (3 + 2 * j)),
            )),
      ),
    )

    far_run : run upd (steps_of far) w (length far) ≡ moved_image w b s k v cs low high
    unfolding far_put
    far_run =
        parts_run early (far_backs b s) word1 (word_place b 0) low upd w (tt, tt)
        ∙ ap (λ (m : ℕ → ℕ). upd (upd m (word_place b 1) high) (word_place b 0) low) (copies_run w b cs _)

    far_section : Section line rule (Harmless w bs) (steps_of far) (length far)
    unfolding far_put
    far_section =
        parts_section early (far_backs b s) word1 (word_place b 0) low rule L (Harmless w bs)
        (into_map Early (λ q x. Harmless w bs q x × (Backed (far_backs b s) (line q) ⊎ (line q ≡ line (word_place b 0))))
        (λ q x h. (h.0, inl (record { index = 0; inside = omega arith; is = ap write_back (sym h.1) })))
        early
        early_stores)
        (tt, tt)
        ((harmless 1 high (moved_prints moving (block_small w small b 0) (low_small filled)) (omega arith), omega arith), tt)

    far_proper : Each (Proper N) far
    unfolding far_put
    far_proper =
        parts_each early (far_backs b s) word1 (word_place b 0) low (Proper N) early_proper (omega (arith, inside), tt) tt
        ((omega (arith, inside), high_small filled fit), tt)
        (omega (arith, inside), low_small filled)
        (omega (arith, inside))

    far_others : (x : ℕ) → x ≢ b → Same (view w x) (view (moved_image w b s k v cs low high) x)
    far_others =
        only_others
        (only_store
        (only_store
        (only_copies (block w b) w b (occ_in (head_in w b)) cs _ (put_entry (block w b) s k v) 0 (suc s) 14 moving.fits (omega arith)
        (only_store (only_store (only_refl w b) (2 + 2 * s) k (omega arith)) (3 + 2 * s) v (omega arith)))
        1 high (omega arith))
        0 low (omega arith))

    pub far_served : Served rule w N (xs ++ (b ∷ ys)) (far_put (head_in w b) (view w b) b s k v)
        (put_in k v (list_of (view w) (xs ++ (b ∷ ys)))) per_put
    far_served =
        section_served rule L w N bs S (far_put (head_in w b) (view w b) b s k v) (put_in k v (list_of (view w) bs)) per_put far_proper
        far_section
        (moved_image w b s k v cs low high)
        far_run
        (record {
          chain = bs;
          sound = c.sound;
          list = put_list_lem (view w) (view (moved_image w b s k v cs low high)) N bs bs S k v c;
          few = omega (arith, far_lines (head_in w b) (view w b) b s k v);
          fair = omega arith;
          pays = omega (
            arith,
            far_lines (head_in w b) (view w b) b s k v,
            phi_put 6 7 (view w) (view (moved_image w b s k v cs low high)) N xs b ys S far_others
                (moved_words_count moving v),
          );
        })
      where
        c : Changed (view w) (view (moved_image w b s k v cs low high)) N bs bs k (λ u. u ≡ v)
        c = moved_words_lem moving v

  -- ---- either

  pub put_at_served : ((j : ℕ) → j < s → occ_in (head_in w b) j ≡ true)
      → Served rule w N (xs ++ (b ∷ ys)) (put_at (head_in w b) (view w b) b s k v) (put_in k v (list_of (view w) (xs ++ (b ∷ ys)))) per_put
  unfolding put_at
  put_at_served before =
      elim (dec_lt s 3) [
        | yes h ↦ rw (lt-ltb s 3 h) (near_served h)
        | no h ↦ rw (le-ltb s 3 (omega arith)) (far_served (omega arith) before)
      ]
