-- When a list serves: it is a section whose early stores are harmless and whose end is right; or it is two lists, of
-- which the first changes no entry and pays for itself, and the second serves from there.
use Rattle.std.specs.Prelude.{ℕ, ◌+◌, ◌*◌, ◌≤◌, List, ◌++◌, ◌≡◌, ◌⊎◌, length}
use Rattle.std.proofs.Common.{arith, sym, ap, ◌∙◌, inl, inr, length-append}
use Rattle.words.specs.Update.{upd}
use Rattle.words.specs.BelowLaws.{count_from, count_le, count_cong}
use Rattle.leaf.specs.Leaf.{view}
use Rattle.steps.specs.declared.Step.{Step}
use Rattle.steps.specs.Model.{line, run, cut, Rule, is_line_write, line_writes}
use Rattle.steps.proofs.Settling.{Lawful}
use Rattle.steps.specs.Section.{Section}
use Rattle.steps.proofs.Section.{section_cut}
use Rattle.steps.proofs.Concatenation.{run_cong, run_from}
use Rattle.steps.specs.Encoding.{steps_of}
use Rattle.steps.specs.Lists.{Each}
use Rattle.steps.proofs.Lists.{each_append, at_left, at_right}
use Rattle.steps.proofs.Rules.{lines_in_lines}
use Rattle.steps.proofs.Shapes.{from_append, append_settled, append_cuts}
use Rattle.image.specs.Map.{Entry}
use Rattle.image.specs.Chain.{Sound}
use Rattle.image.proofs.ChainSize.{chain_unique}
use Rattle.image.specs.Kept.{Kept, Harmless}
use Rattle.image.proofs.KeptLaws.{kept_refl, kept_closed, kept_agree, kept_stays}
use Rattle.image.specs.Potential.{excess, phi}
use Rattle.image.proofs.PotentialLaws.{sum_agree}
use Rattle.image.specs.Entries.{list_of}
use Rattle.image.proofs.Answers.{stays_list}
use Rattle.lists.specs.Served.{per_line, per_cut, Proper, Left, spent, Served}

-- ---- a section

pub record Ends (N : ℕ) (w : ℕ → ℕ) (bs : List ℕ) (l : List Step) (m : List Entry) (price : ℕ) (x : ℕ → ℕ) : Type 0 where
  pub chain : List ℕ
  pub sound : Sound (view x) N chain
  pub list : list_of (view x) chain ≡ m
  pub few : line_writes (steps_of l) (length l) ≤ 6
  pub fair : price ≤ per_cut
  pub pays : spent l (length l) + phi (view x) chain ≤ phi (view w) bs + price

module _ (rule : Rule) (L : Lawful rule) (w : ℕ → ℕ) (N : ℕ) (bs : List ℕ) (S : Sound (view w) N bs) where
  -- a prefix has no more line writes
  spent_le : (l : List Step) (n : ℕ) → n ≤ length l → spent l n ≤ spent l (length l)
  spent_le l n h = omega (arith, count_le (λ i. is_line_write (steps_of l i)) n (length l) h)

  pub section_served : (l : List Step) (m : List Entry) (price : ℕ) → Each (Proper N) l
      → Section line rule (Harmless w bs) (steps_of l) (length l) → (x : ℕ → ℕ) → run upd (steps_of l) w (length l) ≡ x
      → Ends N w bs l m price x → Served rule w N bs l m price
  section_served l m price proper sec x is E = record {
    proper = proper;
    settled = sec.settled;
    whole = rw is (record { chain = E.chain; sound = E.sound; list = E.list; within = E.pays });
    cuts = λ n a h ok. elim
        (section_cut line lines_in_lines rule L upd (Harmless w bs) (Kept w bs) (λ y p v. kept_closed w bs y p v) (steps_of l)
        (length l)
        sec
        w
        (kept_refl w bs)
        n
        a
        h
        ok) [
          | inl k ↦ inl (kept n (cut upd line (steps_of l) a w n) h k)
          | inr e ↦ rw (e ∙ is) (inr (record {
            chain = E.chain;
            sound = E.sound;
            list = E.list;
            within = omega (arith, spent_le l n h, E.fair, E.pays);
          }))
        ];
  }
    where
      kept : (n : ℕ) (y : ℕ → ℕ) → n ≤ length l → Kept w bs y → Left N y (list_of (view w) bs) (spent l n) (phi (view w) bs + per_cut)
      kept n y h k =
          let st = kept_stays w N bs y S k in
          record {
            chain = bs;
            sound = st.sound;
            list = stays_list (view w) (view y) N bs bs S st;
            within = omega (arith, spent_le l n h, E.few, sum_agree (excess 6 7) (view w) (view y) bs (kept_agree w bs y k));
          }

-- ---- two lists

module _ (k l : List Step) where
  -- what the first steps of the whole cost
  spent_first : (n : ℕ) → n ≤ length k → spent (k ++ l) n ≡ spent k n
  spent_first n h =
      ap (λ (x : ℕ). per_line * x)
      (count_cong (λ i. is_line_write (steps_of (k ++ l) i)) (λ i. is_line_write (steps_of k i)) n
      (λ i b. ap is_line_write (at_left k l i (omega arith))))

  spent_on : (n : ℕ) → spent (k ++ l) (length k + n) ≡ spent k (length k) + spent l n
  spent_on n =
      omega (
        arith,
        count_from (λ i. is_line_write (steps_of (k ++ l) i)) (length k) n,
        count_cong (λ i. is_line_write (steps_of (k ++ l) (length k + i))) (λ i. is_line_write (steps_of l i)) n
            (λ i b. ap is_line_write (at_right k l i)),
        spent_first (length k) (omega arith),
      )

-- a list that leaves the entries as they are, at no price, and one that serves from there
pub join_served : (rule : Rule) (L : Lawful rule) (w : ℕ → ℕ) (N : ℕ) (bs cs : List ℕ) (k l : List Step) (m : List Entry)
    (price : ℕ) → Served rule w N bs k (list_of (view w) bs) 0 → (x : ℕ → ℕ) → run upd (steps_of k) w (length k) ≡ x
    → Sound (view x) N cs → Served rule x N cs l m price → Served rule w N bs (k ++ l) m price
join_served rule L w N bs cs k l m price A x is S B = record {
  proper = each_append (Proper N) k l A.proper B.proper;
  settled = rw (length-append k l) (append_settled line lines_in_lines rule L k l A.settled B.settled);
  whole = rw (
    length-append k l,
    run_from upd (steps_of (k ++ l)) w (length k) (length l),
    from_append k l,
    run_cong (steps_of (k ++ l)) (steps_of k) upd w (length k) (at_left k l),
    is,
  )
      (on (length l) (run upd (steps_of l) x (length l)) m price B.whole);
  cuts = λ n a h.
      append_cuts line lines_in_lines rule L k l A.settled upd w Q
      (λ n a h ok. inl (rw (spent_first k l n h) (elim (A.cuts n a h ok) [ inl y ↦ y | inr y ↦ y ])))
      (λ n a h ok. rw is (elim (B.cuts n a h ok) [
        | inl y ↦ inl (rw (← same) (on n (cut upd line (steps_of l) a x n) (list_of (view x) cs) per_cut y))
        | inr y ↦ inr (on n (cut upd line (steps_of l) a x n) m per_cut y)
      ]))
      n
      a
      (omega (arith, length-append k l));
}
  where
    Q : ℕ → (ℕ → ℕ) → Type 0
    Q n y =
        Left N y (list_of (view w) bs) (spent (k ++ l) n) (phi (view w) bs + per_cut)
        ⊎ Left N y m (spent (k ++ l) n) (phi (view w) bs + per_cut)

    mid : Left N x (list_of (view w) bs) (spent k (length k)) (phi (view w) bs + 0)
    mid = rw is at A.whole

    chain : mid.chain ≡ cs
    chain = chain_unique (view x) N mid.chain cs mid.sound S

    same : list_of (view x) cs ≡ list_of (view w) bs
    same = ap (list_of (view x)) (sym chain) ∙ mid.list

    paid : spent k (length k) + phi (view x) cs ≤ phi (view w) bs
    paid = omega (arith, mid.within, ap (phi (view x)) chain)

    on : (n : ℕ) (y : ℕ → ℕ) (m : List Entry) (bound : ℕ) → Left N y m (spent l n) (phi (view x) cs + bound)
        → Left N y m (spent (k ++ l) (length k + n)) (phi (view w) bs + bound)
    on n y m bound r = record {
      chain = r.chain;
      sound = r.sound;
      list = r.list;
      within = omega (arith, spent_on k l n, r.within, paid);
    }
